use Rattle.std.proofs.Common.{◌∙◌, ◌+◌, ◌++◌, ap, drop}
use Rattle.shim_process.specs.Forks.{labels_from}
use Rattle.shim_locations.proofs.OneMore.{one_label_more}
use Rattle.shim_walk.proofs.initial_frame.labels_from.Goals as goal

pub loop-name-preserved : goal.loop-name-preserved
loop-name-preserved c =
    let names = c.args.names.now in
    let i = c.loop-name._name-index in
    let next = c.in_ok-next.next in
    ap (λ a. a ++ labels_from next (drop (i + 1) names)) c.in_ok-push.ensures.ok
    ∙ one_label_more c.loop-name.labels names c.loop-name.next next i c.in_ok-next.ensures c.loop-name-test.true
    ∙ c.loop-name.invariant
