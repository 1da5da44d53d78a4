use Rattle.std.proofs.Common.{◌∙◌, ◌+◌, ◌++◌, ap, drop}
use Rattle.shim_process.specs.Arguments.{numbers_from}
use Rattle.shim_locations.proofs.OneMore.{one_number}
use Rattle.shim_locations.proofs.slots.with_declared.Goals as goal

pub loop-sort-preserved : goal.loop-sort-preserved
loop-sort-preserved c =
    let declared = c.args.declared.now in
    let i = c.loop-sort._sort-index in
    let next = c.in_ok-next.next in
    ap (λ a. a ++ numbers_from next (drop (i + 1) declared)) c.in_ok-push.ensures.ok
    ∙ one_number c.loop-sort.all declared c.loop-sort.next next i c.in_ok-next.ensures c.loop-sort-test.true
    ∙ c.loop-sort.invariant
