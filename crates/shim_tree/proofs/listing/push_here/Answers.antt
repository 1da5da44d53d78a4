use Rattle.std.proofs.Common.{◌∙◌, ◌++◌, ap, map, filter}
use Rattle.std.proofs.lemmas.Result.{on_ok_weaker}
use Rattle.shim_tree.specs.NodeStatus.{node, nodes, together}
use Rattle.shim_run_log.specs.Events.{event_of}
use Rattle.shim_semantics.specs.Trees.{Meet}
use Rattle.shim_semantics.specs.Walks.{meets_here, waited}
use Rattle.shim_tree.specs.Inserted.{all_inserted}
use Rattle.shim_tree.specs.Searching.{channels}
use Rattle.shim_tree.proofs.InsertedKeys.{inserted_in_order}
use Rattle.shim_tree.proofs.Walked.{fork_listed}
use Rattle.shim_tree.proofs.listing.push_here.Goals as goal

pub returns : goal.returns
returns g c =
    let o = g.L.Local.ops in
    let n = node c.args.l.now c.args.status.now in
    let before = map event_of c.push_close.new.events in
    on_ok_weaker c.push_meets.result
    (λ e. fork_listed o n c.args.l.now (together c.args.children.now (nodes c.args.statuses.now)) (map event_of c.args.events.now) before (map event_of c.push_meets.new.events) c.requires c.in_ok-push_close.ensures
    (e ∙ (ap (λ z. before ++ map Meet (channels z)) c.as_slice.ensures.value
    ∙ ap (λ z. before ++ map Meet z) (c.in_ok-put_below.ensures ∙ ap (λ z. all_inserted (channels z) (filter (meets_here o n) (waited o n))) c.new-chans.ensures.items ∙ inserted_in_order (filter (meets_here o n) (waited o n))))))
    c.push_meets.ensures
