use Rattle.std.proofs.Common.{◌∙◌, ◌++◌, sym, ap, map, filter}
use Rattle.std.proofs.lemmas.Result.{on_ok_weaker}
use Rattle.shim_semantics.specs.Nodes.{state}
use Rattle.shim_tree.specs.NodeStatus.{nodes, together}
use Rattle.shim_run_log.specs.Events.{event_of}
use Rattle.shim_tree.specs.Beside.{nth_child}
use Rattle.shim_semantics.specs.Trees.{Poison}
use Rattle.shim_semantics.specs.Walks.{poisons_here, waited}
use Rattle.shim_tree.specs.Inserted.{all_inserted}
use Rattle.shim_tree.specs.Searching.{channels}
use Rattle.shim_tree.proofs.InsertedKeys.{inserted_in_order}
use Rattle.shim_tree.proofs.Beside.{state_place}
use Rattle.shim_tree.proofs.listing.push_poisons_of.Goals as goal

pub returns : goal.returns
returns g c =
    let o = g.L.Local.ops in
    let k = nth_child c.args.child.now (nodes c.args.statuses.now) c.args.i in
    let passes = poisons_here o c.args.l.now (together c.args.children.now (nodes c.args.statuses.now)) c.args.i k in
    let es = map event_of c.args.events.now in
    on_ok_weaker c.push_poisons.result
    (λ e. e ∙ (ap (λ z. es ++ map (Poison z) (channels c.as_slice.result.now)) (c.path.ensures.path ∙ ap o.path (sym (state_place c.args.child.now c.args.statuses.now c.args.i)))
    ∙ (ap (λ z. es ++ map (Poison (o.path (state k))) (channels z)) c.as_slice.ensures.value
    ∙ ap (λ z. es ++ map (Poison (o.path (state k))) z) (c.in_ok-put_at.ensures ∙ ap (λ z. all_inserted (channels z) (filter passes (waited o k))) c.new-chans.ensures.items ∙ inserted_in_order (filter passes (waited o k))))))
    c.push_poisons.ensures
