use Rattle.std.proofs.Common.{ap, ◌∙◌}
use Rattle.shim_semantics.specs.Nodes.{ready}
use Rattle.shim_semantics.specs.Poison.{is_doomed}
use Rattle.shim_tree.specs.Beside.{nth_child}
use Rattle.shim_tree.specs.NodeStatus.{nodes, together}
use Rattle.shim_tree.proofs.NodeRefs.{no_poison_past, poison_where_doomed, no_poison_unready}
use Rattle.shim_tree.proofs.node_ref.can_poison.Goals as goal

pub returns-then-place-len : goal.returns-then-place-len
returns-then-place-len g c = no_poison_past g.L.Local.ops c.args.c.now.channel c.args.place c.args.process.now c.args.status.now c.in-Forked.children c.in-Forked.statuses c.in-Forked.is c.len.result c.len.ensures c.if-place-len.true

pub returns-then-ready : goal.returns-then-ready
returns-then-ready g c =
    let o = g.L.Local.ops in
    let l = c.args.process.now in
    let ch = c.args.c.now.channel in
    let i = c.args.place in
    let m = c.index.result.now in
    poison_where_doomed o ch i l c.args.status.now c.in-Forked.children c.in-Forked.statuses c.in-Forked.is c.len.result c.len.ensures c.if-place-len.false m c.index.ensures
    c.is_ready_at-ready.result (c.is_ready_at-ready.ensures ∙ ap (λ z. ready o ch (nth_child m (nodes z) i)) c.as_slice.ensures.value) c.if-ready.true
    c.is_doomed.result (c.is_doomed.ensures ∙ λ t. is_doomed o (c.handlers-label.ensures t) ch i (together (c.as_slice-then-ready.ensures.value t) (nodes (c.as_slice-then-ready-2.ensures.value t))))

pub returns-else-ready : goal.returns-else-ready
returns-else-ready g c =
    let o = g.L.Local.ops in
    let ch = c.args.c.now.channel in
    let i = c.args.place in
    let m = c.index.result.now in
    no_poison_unready o ch i c.args.process.now c.args.status.now c.in-Forked.children c.in-Forked.statuses c.in-Forked.is c.len.result c.len.ensures c.if-place-len.false m c.index.ensures
    c.is_ready_at-ready.result (c.is_ready_at-ready.ensures ∙ ap (λ z. ready o ch (nth_child m (nodes z) i)) c.as_slice.ensures.value) c.if-ready.false
