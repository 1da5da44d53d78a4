use Rattle.std.proofs.Common.{◌-◌, ◌∙◌, ap, arith}
use Rattle.std.proofs.lemmas.Result.{on_ok_weaker, on_err_weaker}
use Rattle.shim_tree.specs.NodeStatus.{together, nodes}
use Rattle.shim_semantics.specs.Nodes.{death}
use Rattle.shim_semantics.specs.Poison.{one_poisoned}
use Rattle.shim_tree.proofs.Fills.{same_fork, place_same}
use Rattle.shim_tree.proofs.Poisonings.{poisons_here, poison_done}
use Rattle.shim_tree.proofs.poison.poison_node.Goals as goal

pub overflow_sub-label : goal.overflow_sub-label
overflow_sub-label g c =
    let p = poisons_here g.L.Local.ops c.args.chan.now.channel c.args.process.now c.args.status.now c.args.place c.in-Forked.processes c.in-Forked.statuses c.in-Forked.is c.requires.enabled in
    let s = p.some in
    let h = c.handlers-label.ensures in
    omega (arith, s, h)

pub poison_child-requires-clause-there : goal.poison_child-requires-clause-there
poison_child-requires-clause-there g c κs within =
    let p = poisons_here g.L.Local.ops c.args.chan.now.channel c.args.process.now c.args.status.now c.args.place c.in-Forked.processes c.in-Forked.statuses c.in-Forked.is c.requires.enabled in
    place_same _ c.in-Forked.processes c.args.place (λ u. c.in-Forked.processes-is u) p.there

pub returns-in-Forked-clause-ok : goal.returns-in-Forked-clause-ok
returns-in-Forked-clause-ok g c =
    let o = g.L.Local.ops in
    let ch = c.args.chan.now.channel in
    let l = c.args.process.now in
    let b = c.args.status.now in
    let i = c.args.place in
    let x = c.handlers-label.result - 1 in
    let p = poisons_here o ch l b i c.in-Forked.processes c.in-Forked.statuses c.in-Forked.is c.requires.enabled in
    on_ok_weaker c.poison_child.result
    (λ h. poison_done o ch l b i x c.in-Forked.processes _ c.in-Forked.statuses _ p (ap (λ z. z - 1) c.handlers-label.ensures)
    (h ∙ λ u. one_poisoned o ch (death x) i (together (c.in-Forked.processes-is u).items (nodes (c.in-Forked.statuses-is u).items))))
    c.poison_child.ensures.ok

pub returns-in-Forked-clause-err : goal.returns-in-Forked-clause-err
returns-in-Forked-clause-err g c =
    on_err_weaker c.poison_child.result
    (λ h. same_fork c.args.process.now c.args.status.now c.in-Forked.processes _ c.in-Forked.statuses _ c.in-Forked.is (h ∙ λ u. together (c.in-Forked.processes-is u).items (nodes (c.in-Forked.statuses-is u).items)))
    c.poison_child.ensures.err
