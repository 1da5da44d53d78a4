use Rattle.std.proofs.Common.{◌∙◌, sym, ap, Some, None}
use Rattle.std.specs.Option.{option_copied}
use Rattle.shim_tree.specs.NodeStatus.{nodes, together}
use Rattle.shim_tree.specs.Beside.{nth_child}
use Rattle.shim_semantics.specs.Trees.{Poison}
use Rattle.shim_tree.specs.Finding.{unnamed_channel}
use Rattle.shim_tree.proofs.Beside.{state_place}
use Rattle.shim_tree.proofs.Firsts.{poisoned_first}
use Rattle.shim_tree.proofs.seek.poison_of.Goals as goal

pub returns-in-Some : goal.returns-in-Some
returns-in-Some g c =
    let o = g.L.Local.ops in
    ap (λ z. Some (Poison z c.in-Some.c.now.channel)) (c.path.ensures.path ∙ ap o.path (sym (state_place c.args.child.now c.args.statuses.now c.args.i)))
    ∙ poisoned_first o c.args.l.now (together c.args.children.now (nodes c.args.statuses.now)) c.args.i (nth_child c.args.child.now (nodes c.args.statuses.now) c.args.i) (Some c.in-Some.c.now.channel)
    (sym (ap (λ z. unnamed_channel (option_copied z)) c.in-Some.is) ∙ c.least_at.ensures)

pub returns-in-None : goal.returns-in-None
returns-in-None g c =
    poisoned_first g.L.Local.ops c.args.l.now (together c.args.children.now (nodes c.args.statuses.now)) c.args.i (nth_child c.args.child.now (nodes c.args.statuses.now) c.args.i) None
    (sym (ap (λ z. unnamed_channel (option_copied z)) c.in-None.is) ∙ c.least_at.ensures)
