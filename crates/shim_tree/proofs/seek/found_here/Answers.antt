use Rattle.std.proofs.Common.{◌∙◌, sym, ap, Some, None}
use Rattle.std.specs.Option.{option_copied}
use Rattle.shim_tree.specs.NodeStatus.{node, nodes, together}
use Rattle.shim_semantics.specs.Trees.{Close}
use Rattle.shim_tree.specs.Finding.{unnamed_channel}
use Rattle.shim_tree.proofs.Firsts.{closes_here, met_here}
use Rattle.shim_tree.proofs.seek.found_here.Goals as goal

pub returns-then-are_done : goal.returns-then-are_done
returns-then-are_done g c =
    ap (λ z. Some (Close z)) c.path.ensures.path
    ∙ closes_here g.L.Local.ops (node c.args.l.now c.args.status.now) c.args.l.now (together c.args.children.now (nodes c.args.statuses.now)) c.requires (sym c.are_done.ensures ∙ c.if-are_done.true)

pub returns-in-Some : goal.returns-in-Some
returns-in-Some g c =
    met_here g.L.Local.ops (node c.args.l.now c.args.status.now) c.args.l.now (together c.args.children.now (nodes c.args.statuses.now)) (Some c.in-Some.c.now.channel) c.requires (sym c.are_done.ensures ∙ c.if-are_done.false)
    (sym (ap (λ z. unnamed_channel (option_copied z)) c.in-Some.is) ∙ c.least_below.ensures)

pub returns-in-None : goal.returns-in-None
returns-in-None g c =
    met_here g.L.Local.ops (node c.args.l.now c.args.status.now) c.args.l.now (together c.args.children.now (nodes c.args.statuses.now)) None c.requires (sym c.are_done.ensures ∙ c.if-are_done.false)
    (sym (ap (λ z. unnamed_channel (option_copied z)) c.in-None.is) ∙ c.least_below.ensures)
