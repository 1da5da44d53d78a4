use Rattle.std.proofs.Common.{◌∙◌, sym, ap}
use Rattle.shim_semantics.specs.Nodes.{ready}
use Rattle.shim_tree.proofs.Beside.{place_in, place_past}
use Rattle.shim_tree.proofs.seek.is_ready_at.Goals as goal

pub returns-then-i-statuses : goal.returns-then-i-statuses
returns-then-i-statuses g c =
    c.is_ready.ensures ∙ sym (ap (ready g.L.Local.ops c.args.c.now.channel) (place_in c.args.child.now c.args.statuses.now c.args.i c.index-statuses-i.result c.if-i-statuses.true c.index-statuses-i.is))

pub returns-else-i-statuses : goal.returns-else-i-statuses
returns-else-i-statuses g c = c.waits_at.ensures ∙ sym (ap (ready g.L.Local.ops c.args.c.now.channel) (place_past c.args.child.now c.args.statuses.now c.args.i c.if-i-statuses.false))
