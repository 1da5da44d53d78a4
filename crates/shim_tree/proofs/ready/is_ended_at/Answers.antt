use Rattle.std.proofs.Common.{◌∙◌, sym, ap}
use Rattle.shim_semantics.specs.Nodes.{has_ended}
use Rattle.shim_tree.proofs.Beside.{place_in, place_past}
use Rattle.shim_tree.proofs.ready.is_ended_at.Goals as goal

pub returns-then-i-statuses : goal.returns-then-i-statuses
returns-then-i-statuses g c l = c.is_ended.ensures l ∙ sym (ap has_ended (place_in l c.args.statuses.now c.args.i c.index-statuses-i.result c.if-i-statuses.true c.index-statuses-i.is))

pub returns-else-i-statuses : goal.returns-else-i-statuses
returns-else-i-statuses g c l = sym (ap has_ended (place_past l c.args.statuses.now c.args.i c.if-i-statuses.false))
