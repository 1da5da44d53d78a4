use Rattle.std.proofs.Common.{◌∙◌, sym, ap}
use Rattle.shim_tree.specs.Labels.{death_of}
use Rattle.shim_tree.proofs.Beside.{place_in, place_past}
use Rattle.shim_tree.proofs.act.death_at.Goals as goal

pub returns-then-i-statuses : goal.returns-then-i-statuses
returns-then-i-statuses g c l = c.death_of.ensures l ∙ sym (ap death_of (place_in l c.args.statuses.now c.args.i c.index-statuses-i.result c.if-i-statuses.true c.index-statuses-i.is))

pub returns-else-i-statuses : goal.returns-else-i-statuses
returns-else-i-statuses g c l = sym (ap death_of (place_past l c.args.statuses.now c.args.i c.if-i-statuses.false))
