use Rattle.std.proofs.Common.{◌∙◌, sym, ap}
use Rattle.shim_semantics.specs.Poison.{dooms}
use Rattle.shim_tree.proofs.Beside.{place_in, place_past}
use Rattle.shim_tree.proofs.doom.is_dooming_at.Goals as goal

pub returns-then-i-statuses : goal.returns-then-i-statuses
returns-then-i-statuses g c =
    c.is_dooming.ensures ∙ sym (ap (dooms g.L.Local.ops c.args.label c.args.c.now.channel) (place_in c.args.child.now c.args.statuses.now c.args.i c.index-statuses-i.result c.if-i-statuses.true c.index-statuses-i.is))

pub returns-else-i-statuses : goal.returns-else-i-statuses
returns-else-i-statuses g c = sym (ap (dooms g.L.Local.ops c.args.label c.args.c.now.channel) (place_past c.args.child.now c.args.statuses.now c.args.i c.if-i-statuses.false))
