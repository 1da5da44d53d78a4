use Rattle.std.proofs.Common.{sym, ◌∙◌}
use Rattle.shim_waits.proofs.Judging.{no_holder, some_holder}
use Rattle.shim_waits.proofs.explanation.is_holder.Goals as goal

pub returns-in-None : goal.returns-in-None
returns-in-None g c = no_holder g.L.Local.ops c.args.tree.now.root c.args.path.now (sym c.in-None.is ∙ c.found_by.ensures) c.args.c.now

pub returns-in-Some : goal.returns-in-Some
returns-in-Some g c = some_holder g.L.Local.ops c.args.tree.now.root c.args.path.now c.in-Some.node c.holds_up.result c.args.c.now (sym c.in-Some.is ∙ c.found_by.ensures) c.holds_up.ensures
