use Rattle.std.proofs.Common.{sym, ◌∙◌}
use Rattle.shim_waits.proofs.Judging.{nobody_there, nobody_lives, somebody_lives}
use Rattle.shim_waits.proofs.explanation.waits_there.Goals as goal

pub returns-in-None : goal.returns-in-None
returns-in-None g c = nobody_there g.L.Local.ops c.args.tree.now.root c.args.path.now (sym c.in-None.is ∙ c.found_by.ensures) c.args.c.now

pub returns-in-None-live : goal.returns-in-None-live
returns-in-None-live g c = nobody_lives g.L.Local.ops c.args.tree.now.root c.args.path.now c.in-Some.node (sym c.in-Some.is ∙ c.found_by.ensures) c.in-None-live.ensures c.args.c.now

pub returns-in-Some-live : goal.returns-in-Some-live
returns-in-Some-live g c = somebody_lives g.L.Local.ops c.args.tree.now.root c.args.path.now c.in-Some.node c.in-Some-live.process.now c.is_at.result c.args.c.now (sym c.in-Some.is ∙ c.found_by.ensures) c.in-Some-live.ensures c.is_at.ensures
