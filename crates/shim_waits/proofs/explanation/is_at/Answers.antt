use Rattle.std.proofs.Common.{sym}
use Rattle.shim_waits.proofs.Judging.{stands_so, stands_nowhere}
use Rattle.shim_waits.proofs.explanation.is_at.Goals as goal

pub returns-in-Some : goal.returns-in-Some
returns-in-Some g c = stands_so g.L.Local.ops c.args.process.now c.args.c.now c.in-Some.d.now c.eq.result (sym c.in-Some.ensures) c.eq.ensures

pub returns-in-None : goal.returns-in-None
returns-in-None g c = stands_nowhere g.L.Local.ops c.args.process.now c.args.c.now (sym c.in-None.ensures)
