use Rattle.std.proofs.Common.{◌≤◌, length}
use Rattle.shim_records.specs.Waiting.{AreGrown}
use Rattle.shim_records.proofs.worklist.Worklist.grow_to.Given as goal

abbrev pub invariant-loop-bound : goal.invariant-loop-bound
invariant-loop-bound l = AreGrown l.initial.self l.self × (l.bound ≤ length l.self) × (length l.self ≤ l.bound)
