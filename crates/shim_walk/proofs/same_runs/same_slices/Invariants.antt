use Rattle.std.proofs.Common.{◌≡◌, ◌↔◌, drop}
use Rattle.shim_walk.proofs.same_runs.same_slices.Given as goal

abbrev pub invariant-loop-run : goal.invariant-loop-run
invariant-loop-run l = (drop l.run-index l.one ≡ l.remainder) ↔ (l.one ≡ l.other)
