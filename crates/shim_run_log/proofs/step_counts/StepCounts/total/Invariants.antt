use Rattle.std.proofs.Common.{◌≡◌, ◌+◌}
use Rattle.std.specs.FinMap as finite
use Rattle.shim_semantics.specs.Trees.{sum}
use Rattle.shim_run_log.specs.Reserved.{stepped}
use Rattle.shim_run_log.proofs.step_counts.StepCounts.total.Lts.Given as given

-- what is added, and what is left, is the whole
abbrev pub invariant-loop-count : given.Live-loop-count → Type 0
invariant-loop-count l = l.total + sum l.count-iterator ≡ sum (finite.values (stepped l.self))
