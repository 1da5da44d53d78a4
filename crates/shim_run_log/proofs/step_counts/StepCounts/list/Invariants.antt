use Rattle.std.proofs.Common.{◌≡◌, ◌++◌, map}
use Rattle.std.specs.Prelude.{filter}
use Rattle.std.specs.FinMap as finite
use Rattle.shim_semantics.specs.Endings.{own_steps}
use Rattle.shim_run_log.specs.Maps.{has_stepped}
use Rattle.shim_run_log.specs.Reserved.{stepped}
use Rattle.shim_run_log.proofs.step_counts.StepCounts.list.Lts.Given as given

-- what is listed, and then those of what is left that did a step, is the whole
abbrev pub invariant-loop-path : given.Live-loop-path → Type 0
invariant-loop-path l = l.list ++ map own_steps (filter has_stepped l.path-iterator) ≡ map own_steps (finite.entries (stepped l.self))
