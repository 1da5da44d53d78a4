-- Entries that are added to counts, one after another.
use Rattle.std.specs.Prelude.{ℕ, List, [], ◌∷◌}
use Rattle.std.specs.FinMap as finite
use Rattle.shim_base.specs.Paths.{path_order}
use Rattle.shim_semantics.specs.Advancing.{steps_taken}
use Rattle.shim_run_log.specs.Counted.{StepCount}

-- these entries are added to the counts
abbrev pub with_counts : finite.FinMap path_order ℕ → List StepCount → finite.FinMap path_order ℕ
with_counts m [] = m
with_counts m (e ∷ es) = with_counts (steps_taken m e.path e.count) es
