-- The size of each kind of statement of a unit, and the numbers that it takes, by those of its parts.
use Rattle.std.proofs.Common.{ℕ, ◌≡◌, ◌∙◌, List, map, ap}
use Rattle.shim_syntax.specs.Sizes.{sum_of}
use Rattle.shim_units.specs.declared.unit.UBranch.{UBranch}
use Rattle.shim_units.specs.declared.unit.UCall.{UCall}
use Rattle.shim_units.specs.declared.unit.UStmt.{UStmt, fold-roll-UStmt}
use Rattle.shim_units.specs.declared.unit.UWhat.{UWhat, UWhat-F, fold-UWhat, fold-roll-UWhat, map-UWhat, roll-UWhat}
use Rattle.shim_units.specs.Numbering as numbering
use Rattle.shim_units.specs.Numbering.{size_of, size_all}
use Rattle.shim_units.specs.Sizes.{unit_call_size, unit_branch_size, what_counts, what_size, stmt_size, stmts_size}

-- how large a statement is, and how many numbers it takes
pub record Measure : Type 0 where
  pub size : ℕ
  pub points : ℕ

abbrev pub sized : ℕ → ℕ → Measure
sized m n = record { size = m; points = n }

abbrev pub what_points : UWhat → ℕ
what_points = fold-UWhat ℕ ℕ numbering.what_numbers (λ s. s.what)

abbrev pub measure_what : UWhat → Measure
measure_what t = sized (what_size t) (what_points t)

abbrev pub measure_stmt : UStmt → Measure
measure_stmt s = sized (stmt_size s) (size_of s)

abbrev pub measure : List UStmt → Measure
measure body = sized (stmts_size body) (size_all body)

-- a branch takes no number
abbrev pub measure_call : UCall → Measure
measure_call c = sized (unit_call_size c) 0

abbrev pub measure_branch : UBranch → Measure
measure_branch b = measure_call b.call

abbrev pub measure_fork : List UBranch → Measure
measure_fork branches = sized (sum_of (map unit_branch_size branches)) 0

of_size : (line : ℕ) (t : UWhat) → stmt_size (record { line = line; what = t }) ≡ what_size t
of_size line t = fold-roll-UStmt ℕ ℕ what_counts (λ s. s.what) (record { line = line; what = t })

of_points : (line : ℕ) (t : UWhat) → size_of (record { line = line; what = t }) ≡ what_points t
of_points line t = fold-roll-UStmt ℕ ℕ numbering.what_numbers (λ s. s.what) (record { line = line; what = t })

pair : (m n a b : ℕ) → m ≡ a → n ≡ b → sized m n ≡ sized a (b)
pair m n a b p q = ap (λ (k : ℕ). sized k n) p ∙ ap (λ (k : ℕ). sized a k) q

pub of_line : (line : ℕ) (t : UWhat) → measure_stmt (record { line = line; what = t }) ≡ measure_what t
of_line line t = pair _ _ _ _ (of_size line t) (of_points line t)

at_size : (y : UWhat-F UWhat UStmt) → what_size (roll-UWhat y) ≡ what_counts (map-UWhat UWhat UStmt ℕ ℕ what_size stmt_size y)
at_size y = fold-roll-UWhat ℕ ℕ what_counts (λ s. s.what) y

at_points : (y : UWhat-F UWhat UStmt) → what_points (roll-UWhat y) ≡ numbering.what_numbers (map-UWhat UWhat UStmt ℕ ℕ what_points size_of y)
at_points y = fold-roll-UWhat ℕ ℕ numbering.what_numbers (λ s. s.what) y

abbrev pub step : UWhat-F UWhat UStmt → Measure
step y = sized (what_counts (map-UWhat UWhat UStmt ℕ ℕ what_size stmt_size y)) (numbering.what_numbers (map-UWhat UWhat UStmt ℕ ℕ what_points size_of y))

pub at_what : (y : UWhat-F UWhat UStmt) → measure_what (roll-UWhat y) ≡ step y
at_what y = pair _ _ _ _ (at_size y) (at_points y)
