-- The numbers of the statements of a unit, by which a process knows at which it stands.
use Rattle.std.specs.Prelude.{ℕ, ◌+◌, List, [], ◌∷◌, map}
use Rattle.shim_units.specs.declared.unit.UStmt.{UStmt, fold-UStmt}
use Rattle.shim_units.specs.declared.unit.UWhat.{UWhat-F}

-- Statements are numbered from 0 in the order of the text, each before what stands in it. A block has no number of its own. A `for` has its number after those of its first statement, and the step is numbered after the body.

abbrev total : List ℕ → ℕ
total [] = 0
total (n ∷ ns) = n + total ns

-- how many numbers a statement takes, with all that stands in it
abbrev pub what_numbers : UWhat-F ℕ ℕ → ℕ
what_numbers (UWhat-F.If e first second) = 1 + total first + total second
what_numbers (UWhat-F.While e body) = 1 + total body
what_numbers (UWhat-F.For first test step body) = total first + (1 + (total body + total step))
what_numbers (UWhat-F.Block body) = total body
what_numbers (UWhat-F.Try body x y handler) = 1 + total body + total handler
what_numbers _ = 1

-- how many numbers a statement takes, with those of the statements in it
abbrev pub size_of : UStmt → ℕ
size_of = fold-UStmt ℕ ℕ what_numbers (λ s. s.what)

-- how many numbers these statements take
abbrev pub size_all : List UStmt → ℕ
size_all ss = total (map size_of ss)
