-- The cycle of waits, by the numbers of the processes that wait.
use Rattle.std.specs.Prelude.{◌≡◌, ◌<◌, ◌≤◌, ℕ, zero, suc, Bool, false, ◌||◌, eqb, Option, Some, None, List, [], ◌∷◌, ◌++◌, map, length, take, drop, get_or, slice_get, cond}
use Rattle.shim_base.specs.Paths.{Path}
use Rattle.shim_waits.specs.declared.explained.Wait.{Wait}

-- the number is one of these
abbrev pub was_passed : ℕ → List ℕ → Bool
was_passed i [] = false
was_passed i (j ∷ js) = eqb j i || was_passed i js

-- The numbers that were passed from i on, in the order of passing, and then `more`. The list of passed numbers has the last one first.
abbrev pub numbers_since : ℕ → List ℕ → List ℕ → List ℕ
numbers_since i [] more = more
numbers_since i (j ∷ js) more = cond (eqb j i) (j ∷ more) (numbers_since i js (j ∷ more))

-- f of the number, if there is one, else no number
abbrev pub from_number : (ℕ → List ℕ) → Option ℕ → List ℕ
from_number f None = []
from_number f (Some i) = f i

-- Each number leads to the number at its place in `next`. From i on at most n further numbers are passed, until one is passed a second time. The ring is the numbers from the first passing of that one on. Where a number has no place in `next`, the ring is empty.
abbrev pub number_ring : ℕ → List ℕ → List ℕ → ℕ → List ℕ
number_ring zero next passed i = numbers_since i passed []
number_ring (suc n) next passed i = cond (was_passed i passed) (numbers_since i passed []) (from_number (number_ring n next (i ∷ passed)) (slice_get next i))

-- the first n of these, the last one first
abbrev pub backwards : ℕ → List ℕ → List ℕ
backwards zero is = []
backwards (suc n) is = get_or is n 0 ∷ backwards n is

-- each of these is below n
abbrev pub AllBelow : ℕ → List ℕ → Type 0
AllBelow n is = (place i : ℕ) → slice_get is place ≡ Some i → i < n

-- In this place, and in none before, stands the least number; where there is none, it is the first place.
pub record IsLeastAt (is : List ℕ) (m : ℕ) : Type 0 where
  pub inside : m ≤ length is
  pub there : 0 < length is → m < length is
  pub before : (j : ℕ) → j < m → get_or is m 0 < get_or is j 0
  pub least : (j : ℕ) → j < length is → get_or is m 0 ≤ get_or is j 0

-- the path of the wait of a number
abbrev pub path_of_wait : List Wait → ℕ → Path
path_of_wait ws i = get_or (map (λ w. w.path) ws) i []

-- the cycle has what f gives for the numbers of the ring: first from the least number on, then for the numbers before it
abbrev pub IsTurned : (ℕ → Path) → List ℕ → List Path → Type 0
IsTurned f ring cycle = (m : ℕ) × IsLeastAt ring m × (cycle ≡ map f (drop m ring) ++ map f (take m ring))
