-- How far a search for a place comes in a list: to what stands there, or past the end with so many places still to go.
use Rattle.std.specs.Prelude.{ℕ, zero, suc, List, [], ◌∷◌, ◌⊎◌}
use mathlib.Core.Logic.{inl, inr}
use Rattle.shim_tree.specs.declared.quiet.Sought.{Sought}
use Rattle.shim_tree.specs.declared.quiet.Sought.TheVariants as code

-- the element in the place n, or, where the list ends before it, n less the length of the list
abbrev pub seek : {A : Type 0} → List A → ℕ → A ⊎ ℕ
seek [] n = inr n
seek (x ∷ xs) zero = inl x
seek (x ∷ xs) (suc n) = seek xs n

-- what the code's search found: the process, or how many places are left
abbrev pub sought_of : {S : Type 0} → Sought S → S ⊎ ℕ
sought_of (code.Here l) = inl l.now
sought_of (code.Passed n) = inr n
