-- How many branches the forks of a text have.
use Rattle.std.proofs.Common.{ℕ, ◌≡◌, ◌≤◌, List, [], ◌∷◌, ◌++◌, length, arith}
use Rattle.shim_scopes.specs.declared.tree.RFunction.{RFunction}
use Rattle.shim_units.specs.Parts.{SharingPlace, Part, each_uses}
use Rattle.shim_units.specs.Parts.SharingPlace.{Fork, Called}

-- each has n at the most
abbrev pub ForksWithin : ℕ → List SharingPlace → Type 0
ForksWithin n [] = Unit {0}
ForksWithin n (Fork line branches ∷ ps) = (length branches ≤ n) × ForksWithin n ps
ForksWithin n (Called line gs ∷ ps) = ForksWithin n ps

pub forks_fewer : (m n : ℕ) (ps : List SharingPlace) → m ≤ n → ForksWithin m ps → ForksWithin n ps
forks_fewer m n [] l h = tt
forks_fewer m n (Fork line branches ∷ ps) l h = (omega (arith, l, h.0), forks_fewer m n ps l h.1)
forks_fewer m n (Called line gs ∷ ps) l h = forks_fewer m n ps l h

forks_joined : (n : ℕ) (ps qs : List SharingPlace) → ForksWithin n ps → ForksWithin n qs → ForksWithin n (ps ++ qs)
forks_joined n [] qs h k = k
forks_joined n (Fork line branches ∷ ps) qs h k = (h.0, forks_joined n ps qs h.1 k)
forks_joined n (Called line gs ∷ ps) qs h k = forks_joined n ps qs h k

-- of two texts, one after the other
pub forks_of_both : (a b n : ℕ) (ps qs : List SharingPlace) → a ≤ n → b ≤ n → ForksWithin a ps → ForksWithin b qs → ForksWithin n (ps ++ qs)
forks_of_both a b n ps qs l m h k = forks_joined n ps qs (forks_fewer a n ps l h) (forks_fewer b n qs m k)

pub uses_of_each : {T : Type 0} (fs : List RFunction) (ps : List (Part T)) → length (each_uses fs ps) ≡ length ps
uses_of_each fs [] = omega arith
uses_of_each fs (p ∷ ps) = omega (arith, uses_of_each fs ps)
