-- The tests of paths and channels decide whether they are the same.
use Rattle.std.proofs.Common.{◌≡◌, ℕ, Some, None, [], ◌∷◌, ◌++◌, cond, refl, ap, ◌∙◌}
use Rattle.std.proofs.lemmas.List.{append_assoc}
use Rattle.shim_base.specs.Paths.{Path}
use Rattle.shim_semantics.specs.Places.{after_front}
use Rattle.shim_base.proofs.SamePaths.{same_pair_refl}

pub after_front_of : (p r : Path) → after_front p (p ++ r) ≡ Some r
after_front_of [] r = refl
after_front_of (x ∷ p) r = ap (λ b. cond b (after_front p (p ++ r)) None) (same_pair_refl x) ∙ after_front_of p r

-- one pair further
pub further : (p : Path) (x : ℕ × ℕ) (q r : Path) → q ≡ p ++ x ∷ [] → q ++ r ≡ p ++ x ∷ r
further p x q r e = ap (λ z. z ++ r) e ∙ append_assoc p (x ∷ []) r
