-- What holds of a value that may be missing.
use Rattle.std.specs.Prelude.{◌≡◌, Option, Some, MatchOption}
use Rattle.std.proofs.Common.{subst}

-- what holds of the value that is there
pub of_some : {T : Type 0} (N : Type 0) (P : T → Type 0) (r : Option T) (x : T) → r ≡ Some x → MatchOption r N P → P x
of_some N P r x is held = subst (λ o. MatchOption o N P) is held
