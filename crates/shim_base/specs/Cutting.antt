-- That a text is cut in exactly one way.
use Rattle.std.specs.Prelude.{ℕ, ◌≡◌, List, Option}
use Rattle.shim_base.specs.Tokens.{Token, Place, Fault, Cuts}

-- The bytes, the first of which stands at this place, are cut into tokens up to their end or to a fault. They are cut in one way and in no other.
pub record IsCutOnce (place : Place) (bytes : List ℕ) : Type 0 where
  pub tokens : List Token
  pub end : Option Fault
  pub cuts : Cuts place bytes tokens end
  pub only : (others : List Token) (other_end : Option Fault) → Cuts place bytes others other_end → (others ≡ tokens) × (other_end ≡ end)
