-- A text that is cut into its terminals, before its version is looked at.
use Rattle.std.specs.Prelude.{ℕ, ◌≡◌, List, Option}
use Rattle.shim_base.specs.Tokens.{Token, Fault, Cuts, start, place_after}
use Rattle.shim_syntax.specs.Terminals.{Terminal, of_tokens, of_end}

-- The bytes are cut into these: the tokens as version 1 sees them, and then the end of the text or the fault that ends the cutting.
pub record IsCut (bytes : List ℕ) (ts : List Terminal) : Type 0 where
  pub tokens : List Token
  pub end : Option Fault
  pub cut : Cuts start bytes tokens end
  pub are : ts ≡ of_tokens tokens (of_end (place_after start bytes) end)
