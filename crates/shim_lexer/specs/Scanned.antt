-- What is at the front of a text, as the functions that look for it return it.
use Rattle.std.specs.Prelude.{ℕ, ◌+◌, ◌≤◌, ◌<◌, ◌^◌, ◌≡◌, ℤ, pos, Bool, false, ◌==◌, List, [], length, take, drop, Option, Some, None, slice_index, not}
use Rattle.shim_base.specs.declared.TokenKind.{TokenKind}
use Rattle.shim_base.specs.Tokens.{is_spacing, IsWithinLimits, IsLongestToken, IsComment, Skips, IsFault}
use Rattle.shim_lexer.specs.declared.scanner.Scanned.{Scanned}
use Rattle.shim_lexer.specs.declared.scanner.Scanned.TheVariants.{End, Passed, Token, Fault}

-- a byte that is no line feed
abbrev pub is_on_line : ℕ → Bool
is_on_line b = not (b == 10)

-- a comment's closer begins at this place
pub record IsCloserAt (text : List ℕ) (k : ℕ) : Type 0 where
  pub within : k + 2 ≤ length text
  pub star : slice_index text k ≡ 42
  pub slash : slice_index text (k + 1) ≡ 47

-- the place of the first closer, or none
abbrev pub FindsCloser : List ℕ → Option ℕ → Type 0
FindsCloser text (Some k) = IsCloserAt text k × ((j : ℕ) → j < k → IsCloserAt text j → ⊥)
FindsCloser text None = (k : ℕ) → IsCloserAt text k → ⊥

-- the number, if it is below 2 ^ 63
abbrev pub FitsNumber : ℕ → Option ℤ → Type 0
FitsNumber n (Some number) = (number ≡ pos n) × (n < 2 ^ 63)
FitsNumber n None = 2 ^ 63 ≤ n

-- neither the end nor spacing nor a comment stands here
pub record IsTokenPlace (text : List ℕ) : Type 0 where
  pub some : 1 ≤ length text
  pub no_spacing : is_spacing (slice_index text 0) ≡ false
  pub no_comment : IsComment text → ⊥

-- so many bytes are passed over at once
pub record IsPassed (text : List ℕ) (len : ℕ) : Type 0 where
  pub within : len ≤ length text
  pub passes : Skips text (take len text) (drop len text)

-- so many bytes are the first token, within limits
pub record IsFittingToken (text : List ℕ) (kind : TokenKind) (len : ℕ) : Type 0 where
  pub within : len ≤ length text
  pub no_comment : IsComment text → ⊥
  pub first : IsLongestToken text (take len text) (drop len text) kind
  pub fits : IsWithinLimits (take len text) kind

-- What is at the front of the text: nothing, bytes to pass over, a token, or a fault, where nothing can be passed over.
abbrev pub IsScanned : List ℕ → Scanned → Type 0
IsScanned text End = text ≡ []
IsScanned text (Passed len) = IsPassed text len
IsScanned text (Token kind len) = IsFittingToken text kind len
IsScanned text (Fault kind) = ((over rest : List ℕ) → Skips text over rest → ⊥) × IsFault kind text
