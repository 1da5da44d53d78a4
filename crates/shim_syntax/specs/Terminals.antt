-- What the grammar sees of a token: its kind, the name or the number that it is, and where it stands.
use Rattle.std.specs.Prelude.{ℕ, ℤ, pos, ◌≡◌, List, [], ◌∷◌, Option, Some, None, Bool, true, false, ◌&&◌, if◌then◌else◌, map, codes}
use Rattle.std.specs.Ordering.{int_eq}
use Rattle.std.specs.Str.{bytes_eq}
use Rattle.shim_base.specs.declared.token.TokenKind.{TokenKind}
use Rattle.shim_base.specs.declared.token.TokenKind.TheVariants.{Word, Key as KeyKind, Number as NumberKind, Sign as SignKind}
use Rattle.shim_base.specs.declared.token.LexKind.{LexKind}
use Rattle.shim_base.specs.declared.token.Keyword.{Keyword}
use Rattle.shim_base.specs.declared.token.Keyword.TheVariants as k
use Rattle.shim_base.specs.declared.token.Sign.{Sign as SignOf}
use Rattle.shim_base.specs.declared.token.Sign.TheVariants as g
use Rattle.shim_base.specs.declared.types.Ty.TheVariants.{Bool as BoolTy, Int8, Int16, Int32, Uint8, Uint16, Uint32, Int64}
use Rattle.shim_base.specs.Tokens.{Token, Place, Fault, Cuts, start, place_after}
use Rattle.shim_syntax.specs.declared.tree.Sort.{Sort as SortOf}
use Rattle.shim_syntax.specs.declared.tree.Sort.TheVariants.{Value, Input, Output}

-- a token as the grammar has it, or the end of the tokens; each with its place
pub data Terminal : Type 0 where
  Name : List ℕ → Place → Terminal
  -- a number, `true` or `false`
  Number : ℤ → Place → Terminal
  -- the word of a type or of a stream
  Sort : SortOf → Place → Terminal
  -- any other keyword
  Key : Keyword → Place → Terminal
  Sign : SignOf → Place → Terminal
  -- the end of the text
  End : Place → Terminal
  -- where the text can't be cut any further
  Broken : LexKind → Place → Terminal

-- `true` is 1 and `false` is 0; `int` is `int32`
abbrev pub of_keyword : Keyword → Place → Terminal
of_keyword k.TrueKey p = Number (pos 1) p
of_keyword k.FalseKey p = Number (pos 0) p
of_keyword k.Bool p = Sort (Value BoolTy) p
of_keyword k.Int p = Sort (Value Int32) p
of_keyword k.Int8 p = Sort (Value Int8) p
of_keyword k.Int16 p = Sort (Value Int16) p
of_keyword k.Int32 p = Sort (Value Int32) p
of_keyword k.Uint8 p = Sort (Value Uint8) p
of_keyword k.Uint16 p = Sort (Value Uint16) p
of_keyword k.Uint32 p = Sort (Value Uint32) p
of_keyword k.Istream p = Sort Input p
of_keyword k.Ostream p = Sort Output p
of_keyword key p = Key key p

-- The terminal of a token, by its kind, bytes and place, as version 1 has it. The same of a whole token: `of_token`.
abbrev pub of_kind : TokenKind → List ℕ → Place → Terminal
of_kind Word text p = Name text p
of_kind (KeyKind key) text p = of_keyword key p
of_kind (NumberKind n) text p = Number n p
of_kind (SignKind sign) text p = Sign sign p

abbrev pub of_token : Token → Terminal
of_token t = of_kind t.kind t.text (record { at = t.at; line = t.line })

-- the terminal after the last token: the end of the text, or the fault at which the text can't be cut further
abbrev pub of_end : Place → Option Fault → Terminal
of_end end None = End end
of_end end (Some fault) = Broken fault.kind (record { at = fault.at; line = fault.line })

-- the terminals of the tokens, followed by the last terminal
abbrev pub of_tokens : List Token → Terminal → List Terminal
of_tokens [] last = last ∷ []
of_tokens (t ∷ tokens) last = of_token t ∷ of_tokens tokens last

-- the word that is a type in version 2
abbrev pub new_word : List ℕ
new_word = codes "int64"

-- The terminal of a word that is no keyword. If `two` holds, the text is of version 2, in which `int64` is a type.
abbrev pub of_word : Bool → List ℕ → Place → Terminal
of_word two x p = if two && bytes_eq x new_word then Sort (Value Int64) p else Name x p

-- a terminal as it is seen in version 1 or 2
abbrev pub of_version : Bool → Terminal → Terminal
of_version two (Name x p) = of_word two x p
of_version two (Number n p) = Number n p
of_version two (Sort sort p) = Sort sort p
of_version two (Key key p) = Key key p
of_version two (Sign sign p) = Sign sign p
of_version two (End p) = End p
of_version two (Broken kind p) = Broken kind p

abbrev pub terminal_place : Terminal → Place
terminal_place (Name text p) = p
terminal_place (Number n p) = p
terminal_place (Sort sort p) = p
terminal_place (Key key p) = p
terminal_place (Sign sign p) = p
terminal_place (End p) = p
terminal_place (Broken kind p) = p

-- the first terminal of the list; where the list is empty, an end at the start of a text
abbrev pub first : List Terminal → Terminal
first [] = End start
first (t ∷ ts) = t

-- all but the first of them
abbrev pub rest : List Terminal → List Terminal
rest [] = []
rest (t ∷ ts) = ts

-- whether it is the name `shim`
abbrev pub is_shim : Terminal → Bool
is_shim (Name x p) = bytes_eq x (codes "shim")
is_shim _ = false

-- whether it is a number of value 2
abbrev pub is_two : Terminal → Bool
is_two (Number n p) = int_eq n (pos 2)
is_two _ = false

abbrev pub is_semicolon : Terminal → Bool
is_semicolon (Sign g.Semicolon p) = true
is_semicolon _ = false

-- a text of version 2 begins with `shim`, a number of value 2 and `;`
abbrev pub begins_two : List Terminal → Bool
begins_two ts = is_shim (first ts) && (is_two (first (rest ts)) && is_semicolon (first (rest (rest ts))))

-- the terminals in the version that their beginning determines
abbrev pub in_version : List Terminal → List Terminal
in_version ts = map (of_version (begins_two ts)) ts

-- The bytes are cut into these: the tokens, and then the end of the text or the fault that ends the cutting.
pub record IsRead (bytes : List ℕ) (ts : List Terminal) : Type 0 where
  pub tokens : List Token
  pub end : Option Fault
  pub cut : Cuts start bytes tokens end
  pub are : ts ≡ in_version (of_tokens tokens (of_end (place_after start bytes) end))
