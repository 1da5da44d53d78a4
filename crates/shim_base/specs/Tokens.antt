-- The tokens of a text: which bytes make which token, and how a text is cut into them.
use Rattle.std.specs.Prelude.{ℕ, ◌+◌, ◌*◌, ◌-◌, ◌^◌, ◌≤◌, ◌<◌, ◌≡◌, ◌≢◌, ◌⊎◌, pos, ◌<ℤ◌, Bool, true, false, ◌&&◌, ◌||◌, nat_le, ◌==◌, IsTrue, List, [], ◌∷◌, ◌++◌, length, drop, fold, count_by, All, Option, Some, None, if◌then◌else◌, bytes_eq, codes}
use Rattle.std.specs.List.{list_all}
use Rattle.shim_base.specs.declared.token.TokenKind.{TokenKind}
use Rattle.shim_base.specs.declared.token.TokenKind.TheVariants.{Word, Key, Number, Sign as SignKind}
use Rattle.shim_base.specs.declared.token.LexKind.{LexKind}
use Rattle.shim_base.specs.declared.token.LexKind.TheVariants.{BadByte, LongName, BigNumber, OpenComment}
use Rattle.shim_base.specs.declared.token.Keyword.{Keyword}
use Rattle.shim_base.specs.declared.token.Keyword.TheVariants as k
use Rattle.shim_base.specs.declared.token.Sign.{Sign}
use Rattle.shim_base.specs.declared.token.Sign.TheVariants as s

-- spacing: tab, line feed, vertical tab, form feed, carriage return, space
abbrev pub is_spacing : ℕ → Bool
is_spacing b = b == 32 || (nat_le 9 b && nat_le b 13)

-- an ASCII digit from 0 to 9
abbrev pub is_digit : ℕ → Bool
is_digit b = nat_le 48 b && nat_le b 57

-- an ASCII letter or `_`
abbrev pub is_letter : ℕ → Bool
is_letter b = (nat_le 65 b && nat_le b 90) || (nat_le 97 b && nat_le b 122) || b == 95

-- a byte that may follow the first byte of a name
abbrev pub is_name_byte : ℕ → Bool
is_name_byte b = is_letter b || is_digit b

-- what a table has beside this spelling, in the first row with it; none if no row has it
abbrev pub row_for : {A : Type 0} → List (List ℕ × A) → List ℕ → Option A
row_for [] text = None
row_for (row ∷ rows) text = if bytes_eq row.0 text then Some row.1 else row_for rows text

-- each keyword with its spelling
abbrev pub keywords : List (List ℕ × Keyword)
keywords =
    (codes "void", k.Void) ∷ (codes "throws", k.Throws) ∷ (codes "bool", k.Bool) ∷ (codes "int", k.Int)
    ∷ (codes "int8", k.Int8) ∷ (codes "int16", k.Int16) ∷ (codes "int32", k.Int32) ∷ (codes "uint8", k.Uint8)
    ∷ (codes "uint16", k.Uint16) ∷ (codes "uint32", k.Uint32) ∷ (codes "istream", k.Istream)
    ∷ (codes "ostream", k.Ostream) ∷ (codes "next", k.Next) ∷ (codes "get", k.Get) ∷ (codes "put", k.Put)
    ∷ (codes "if", k.If) ∷ (codes "else", k.Else) ∷ (codes "while", k.While) ∷ (codes "for", k.For)
    ∷ (codes "try", k.Try) ∷ (codes "catch", k.Catch) ∷ (codes "throw", k.Throw) ∷ (codes "par", k.Par)
    ∷ (codes "true", k.TrueKey) ∷ (codes "false", k.FalseKey) ∷ []

-- each sign with its spelling, those of two bytes first
abbrev pub signs : List (List ℕ × Sign)
signs =
    (codes "<<", s.Shl) ∷ (codes ">>", s.Shr) ∷ (codes "<=", s.Le) ∷ (codes ">=", s.Ge) ∷ (codes "==", s.EqEq)
    ∷ (codes "!=", s.NotEq) ∷ (codes "&&", s.AndAnd) ∷ (codes "||", s.OrOr)
    ∷ (codes "(", s.LeftParen) ∷ (codes ")", s.RightParen) ∷ (codes "{", s.LeftBrace) ∷ (codes "}", s.RightBrace)
    ∷ (codes ",", s.Comma) ∷ (codes ";", s.Semicolon) ∷ (codes "=", s.Equal) ∷ (codes "&", s.Amp)
    ∷ (codes "^", s.Caret) ∷ (codes "|", s.Bar) ∷ (codes "+", s.Plus) ∷ (codes "-", s.Minus) ∷ (codes "*", s.Star)
    ∷ (codes "/", s.Slash) ∷ (codes "%", s.Percent) ∷ (codes "~", s.Tilde) ∷ (codes "!", s.Bang)
    ∷ (codes "<", s.Less) ∷ (codes ">", s.Greater) ∷ []

-- The keyword that has these bytes as its spelling, if there is one. `sign_of` is the same of signs.
unfoldable pub keyword_of : List ℕ → Option Keyword
keyword_of text = row_for keywords text

unfoldable pub sign_of : List ℕ → Option Sign
sign_of text = row_for signs text

-- a letter or `_`, and then letters, digits and `_`
abbrev pub is_name : List ℕ → Bool
is_name [] = false
is_name (b ∷ bytes) = is_letter b && list_all is_name_byte bytes

-- a digit from 0 to 9, from a to f, or from A to F
abbrev pub is_hex_digit : ℕ → Bool
is_hex_digit b = is_digit b || (nat_le 97 b && nat_le b 102) || (nat_le 65 b && nat_le b 70)

-- one decimal digit or more
abbrev pub is_numeral : List ℕ → Bool
is_numeral [] = false
is_numeral (b ∷ bytes) = is_digit b && list_all is_digit bytes

-- the number whose decimal digits are those of n and then one more, which is given as its byte
abbrev pub with_digit : ℕ → ℕ → ℕ
with_digit n digit = n * 10 + (digit - 48)

-- the number that decimal digits stand for
abbrev pub decimal_value : List ℕ → ℕ
decimal_value digits = fold with_digit 0 digits

-- `0x` or `0X`, and then one hexadecimal digit or more
abbrev pub is_hex_numeral : List ℕ → Bool
is_hex_numeral (zero_digit ∷ x ∷ b ∷ bytes) = zero_digit == 48 && ((x == 120 || x == 88) && (is_hex_digit b && list_all is_hex_digit bytes))
is_hex_numeral text = false

-- the value of a hexadecimal digit, which is given as its byte
abbrev pub hex_digit_value : ℕ → ℕ
hex_digit_value b = if is_digit b then b - 48 else (if nat_le 97 b then b - 87 else b - 55)

-- the number whose hexadecimal digits are those of n and then one more, which is given as its byte
abbrev pub with_hex_digit : ℕ → ℕ → ℕ
with_hex_digit n digit = n * 16 + hex_digit_value digit

-- the number that hexadecimal digits stand for
abbrev pub hex_value : List ℕ → ℕ
hex_value digits = fold with_hex_digit 0 digits

-- the text is a numeral, decimal or hexadecimal, and stands for this number
abbrev pub IsNumeralOf : List ℕ → ℕ → Type 0
IsNumeralOf text n = (IsTrue (is_numeral text) × (n ≡ decimal_value text)) ⊎ (IsTrue (is_hex_numeral text) × (n ≡ hex_value (drop 2 text)))

-- the bytes make one token of this kind
abbrev pub Spells : List ℕ → TokenKind → Type 0
Spells text Word = IsTrue (is_name text) × (keyword_of text ≡ None)
Spells text (Key key) = IsTrue (is_name text) × (keyword_of text ≡ Some key)
Spells text (Number n) = (m : ℕ) × IsNumeralOf text m × (n ≡ pos m)
Spells text (SignKind sign) = sign_of text ≡ Some sign

-- a name has at most 64 bytes, and a number is below 2 ^ 63
abbrev pub IsWithinLimits : List ℕ → TokenKind → Type 0
IsWithinLimits text Word = length text ≤ 64
IsWithinLimits text (Key key) = Unit {0}
IsWithinLimits text (Number n) = n <ℤ pos (2 ^ 63)
IsWithinLimits text (SignKind sign) = Unit {0}

-- The longest token that stands at the front of the bytes has this text and kind, and the rest follows it.
pub record IsLongestToken (bytes text rest : List ℕ) (kind : TokenKind) : Type 0 where
  pub whole : bytes ≡ text ++ rest
  pub spells : Spells text kind
  pub longest : (longer after : List ℕ) (other : TokenKind) → bytes ≡ longer ++ after → Spells longer other → length longer ≤ length text

-- a token, with its bytes, the place of the first of them in the text, counted from 0, and the line on which they stand
pub record Token : Type 0 where
  pub kind : TokenKind
  pub text : List ℕ
  pub at : ℕ
  pub line : ℕ

-- where a byte stands: its place in the text, and its line
pub record Place : Type 0 where
  pub at : ℕ
  pub line : ℕ

-- the place after these bytes: lines are set apart by line feeds
abbrev pub place_after : Place → List ℕ → Place
place_after place bytes = record { at = place.at + length bytes; line = place.line + count_by (λ b. b == 10) bytes }

-- The bytes that begin a comment up to the end of its line. `block_opener` and `block_closer` are those that begin and end a comment of the other kind.
abbrev pub line_opener : List ℕ
line_opener = codes "//"

abbrev pub block_opener : List ℕ
block_opener = codes "/*"

abbrev pub block_closer : List ℕ
block_closer = codes "*/"

-- the bytes begin with these
abbrev pub Begins : List ℕ → List ℕ → Type 0
Begins bytes front = (rest : List ℕ) × (bytes ≡ front ++ rest)

-- a comment begins here
abbrev pub IsComment : List ℕ → Type 0
IsComment bytes = Begins bytes line_opener ⊎ Begins bytes block_opener

-- what is passed over at once, at the front of bytes, and the rest: a byte of spacing, or a comment
pub data Skips : List ℕ → List ℕ → List ℕ → Type 0 where
  spacing : (b : ℕ) (rest : List ℕ) → is_spacing b ≡ true → Skips (b ∷ rest) (b ∷ []) rest
  -- `//` and the rest of its line, without the line feed
  line_comment : (inside rest : List ℕ) → All (λ b. b ≢ 10) inside → (rest ≡ []) ⊎ Begins rest (10 ∷ [])
      → Skips (line_opener ++ (inside ++ rest)) (line_opener ++ inside) rest
  -- `/*` and all up to the next `*/` after it, with that
  block_comment : (inside rest : List ℕ) → ((front : List ℕ) → Begins (inside ++ block_closer) (front ++ block_closer) → length inside ≤ length front)
      → Skips (block_opener ++ (inside ++ (block_closer ++ rest))) (block_opener ++ (inside ++ block_closer)) rest

-- Why no token can be taken at the front of the bytes. That neither spacing nor a comment is passed over there is asked beside this, since bytes that begin with spacing have the fault `BadByte`, too.
abbrev pub IsFault : LexKind → List ℕ → Type 0
IsFault BadByte bytes = (bytes ≢ []) × (IsComment bytes → ⊥) × ((text rest : List ℕ) (kind : TokenKind) → IsLongestToken bytes text rest kind → ⊥)
IsFault LongName bytes = (IsComment bytes → ⊥) × (text : List ℕ) × (rest : List ℕ) × IsLongestToken bytes text rest Word × (64 < length text)
IsFault BigNumber bytes = (IsComment bytes → ⊥) × (text : List ℕ) × (rest : List ℕ) × (n : ℕ) × IsLongestToken bytes text rest (Number (pos n)) × (2 ^ 63 ≤ n)
IsFault OpenComment bytes = Begins bytes block_opener × ((inside : List ℕ) → Begins bytes (block_opener ++ (inside ++ block_closer)) → ⊥)

-- a fault and where it stands
pub record Fault : Type 0 where
  pub at : ℕ
  pub line : ℕ
  pub kind : LexKind

-- The bytes, the first of which stands at this place, are cut into these tokens, up to the end or to this fault: spacing and comments are passed over, and then the longest token taken.
pub data Cuts : Place → List ℕ → List Token → Option Fault → Type 0 where
  ended : (place : Place) → Cuts place [] [] None
  passed : (place : Place) (bytes over rest : List ℕ) (tokens : List Token) (end : Option Fault) → Skips bytes over rest → Cuts (place_after place over) rest tokens end
      → Cuts place bytes tokens end
  token : (place : Place) (bytes text rest : List ℕ) (kind : TokenKind) (tokens : List Token) (end : Option Fault) → (IsComment bytes → ⊥) → IsLongestToken bytes text rest kind
      → IsWithinLimits text kind → Cuts (place_after place text) rest tokens end
      → Cuts place bytes (record { kind = kind; text = text; at = place.at; line = place.line } ∷ tokens) end
  faulty : (place : Place) (bytes : List ℕ) (kind : LexKind) → ((over rest : List ℕ) → Skips bytes over rest → ⊥) → IsFault kind bytes
      → Cuts place bytes [] (Some (record { at = place.at; line = place.line; kind = kind }))

-- the place of a text's first byte
abbrev pub start : Place
start = record { at = 0; line = 1 }
