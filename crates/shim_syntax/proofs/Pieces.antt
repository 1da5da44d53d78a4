-- The text of pieces is cut into these pieces.
use Rattle.std.proofs.Common.{ℕ, ◌≤◌, ◌≡◌, Bool, true, false, not, List, [], ◌∷◌, ◌++◌, length, Some, None, refl, sym, ap, subst, ◌∙◌, arith, inl, inr}
use Rattle.std.specs.Prelude.{◌&&◌, ◌||◌, ◌==◌, if◌then◌else◌}
use Rattle.std.specs.List.{list_all}
use Rattle.std.proofs.lemmas.List.{append_assoc}
use Rattle.std.proofs.lemmas.Bool.Decides.{nat_tests}
use Rattle.shim_base.specs.declared.TokenKind.{TokenKind}
use Rattle.shim_base.specs.declared.TokenKind.TheVariants.{Word, Key, Number, Sign as SignKind}
use Rattle.shim_base.specs.declared.Sign.{Sign}
use Rattle.shim_base.specs.Tokens.{is_spacing, is_digit, is_letter, is_name_byte, is_hex_digit, is_name, is_numeral, is_hex_numeral, sign_of, signs, IsNumeralOf, Spells, IsWithinLimits, IsLongestToken, Token, Place, place_after, IsComment, Cuts, ended, passed, token, spacing}
use Rattle.shim_base.proofs.FirstToken.{both_true, entry-passes, letter-no_spacing, digit-no_spacing, no_empty_token}
use Rattle.shim_base.proofs.TextPrefix.{no_comment_at, no_comment_second}
use Rattle.shim_base.proofs.Cutting.{token_at}
use Rattle.shim_base.specs.declared.Ty.TheVariants.{Int64}
use Rattle.shim_syntax.specs.declared.tree.Sort.TheVariants.{Value}
use Rattle.shim_syntax.specs.Terminals.{Terminal, Sort, of_kind, of_version}
use Rattle.shim_syntax.specs.Printing.{PrintedPiece, pieces_text}

-- a byte that isn't spacing
abbrev pub is_solid : ℕ → Bool
is_solid b = not (is_spacing b)

-- what is no spacing is solid
solid_of : (b : ℕ) → is_spacing b ≡ false → is_solid b ≡ true
solid_of b h = rw h refl

-- a test and its opposite don't both pass
both_ways : (b : Bool) → b ≡ true → not b ≡ true → ⊥
both_ways true h k = absurd (cc)
both_ways false h k = absurd (cc)

name_byte-solid : (b : ℕ) → is_name_byte b ≡ true → is_solid b ≡ true
name_byte-solid b h = grind (arith, nat_tests)

hex_digit-solid : (b : ℕ) → is_hex_digit b ≡ true → is_solid b ≡ true
hex_digit-solid b h = grind (arith, nat_tests)

x-solid : (x : ℕ) → (x == 120 || x == 88) ≡ true → is_solid x ≡ true
x-solid x h = grind (arith, nat_tests)

zero_digit-solid : (b : ℕ) → (b == 48) ≡ true → is_solid b ≡ true
zero_digit-solid b h = grind (arith, nat_tests)

-- where every byte passes one test, and this one implies another, every byte passes the other
all_weaker : (p q : ℕ → Bool) → ((b : ℕ) → p b ≡ true → q b ≡ true) → (bytes : List ℕ) → list_all p bytes ≡ true → list_all q bytes ≡ true
all_weaker p q implies [] h = refl
all_weaker p q implies (b ∷ bytes) h =
    let k = both_true (p b) (list_all p bytes) h in
    rw (implies b k.0, all_weaker p q implies bytes k.1) refl

name-solid : (text : List ℕ) → is_name text ≡ true → list_all is_solid text ≡ true
name-solid [] h = refl
name-solid (b ∷ bytes) h =
    let k = both_true (is_letter b) (list_all is_name_byte bytes) h in
    rw (solid_of b (letter-no_spacing b k.0), all_weaker is_name_byte is_solid name_byte-solid bytes k.1) refl

decimal-solid : (text : List ℕ) → is_numeral text ≡ true → list_all is_solid text ≡ true
decimal-solid [] h = refl
decimal-solid (b ∷ bytes) h =
    let k = both_true (is_digit b) (list_all is_digit bytes) h in
    rw (solid_of b (digit-no_spacing b k.0), all_weaker is_digit is_solid (λ c d. solid_of c (digit-no_spacing c d)) bytes k.1) refl

hex-solid : (text : List ℕ) → is_hex_numeral text ≡ true → list_all is_solid text ≡ true
hex-solid [] h = refl
hex-solid (b ∷ []) h = absurd (cc)
hex-solid (b ∷ x ∷ []) h = absurd (cc)
hex-solid (b ∷ x ∷ d ∷ bytes) h =
    let k = both_true (b == 48) ((x == 120 || x == 88) && (is_hex_digit d && list_all is_hex_digit bytes)) h in
    let m = both_true (x == 120 || x == 88) (is_hex_digit d && list_all is_hex_digit bytes) k.1 in
    let more : list_all is_solid (d ∷ bytes) ≡ true = all_weaker is_hex_digit is_solid hex_digit-solid (d ∷ bytes) m.1 in
    rw (zero_digit-solid b k.0, x-solid x m.0) more

sign-solid : (text : List ℕ) (sign : Sign) → sign_of text ≡ Some sign → list_all is_solid text ≡ true
unfolding sign_of
sign-solid text sign is = entry-passes (list_all is_solid) signs text sign refl is

-- no spacing stands in a token
token-solid : (text : List ℕ) (kind : TokenKind) → Spells text kind → list_all is_solid text ≡ true
token-solid text Word h = name-solid text h.0
token-solid text (Key key) h = name-solid text h.0
token-solid text (Number n) h = by_numeral h.1 where
  by_numeral : IsNumeralOf text h.0 → list_all is_solid text ≡ true
  by_numeral (inl k) = decimal-solid text k.0
  by_numeral (inr k) = hex-solid text k.0
token-solid text (SignKind sign) h = sign-solid text sign h

-- a front without spacing ends before the first byte of spacing
solid_front : (text : List ℕ) (b : ℕ) (rest longer behind : List ℕ) → is_spacing b ≡ true → text ++ b ∷ rest ≡ longer ++ behind → list_all is_solid longer ≡ true → length longer ≤ length text
solid_front text b rest [] behind space whole solid = omega arith
solid_front [] b rest (c ∷ longer) behind space whole solid =
    let same : b ≡ c = cc in
    let k = both_true (is_solid c) (list_all is_solid longer) solid in
    absurd (both_ways (is_spacing c) (ap is_spacing (sym same) ∙ space) k.0)
solid_front (a ∷ text) b rest (c ∷ longer) behind space whole solid =
    let tail : text ++ b ∷ rest ≡ longer ++ behind = cc in
    let k = both_true (is_solid c) (list_all is_solid longer) solid in
    let more = solid_front text b rest longer behind space tail k.1 in
    omega (arith, more)

-- a token before a byte of spacing stands first
pub first_before_space : (text : List ℕ) (kind : TokenKind) (b : ℕ) (rest : List ℕ) → is_spacing b ≡ true → Spells text kind → IsLongestToken (text ++ b ∷ rest) text (b ∷ rest) kind
first_before_space text kind b rest space spells = record {
  whole = refl;
  spells = spells;
  longest = λ longer behind other whole is. solid_front text b rest longer behind space whole (token-solid longer other is);
}

-- no sign of two bytes begins with a slash
abbrev opens_nothing : List ℕ → Bool
opens_nothing (b ∷ c ∷ bytes) = not (b == 47)
opens_nothing _ = true

sign-opens_nothing : (text : List ℕ) (sign : Sign) → sign_of text ≡ Some sign → opens_nothing text ≡ true
unfolding sign_of
sign-opens_nothing text sign is = entry-passes opens_nothing signs text sign refl is

slash-no_letter : (b : ℕ) → is_letter b ≡ true → b ≡ 47 → ⊥
slash-no_letter b h e = grind (arith, nat_tests)

slash-no_digit : (b : ℕ) → is_digit b ≡ true → b ≡ 47 → ⊥
slash-no_digit b h e = grind (arith, nat_tests)

slash-no_zero : (b : ℕ) → (b == 48) ≡ true → b ≡ 47 → ⊥
slash-no_zero b h e = grind (arith, nat_tests)

slash-is_one : (b : ℕ) → not (b == 47) ≡ true → b ≡ 47 → ⊥
slash-is_one b h e = grind (arith, nat_tests)

hex-no_slash : (b c : ℕ) (bytes : List ℕ) → is_hex_numeral (b ∷ c ∷ bytes) ≡ true → b ≡ 47 → ⊥
hex-no_slash b c [] h e = absurd (cc)
hex-no_slash b c (d ∷ bytes) h e = slash-no_zero b (both_true (b == 48) ((c == 120 || c == 88) && (is_hex_digit d && list_all is_hex_digit bytes)) h).0 e

-- a token of two bytes or more doesn't begin with a slash
long-no_slash : (b c : ℕ) (bytes : List ℕ) (kind : TokenKind) → Spells (b ∷ c ∷ bytes) kind → b ≡ 47 → ⊥
long-no_slash b c bytes Word h e = slash-no_letter b (both_true (is_letter b) (list_all is_name_byte (c ∷ bytes)) h.0).0 e
long-no_slash b c bytes (Key key) h e = slash-no_letter b (both_true (is_letter b) (list_all is_name_byte (c ∷ bytes)) h.0).0 e
long-no_slash b c bytes (Number n) h e = by_numeral h.1 where
  by_numeral : IsNumeralOf (b ∷ c ∷ bytes) h.0 → ⊥
  by_numeral (inl k) = slash-no_digit b (both_true (is_digit b) (list_all is_digit (c ∷ bytes)) k.0).0 e
  by_numeral (inr k) = hex-no_slash b c bytes k.0 e
long-no_slash b c bytes (SignKind sign) h e = slash-is_one b (sign-opens_nothing (b ∷ c ∷ bytes) sign h) e

-- spacing is neither a slash nor a star
space-no_slash : (b : ℕ) → is_spacing b ≡ true → b ≡ 47 → ⊥
space-no_slash b h e = grind (arith, nat_tests)

space-no_star : (b : ℕ) → is_spacing b ≡ true → b ≡ 42 → ⊥
space-no_star b h e = grind (arith, nat_tests)

-- where a token stands before a byte of spacing, no comment begins
pub no_comment_before_space : (text : List ℕ) (kind : TokenKind) (b : ℕ) (rest : List ℕ) → is_spacing b ≡ true → Spells text kind → IsComment (text ++ b ∷ rest) → ⊥
no_comment_before_space [] kind b rest space spells c = absurd (no_empty_token kind spells)
no_comment_before_space (a ∷ []) kind b rest space spells c = no_comment_second a b rest (space-no_slash b space) (space-no_star b space) c
no_comment_before_space (a ∷ d ∷ text) kind b rest space spells c = no_comment_at a (d ∷ (text ++ b ∷ rest)) (long-no_slash a d text kind spells) c

-- the terminal that a piece stands for
abbrev pub shown_as : PrintedPiece → Place → Terminal
shown_as p place = if p.is_type then Sort (Value Int64) place else of_kind p.kind p.text place

-- in that version it is seen so
abbrev pub IsSeen : Bool → PrintedPiece → Type 0
IsSeen ver p = (place : Place) → of_version ver (of_kind p.kind p.text place) ≡ shown_as p place

-- each piece is a token of its kind, within the limits
abbrev pub AreTokens : Bool → List PrintedPiece → Type 0
AreTokens ver [] = Unit {0}
AreTokens ver (p ∷ ps) = Spells p.text p.kind × IsWithinLimits p.text p.kind × IsSeen ver p × AreTokens ver ps

-- what stands behind a piece
abbrev pub behind : PrintedPiece → ℕ
behind p = if p.ends_line then 10 else 32

abbrev pub behind_piece : Place → PrintedPiece → Place
behind_piece place p = place_after (place_after place p.text) (behind p ∷ [])

-- the tokens of pieces that begin at this place
abbrev pub tokens_of : Place → List PrintedPiece → List Token
tokens_of place [] = []
tokens_of place (p ∷ ps) = token_at place p.text p.kind ∷ tokens_of (behind_piece place p) ps

behind-space : (ends : Bool) → is_spacing (if ends then 10 else 32) ≡ true
behind-space true = refl
behind-space false = refl

-- the text of pieces is cut into their tokens
pub pieces_are_cut : (ver : Bool) (place : Place) (ps : List PrintedPiece) → AreTokens ver ps → Cuts place (pieces_text ps) (tokens_of place ps) None
pieces_are_cut ver place [] are = ended place
pieces_are_cut ver place (p ∷ ps) are =
    let space = behind-space p.ends_line in
    let rest = pieces_text ps in
    let tokens = tokens_of (behind_piece place p) ps in
    let more = pieces_are_cut ver (behind_piece place p) ps are.3 in
    let tail = passed (place_after place p.text) (behind p ∷ rest) (behind p ∷ []) rest tokens None (spacing (behind p) rest space) more in
    let no_comment = no_comment_before_space p.text p.kind (behind p) rest space are.0 in
    let first = first_before_space p.text p.kind (behind p) rest space are.0 in
    let here = token place (p.text ++ behind p ∷ rest) p.text (behind p ∷ rest) p.kind tokens None no_comment first are.1 tail in
    let P : List ℕ → Type 0 = λ l. Cuts place l (tokens_of place (p ∷ ps)) None in
    subst P (sym (append_assoc p.text (behind p ∷ []) rest)) here
