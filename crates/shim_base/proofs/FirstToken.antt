-- The token that stands first in bytes: what it looks like, that there is one at most, and where it ends.
use Rattle.std.proofs.Common.{ℕ, suc, ◌+◌, ◌≤◌, ◌<◌, ◌≡◌, pos, Bool, true, false, not, List, [], ◌∷◌, ◌++◌, length, take, drop, Option, Some, None, refl, sym, ap, subst, ◌∙◌, arith, inl, inr, ◌⊎◌}
use Rattle.std.specs.Prelude.{◌&&◌, ◌||◌, ◌==◌, nat_le, IsTrue, if◌then◌else◌, count_by}
use Rattle.std.specs.Str.{bytes_eq}
use Rattle.std.specs.List.{list_all, prefix_len}
use Rattle.std.proofs.lemmas.List.{length-append, take_at, drop_at, take-append-drop, length-take-le}
use Rattle.std.proofs.lemmas.List.Sums.{prefix_len-le-length}
use Rattle.std.proofs.lemmas.Bool.{cases_lt}
use Rattle.std.proofs.lemmas.Bool.Decides.{nat_tests}
use Rattle.std.proofs.lemmas.Slice.Eq.{bytes_eq-Decides}
use Rattle.shim_base.specs.declared.token.TokenKind.{TokenKind}
use Rattle.shim_base.specs.declared.token.TokenKind.TheVariants.{Word, Key, Number, Sign as SignKind}
use Rattle.shim_base.specs.declared.token.Keyword.{Keyword}
use Rattle.shim_base.specs.declared.token.Sign.{Sign}
use Rattle.shim_base.specs.Tokens.{is_spacing, is_digit, is_letter, is_name_byte, row_for, signs, keyword_of, sign_of, is_name, is_numeral, is_hex_digit, is_hex_numeral, decimal_value, hex_value, IsNumeralOf, Spells, IsLongestToken}
use Rattle.shim_base.proofs.Facts.{not_false}

-- both halves of a test
pub both_true : (a b : Bool) → (a && b) ≡ true → (a ≡ true) × (b ≡ true)
both_true true b h = (refl, h)
both_true false b h = absurd (cc)

-- what passes on every spelling of a table passes on a text that has an entry
pub entry-passes : {A : Type 0} (p : List ℕ → Bool) (rows : List (List ℕ × A)) (text : List ℕ) (found : A) →
    list_all (λ (row : List ℕ × A). p row.0) rows ≡ true → row_for rows text ≡ Some found → p text ≡ true
entry-passes p [] text found all is = absurd (cc)
entry-passes {A = A} p (row ∷ rows) text found all is = by_test (bytes_eq row.0 text) refl (λ more. entry-passes p rows text found parts.1 more) where
  parts : (p row.0 ≡ true) × (list_all (λ (r : List ℕ × A). p r.0) rows ≡ true)
  parts = both_true (p row.0) (list_all (λ (r : List ℕ × A). p r.0) rows) all

  by_test : (same : Bool) → bytes_eq row.0 text ≡ same → (row_for rows text ≡ Some found → p text ≡ true) → p text ≡ true
  by_test true t later = let P : List ℕ → Type 0 = λ l. p l ≡ true in subst P ((bytes_eq-Decides row.0 text).0 t) parts.0
  by_test false t later = later (rw t at is)

-- one byte or two, the first of which is neither a letter nor a digit nor spacing
abbrev pub is_sign_like : List ℕ → Bool
is_sign_like [] = false
is_sign_like (b ∷ bytes) = not (is_letter b) && (not (is_digit b) && (not (is_spacing b) && nat_le (length bytes) 1))

-- every sign is like that
pub sign-is_like : (text : List ℕ) (sign : Sign) → sign_of text ≡ Some sign → is_sign_like text ≡ true
unfolding sign_of
sign-is_like text sign is = entry-passes is_sign_like signs text sign refl is

-- what is known of a sign
pub record IsSignLike (b : ℕ) (bytes : List ℕ) : Type 0 where
  pub no_letter : is_letter b ≡ false
  pub no_digit : is_digit b ≡ false
  pub no_spacing : is_spacing b ≡ false
  pub short : length bytes ≤ 1

-- what is known of the bytes of a sign
pub sign_like : (b : ℕ) (bytes : List ℕ) (sign : Sign) → sign_of (b ∷ bytes) ≡ Some sign → IsSignLike b bytes
sign_like b bytes sign is =
    let h = both_true (not (is_letter b)) (not (is_digit b) && (not (is_spacing b) && nat_le (length bytes) 1)) (sign-is_like (b ∷ bytes) sign is) in
    let k = both_true (not (is_digit b)) (not (is_spacing b) && nat_le (length bytes) 1) h.1 in
    let m = both_true (not (is_spacing b)) (nat_le (length bytes) 1) k.1 in
    let s = m.1 in
    record {
      no_letter = not_false (is_letter b) h.0;
      no_digit = not_false (is_digit b) k.0;
      no_spacing = not_false (is_spacing b) m.0;
      short = grind (arith, nat_tests, s);
    }

-- a letter is no digit
pub letter-no_digit : (b : ℕ) → is_letter b ≡ true → is_digit b ≡ false
letter-no_digit b h = grind (arith, nat_tests)

-- a letter is no spacing
pub letter-no_spacing : (b : ℕ) → is_letter b ≡ true → is_spacing b ≡ false
letter-no_spacing b h = grind (arith, nat_tests)

-- a digit is no spacing
pub digit-no_spacing : (b : ℕ) → is_digit b ≡ true → is_spacing b ≡ false
digit-no_spacing b h = grind (arith, nat_tests)

-- a test doesn't both pass and fail
contrary : (b : Bool) → b ≡ true → b ≡ false → ⊥
contrary true t f = absurd (cc)
contrary false t f = absurd (cc)

-- the kind of a name, from its entry among the keywords
abbrev pub name_kind : Option Keyword → TokenKind
name_kind None = Word
name_kind (Some key) = Key key

-- a name begins with a letter
name-head : (b : ℕ) (bytes : List ℕ) → IsTrue (is_name (b ∷ bytes)) → is_letter b ≡ true
name-head b bytes h = (both_true (is_letter b) (list_all is_name_byte bytes) h).0

-- a decimal numeral begins with a digit
decimal-head : (b : ℕ) (bytes : List ℕ) → is_numeral (b ∷ bytes) ≡ true → is_digit b ≡ true
decimal-head b bytes h = (both_true (is_digit b) (list_all is_digit bytes) h).0

-- what a hexadecimal numeral looks like
pub record IsHexLike (b : ℕ) (bytes : List ℕ) : Type 0 where
  pub x : ℕ
  pub more : List ℕ
  pub bytes_are : bytes ≡ x ∷ more
  pub zero_digit : b ≡ 48
  pub no_digit : is_digit x ≡ false
  pub digits : list_all is_hex_digit more ≡ true
  pub some : 1 ≤ length more

-- the letter after the zero is no digit
x-no_digit : (x : ℕ) → (x == 120 || x == 88) ≡ true → is_digit x ≡ false
x-no_digit x h = grind (arith, nat_tests)

-- the zero is one
zero_is : (b : ℕ) → (b == 48) ≡ true → b ≡ 48
zero_is b h = grind (arith, nat_tests)

-- a hexadecimal numeral looks like one
pub hex_like : (b : ℕ) (bytes : List ℕ) → is_hex_numeral (b ∷ bytes) ≡ true → IsHexLike b bytes
hex_like b [] h = absurd (cc)
hex_like b (x ∷ []) h = absurd (cc)
hex_like b (x ∷ d ∷ bytes) h =
    let k = both_true (b == 48) ((x == 120 || x == 88) && (is_hex_digit d && list_all is_hex_digit bytes)) h in
    let m = both_true (x == 120 || x == 88) (is_hex_digit d && list_all is_hex_digit bytes) k.1 in
    record {
      x = x;
      more = d ∷ bytes;
      bytes_are = refl;
      zero_digit = zero_is b k.0;
      no_digit = x-no_digit x m.0;
      digits = m.1;
      some = omega arith;
    }

-- a decimal numeral is no hexadecimal one
pub decimal-no_hex : (text : List ℕ) → is_numeral text ≡ true → is_hex_numeral text ≡ false
decimal-no_hex [] h = refl
decimal-no_hex (b ∷ bytes) h = by_hex (is_hex_numeral (b ∷ bytes)) refl where
  by_hex : (hex : Bool) → is_hex_numeral (b ∷ bytes) ≡ hex → hex ≡ false
  by_hex false e = refl
  by_hex true e =
      let like = hex_like b bytes e in
      let all = (both_true (is_digit b) (list_all is_digit bytes) h).1 in
      let one : list_all is_digit (like.x ∷ like.more) ≡ true = rw like.bytes_are at all in
      absurd (contrary (is_digit like.x) (both_true (is_digit like.x) (list_all is_digit like.more) one).0 like.no_digit)

-- the number that a numeral stands for
abbrev pub numeral_value : List ℕ → ℕ
numeral_value text = if is_hex_numeral text then hex_value (drop 2 text) else decimal_value text

-- a numeral stands for one number
pub numeral_is : (text : List ℕ) (n : ℕ) → IsNumeralOf text n → n ≡ numeral_value text
numeral_is text n (inl h) = let no = decimal-no_hex text h.0 in rw no h.1
numeral_is text n (inr h) = let is : is_hex_numeral text ≡ true = h.0 in rw is h.1

-- a numeral begins with a digit
numeral-head : (b : ℕ) (bytes : List ℕ) (n : ℕ) → IsNumeralOf (b ∷ bytes) n → is_digit b ≡ true
numeral-head b bytes n (inl h) = decimal-head b bytes h.0
numeral-head b bytes n (inr h) = let e = (hex_like b bytes h.0).zero_digit in rw e refl

-- a numeral has a byte
numeral-some : (n : ℕ) → IsNumeralOf [] n → ⊥
numeral-some n (inl h) = absurd (let e = h.0 in cc)
numeral-some n (inr h) = absurd (let e = h.0 in cc)

-- a token has a byte
pub no_empty_token : (kind : TokenKind) → Spells [] kind → ⊥
no_empty_token Word h = absurd (let e = h.0 in cc)
no_empty_token (Key key) h = absurd (let e = h.0 in cc)
no_empty_token (Number n) h = numeral-some h.0 h.1
no_empty_token (SignKind sign) h = absurd (let e = sign-is_like [] sign h in cc)

-- a token that begins with a letter is a name, and its kind is that of its entry
pub letter-spells : (b : ℕ) (bytes : List ℕ) (kind : TokenKind) → is_letter b ≡ true → Spells (b ∷ bytes) kind →
    IsTrue (is_name (b ∷ bytes)) × (kind ≡ name_kind (keyword_of (b ∷ bytes)))
letter-spells b bytes Word l h = (h.0, ap name_kind (sym h.1))
letter-spells b bytes (Key key) l h = (h.0, ap name_kind (sym h.1))
letter-spells b bytes (Number n) l h = absurd (contrary (is_digit b) (numeral-head b bytes h.0 h.1) (letter-no_digit b l))
letter-spells b bytes (SignKind sign) l h = absurd (contrary (is_letter b) l (sign_like b bytes sign h).no_letter)

-- a token that begins with a digit is a numeral, and its kind is its value
pub digit-spells : (b : ℕ) (bytes : List ℕ) (kind : TokenKind) → is_digit b ≡ true → Spells (b ∷ bytes) kind →
    IsNumeralOf (b ∷ bytes) (numeral_value (b ∷ bytes)) × (kind ≡ Number (pos (numeral_value (b ∷ bytes))))
digit-spells b bytes Word d h = absurd (contrary (is_digit b) d (letter-no_digit b (name-head b bytes h.0)))
digit-spells b bytes (Key key) d h = absurd (contrary (is_digit b) d (letter-no_digit b (name-head b bytes h.0)))
digit-spells b bytes (Number n) d h =
    let e = numeral_is (b ∷ bytes) h.0 h.1 in
    let P : ℕ → Type 0 = λ m. IsNumeralOf (b ∷ bytes) m in
    (subst P e h.1, ap Number (h.2 ∙ ap pos e))
digit-spells b bytes (SignKind sign) d h = absurd (contrary (is_digit b) d (sign_like b bytes sign h).no_digit)

-- any other token is a sign
pub other-spells : (b : ℕ) (bytes : List ℕ) (kind : TokenKind) → is_letter b ≡ false → is_digit b ≡ false → Spells (b ∷ bytes) kind →
    (sign : Sign) × ((kind ≡ SignKind sign) × (sign_of (b ∷ bytes) ≡ Some sign))
other-spells b bytes Word l d h = absurd (contrary (is_letter b) (name-head b bytes h.0) l)
other-spells b bytes (Key key) l d h = absurd (contrary (is_letter b) (name-head b bytes h.0) l)
other-spells b bytes (Number n) l d h = absurd (contrary (is_digit b) (numeral-head b bytes h.0 h.1) d)
other-spells b bytes (SignKind sign) l d h = (sign, (refl, h))

-- a token doesn't begin with spacing
pub no_spacing_first : (b : ℕ) (bytes : List ℕ) (kind : TokenKind) → Spells (b ∷ bytes) kind → is_spacing b ≡ false
no_spacing_first b bytes Word h = letter-no_spacing b (name-head b bytes h.0)
no_spacing_first b bytes (Key key) h = letter-no_spacing b (name-head b bytes h.0)
no_spacing_first b bytes (Number n) h = digit-no_spacing b (numeral-head b bytes h.0 h.1)
no_spacing_first b bytes (SignKind sign) h = (sign_like b bytes sign h).no_spacing

-- the bytes of a token determine its kind
pub same_kind : (text : List ℕ) (kind other : TokenKind) → Spells text kind → Spells text other → kind ≡ other
same_kind [] kind other h k = absurd (no_empty_token kind h)
same_kind (b ∷ bytes) kind other h k = by_letter (is_letter b) (is_digit b) refl refl where
  by_letter : (letter digit : Bool) → is_letter b ≡ letter → is_digit b ≡ digit → kind ≡ other
  by_letter true _ l d = (letter-spells b bytes kind l h).1 ∙ sym (letter-spells b bytes other l k).1
  by_letter false true l d = (digit-spells b bytes kind d h).1 ∙ sym (digit-spells b bytes other d k).1
  by_letter false false l d =
      let first = other-spells b bytes kind l d h in
      let second = other-spells b bytes other l d k in
      let e = first.1.1 in
      let f = second.1.1 in
      first.1.0 ∙ (let same : SignKind first.0 ≡ SignKind second.0 = cc in same) ∙ sym second.1.0

-- a front of bytes is the bytes up to its length
pub front_of : (bytes text rest : List ℕ) → bytes ≡ text ++ rest → (text ≡ take (length text) bytes) × (rest ≡ drop (length text) bytes)
front_of bytes text rest whole = (sym (ap (λ (l : List ℕ). take (length text) l) whole ∙ take_at text rest (length text) refl), sym (ap (λ (l : List ℕ). drop (length text) l) whole ∙ drop_at text rest (length text) refl))

-- two first tokens are one
pub record IsSameToken (text rest other_text other_rest : List ℕ) (kind other_kind : TokenKind) : Type 0 where
  pub text_is : text ≡ other_text
  pub rest_is : rest ≡ other_rest
  pub kind_is : kind ≡ other_kind

pub one_first : (bytes text rest other_text other_rest : List ℕ) (kind other_kind : TokenKind) → IsLongestToken bytes text rest kind → IsLongestToken bytes other_text other_rest other_kind →
    IsSameToken text rest other_text other_rest kind other_kind
one_first bytes text rest other_text other_rest kind other_kind h k =
    let a = k.longest text rest kind h.whole h.spells in
    let b = h.longest other_text other_rest other_kind k.whole k.spells in
    let n : length text ≡ length other_text = omega arith in
    let f = front_of bytes text rest h.whole in
    let g = front_of bytes other_text other_rest k.whole in
    let same : text ≡ other_text = f.0 ∙ ap (λ (m : ℕ). take m bytes) n ∙ sym g.0 in
    let P : List ℕ → Type 0 = λ l. Spells l kind in
    record {
      text_is = same;
      rest_is = f.1 ∙ ap (λ (m : ℕ). drop m bytes) n ∙ sym g.1;
      kind_is = same_kind other_text kind other_kind (subst P same h.spells) k.spells;
    }

-- a front of bytes that all pass is no longer than the front up to the first byte that doesn't
passing-le-prefix : (p : ℕ → Bool) (front rest : List ℕ) → list_all p front ≡ true → length front ≤ prefix_len p (front ++ rest)
passing-le-prefix p [] rest h = omega arith
passing-le-prefix p (b ∷ front) rest h =
    let e = both_true (p b) (list_all p front) h in
    let more = passing-le-prefix p front rest e.1 in
    rw e.0 (omega (arith, more))

-- the front up to the first byte that doesn't pass passes
prefix-passes : (p : ℕ → Bool) (bytes : List ℕ) → list_all p (take (prefix_len p bytes) bytes) ≡ true
prefix-passes p [] = refl
prefix-passes p (b ∷ bytes) = by_test (p b) refl (prefix-passes p bytes) where
  by_test : (passes : Bool) → p b ≡ passes → list_all p (take (prefix_len p bytes) bytes) ≡ true → list_all p (take (prefix_len p (b ∷ bytes)) (b ∷ bytes)) ≡ true
  by_test true t more =
      let n : 1 + prefix_len p bytes ≡ suc (prefix_len p bytes) = omega arith in
      rw (t, n, t, more) refl
  by_test false t more = rw t refl

-- a prefix that begins with a byte that passes
prefix-more : (p : ℕ → Bool) (b : ℕ) (bytes : List ℕ) → p b ≡ true → prefix_len p (b ∷ bytes) ≡ suc (prefix_len p bytes)
prefix-more p b bytes t = let n : 1 + prefix_len p bytes ≡ suc (prefix_len p bytes) = omega arith in rw t n

-- a letter is a byte of a name
letter-name_byte : (b : ℕ) → is_letter b ≡ true → is_name_byte b ≡ true
letter-name_byte b l = rw l refl

-- the first byte of a token at the front of bytes
pub front_cons : (b : ℕ) (bytes text rest : List ℕ) (kind : TokenKind) → b ∷ bytes ≡ text ++ rest → Spells text kind → (more : List ℕ) × (text ≡ b ∷ more)
front_cons b bytes [] rest kind whole h = absurd (no_empty_token kind h)
front_cons b bytes (a ∷ more) rest kind whole h = (more, (let same : b ≡ a = cc in let e : a ∷ more ≡ b ∷ more = ap (λ (x : ℕ). x ∷ more) (sym same) in e))

-- where a letter stands, the first token is the name up to the first byte that isn't a name's
pub name_is_first : (b : ℕ) (bytes : List ℕ) (n : ℕ) → is_letter b ≡ true → n ≡ prefix_len is_name_byte (b ∷ bytes) →
    IsLongestToken (b ∷ bytes) (take n (b ∷ bytes)) (drop n (b ∷ bytes)) (name_kind (keyword_of (take n (b ∷ bytes))))
name_is_first b bytes n l is = record {
  whole = sym (take-append-drop n (b ∷ bytes));
  spells = by_entry (keyword_of (take n (b ∷ bytes))) refl;
  longest = longest;
} where
  shape : take n (b ∷ bytes) ≡ b ∷ take (prefix_len is_name_byte bytes) bytes
  shape = ap (λ (m : ℕ). take m (b ∷ bytes)) (is ∙ prefix-more is_name_byte b bytes (letter-name_byte b l))

  named : IsTrue (is_name (take n (b ∷ bytes)))
  named = rw shape (rw (l, prefix-passes is_name_byte bytes) refl)

  by_entry : (found : Option Keyword) → keyword_of (take n (b ∷ bytes)) ≡ found → Spells (take n (b ∷ bytes)) (name_kind found)
  by_entry None e = (named, e)
  by_entry (Some key) e = (named, e)

  size : length (take n (b ∷ bytes)) ≡ n
  size = length-take-le n (b ∷ bytes) (rw is (prefix_len-le-length is_name_byte (b ∷ bytes)))

  longest : (longer after : List ℕ) (other : TokenKind) → b ∷ bytes ≡ longer ++ after → Spells longer other → length longer ≤ length (take n (b ∷ bytes))
  longest longer after other whole h =
      let c = front_cons b bytes longer after other whole h in
      let P : List ℕ → Type 0 = λ t. Spells t other in
      let name = (letter-spells b c.0 other l (subst P c.1 h)).0 in
      let rest = (both_true (is_letter b) (list_all is_name_byte c.0) name).1 in
      let all : list_all is_name_byte longer ≡ true = rw c.1 (rw (l, rest) refl) in
      let short = passing-le-prefix is_name_byte longer after all in
      let same : prefix_len is_name_byte (longer ++ after) ≡ prefix_len is_name_byte (b ∷ bytes) = ap (λ (t : List ℕ). prefix_len is_name_byte t) (sym whole) in
      omega (arith, size, short, same, is)

-- a hexadecimal numeral begins with one of three bytes
hex-front : (b : ℕ) (bytes : List ℕ) → is_hex_numeral (b ∷ bytes) ≡ true → is_hex_numeral (take 3 (b ∷ bytes)) ≡ true
hex-front b [] h = absurd (cc)
hex-front b (x ∷ []) h = absurd (cc)
hex-front b (x ∷ d ∷ bytes) h =
    let k = both_true (b == 48) ((x == 120 || x == 88) && (is_hex_digit d && list_all is_hex_digit bytes)) h in
    let m = both_true (x == 120 || x == 88) (is_hex_digit d && list_all is_hex_digit bytes) k.1 in
    let o = both_true (is_hex_digit d) (list_all is_hex_digit bytes) m.1 in
    rw (k.0, m.0, o.0) refl

-- these three bytes are those of the text that it stands in
hex-front_same : (b : ℕ) (bytes more after : List ℕ) → is_hex_numeral (b ∷ more) ≡ true → b ∷ bytes ≡ (b ∷ more) ++ after → take 3 (b ∷ bytes) ≡ take 3 (b ∷ more)
hex-front_same b bytes [] after h whole = absurd (cc)
hex-front_same b bytes (x ∷ []) after h whole = absurd (cc)
hex-front_same b bytes (x ∷ d ∷ more) after h whole = ap (λ (t : List ℕ). take 3 t) whole

-- the third byte is a digit
hex-digit : (b x d : ℕ) → is_hex_numeral (b ∷ x ∷ d ∷ []) ≡ true → is_hex_digit d ≡ true
hex-digit b x d h =
    let k = both_true (b == 48) ((x == 120 || x == 88) && (is_hex_digit d && true)) h in
    let m = both_true (x == 120 || x == 88) (is_hex_digit d && true) k.1 in
    (both_true (is_hex_digit d) true m.1).0

-- the second byte is none
hex-x_no_digit : (b x d : ℕ) → is_hex_numeral (b ∷ x ∷ d ∷ []) ≡ true → is_digit x ≡ false
hex-x_no_digit b x d h =
    let k = both_true (b == 48) ((x == 120 || x == 88) && (is_hex_digit d && true)) h in
    let m = both_true (x == 120 || x == 88) (is_hex_digit d && true) k.1 in
    x-no_digit x m.0

-- more hexadecimal digits make a longer numeral
hex-more : (b x d : ℕ) (bytes : List ℕ) → is_hex_numeral (b ∷ x ∷ d ∷ []) ≡ true → list_all is_hex_digit bytes ≡ true → is_hex_numeral (b ∷ x ∷ d ∷ bytes) ≡ true
hex-more b x d bytes h all =
    let k = both_true (b == 48) ((x == 120 || x == 88) && (is_hex_digit d && true)) h in
    let m = both_true (x == 120 || x == 88) (is_hex_digit d && true) k.1 in
    let o = (both_true (is_hex_digit d) true m.1).0 in
    rw (k.0, m.0, o, all) refl

-- a hexadecimal numeral at the front is no longer than the digits that stand there
hex-short : (b x : ℕ) (bytes longer more after : List ℕ) → longer ≡ b ∷ more → b ∷ x ∷ bytes ≡ longer ++ after → is_hex_numeral (b ∷ more) ≡ true → (n : ℕ) →
    length (take n bytes) ≡ n → n ≡ prefix_len is_hex_digit bytes → length longer ≤ length (b ∷ x ∷ take n bytes)
hex-short b x bytes longer more after longer_is whole hex n size is =
    let like = hex_like b more hex in
    let cons : longer ≡ b ∷ like.x ∷ like.more = longer_is ∙ ap (λ (t : List ℕ). b ∷ t) like.bytes_are in
    let e : b ∷ x ∷ bytes ≡ b ∷ like.x ∷ (like.more ++ after) = whole ∙ ap (λ (t : List ℕ). t ++ after) cons in
    let f : bytes ≡ like.more ++ after = cc in
    let short = passing-le-prefix is_hex_digit like.more after like.digits in
    let same : prefix_len is_hex_digit (like.more ++ after) ≡ prefix_len is_hex_digit bytes = ap (λ (t : List ℕ). prefix_len is_hex_digit t) (sym f) in
    let long : length longer ≡ suc (suc (length like.more)) = ap (λ (t : List ℕ). length t) cons in
    omega (arith, short, same, long, size, is)

-- where a digit and no hexadecimal numeral stands, the first token is the numeral up to the first byte that is no digit
pub decimal_is_first : (b : ℕ) (bytes : List ℕ) (n : ℕ) → is_digit b ≡ true → is_hex_numeral (take 3 (b ∷ bytes)) ≡ false → n ≡ prefix_len is_digit (b ∷ bytes) →
    IsLongestToken (b ∷ bytes) (take n (b ∷ bytes)) (drop n (b ∷ bytes)) (Number (pos (decimal_value (take n (b ∷ bytes)))))
decimal_is_first b bytes n d no_hex is = record {
  whole = sym (take-append-drop n (b ∷ bytes));
  spells = (decimal_value (take n (b ∷ bytes)), inl (numeral, refl), refl);
  longest = longest;
} where
  shape : take n (b ∷ bytes) ≡ b ∷ take (prefix_len is_digit bytes) bytes
  shape = ap (λ (m : ℕ). take m (b ∷ bytes)) (is ∙ prefix-more is_digit b bytes d)

  numeral : IsTrue (is_numeral (take n (b ∷ bytes)))
  numeral = rw shape (rw (d, prefix-passes is_digit bytes) refl)

  size : length (take n (b ∷ bytes)) ≡ n
  size = length-take-le n (b ∷ bytes) (rw is (prefix_len-le-length is_digit (b ∷ bytes)))

  longest : (longer after : List ℕ) (other : TokenKind) → b ∷ bytes ≡ longer ++ after → Spells longer other → length longer ≤ length (take n (b ∷ bytes))
  longest longer after other whole h = by_numeral (digit-spells b c.0 other d (subst P c.1 h)).0 where
    c : (more : List ℕ) × (longer ≡ b ∷ more)
    c = front_cons b bytes longer after other whole h

    P : List ℕ → Type 0
    P = λ t. Spells t other

    by_numeral : IsNumeralOf (b ∷ c.0) (numeral_value (b ∷ c.0)) → length longer ≤ length (take n (b ∷ bytes))
    by_numeral (inl k) =
        let all : list_all is_digit longer ≡ true = rw c.1 k.0 in
        let short = passing-le-prefix is_digit longer after all in
        let same : prefix_len is_digit (longer ++ after) ≡ prefix_len is_digit (b ∷ bytes) = ap (λ (t : List ℕ). prefix_len is_digit t) (sym whole) in
        omega (arith, size, short, same, is)
    by_numeral (inr k) =
        let short : is_hex_numeral (take 3 (b ∷ c.0)) ≡ true = hex-front b c.0 k.0 in
        let front : take 3 (b ∷ bytes) ≡ take 3 (b ∷ c.0) = hex-front_same b bytes c.0 after k.0 (whole ∙ ap (λ (t : List ℕ). t ++ after) c.1) in
        absurd (contrary (is_hex_numeral (take 3 (b ∷ bytes))) (ap (λ (t : List ℕ). is_hex_numeral t) front ∙ short) no_hex)

-- where a hexadecimal numeral stands, the first token is the one up to the first byte that is no hexadecimal digit
pub hex_is_first : (b x d : ℕ) (bytes : List ℕ) (n : ℕ) → is_hex_numeral (b ∷ x ∷ d ∷ []) ≡ true → n ≡ prefix_len is_hex_digit (d ∷ bytes) →
    IsLongestToken (b ∷ x ∷ d ∷ bytes) (b ∷ x ∷ take n (d ∷ bytes)) (drop n (d ∷ bytes)) (Number (pos (hex_value (take n (d ∷ bytes)))))
hex_is_first b x d bytes n hex is = record {
  whole = ap (λ (t : List ℕ). b ∷ x ∷ t) (sym (take-append-drop n (d ∷ bytes)));
  spells = (hex_value (take n (d ∷ bytes)), inr (numeral, refl), refl);
  longest = longest;
} where
  like : IsHexLike b (x ∷ d ∷ [])
  like = hex_like b (x ∷ d ∷ []) hex

  passes : is_hex_digit d ≡ true
  passes = hex-digit b x d hex

  shape : take n (d ∷ bytes) ≡ d ∷ take (prefix_len is_hex_digit bytes) bytes
  shape = ap (λ (m : ℕ). take m (d ∷ bytes)) (is ∙ prefix-more is_hex_digit d bytes passes)

  numeral : IsTrue (is_hex_numeral (b ∷ x ∷ take n (d ∷ bytes)))
  numeral = rw shape (hex-more b x d (take (prefix_len is_hex_digit bytes) bytes) hex (prefix-passes is_hex_digit bytes))

  size : length (take n (d ∷ bytes)) ≡ n
  size = length-take-le n (d ∷ bytes) (rw is (prefix_len-le-length is_hex_digit (d ∷ bytes)))

  longest : (longer after : List ℕ) (other : TokenKind) → b ∷ x ∷ d ∷ bytes ≡ longer ++ after → Spells longer other → length longer ≤ length (b ∷ x ∷ take n (d ∷ bytes))
  longest longer after other whole h = by_numeral (digit-spells b c.0 other digit (subst P c.1 h)).0 where
    c : (more : List ℕ) × (longer ≡ b ∷ more)
    c = front_cons b (x ∷ d ∷ bytes) longer after other whole h

    P : List ℕ → Type 0
    P = λ t. Spells t other

    digit : is_digit b ≡ true
    digit = let e = like.zero_digit in rw e refl

    no_digit : is_digit x ≡ false
    no_digit = hex-x_no_digit b x d hex

    by_numeral : IsNumeralOf (b ∷ c.0) (numeral_value (b ∷ c.0)) → length longer ≤ length (b ∷ x ∷ take n (d ∷ bytes))
    by_numeral (inl k) =
        let all : list_all is_digit longer ≡ true = rw c.1 k.0 in
        let short = passing-le-prefix is_digit longer after all in
        let same : prefix_len is_digit (longer ++ after) ≡ prefix_len is_digit (b ∷ x ∷ d ∷ bytes) = ap (λ (t : List ℕ). prefix_len is_digit t) (sym whole) in
        let one : prefix_len is_digit (b ∷ x ∷ d ∷ bytes) ≡ 1 = rw (digit, no_digit) refl in
        omega (arith, short, same, one)
    by_numeral (inr k) = hex-short b x (d ∷ bytes) longer c.0 after c.1 whole k.0 n size is

-- a sign at the front of bytes that begin with neither a letter nor a digit
record IsSignFront (b : ℕ) (bytes text : List ℕ) (kind : TokenKind) : Type 0 where
  sign : Sign
  kind_is : kind ≡ SignKind sign
  front : text ≡ take (length text) (b ∷ bytes)
  spelled : sign_of (take (length text) (b ∷ bytes)) ≡ Some sign
  some : 1 ≤ length text
  short : length text ≤ 2
  within : length text ≤ length (b ∷ bytes)

-- a token at the front of such bytes is a sign
sign_front : (b : ℕ) (bytes text rest : List ℕ) (kind : TokenKind) → is_letter b ≡ false → is_digit b ≡ false → b ∷ bytes ≡ text ++ rest → Spells text kind →
    IsSignFront b bytes text kind
sign_front b bytes text rest kind l d whole h =
    let c = front_cons b bytes text rest kind whole h in
    let P : List ℕ → Type 0 = λ t. Spells t kind in
    let found = other-spells b c.0 kind l d (subst P c.1 h) in
    let f = front_of (b ∷ bytes) text rest whole in
    let like = sign_like b c.0 found.0 found.1.1 in
    let short = like.short in
    let size : length text ≡ suc (length c.0) = ap (λ (t : List ℕ). length t) c.1 in
    let sum : length (b ∷ bytes) ≡ length text + length rest = ap (λ (t : List ℕ). length t) whole ∙ length-append text rest in
    record {
      sign = found.0;
      kind_is = found.1.0;
      front = f.0;
      spelled = ap (λ (t : List ℕ). sign_of t) (sym f.0 ∙ c.1) ∙ found.1.1;
      some = omega (arith, size);
      short = omega (arith, size, short);
      within = omega (arith, sum);
    }

-- a sign that no longer one begins with is the first token
pub sign_is_first : (b : ℕ) (bytes : List ℕ) (n : ℕ) (sign : Sign) → is_letter b ≡ false → is_digit b ≡ false → n ≤ length (b ∷ bytes) → sign_of (take n (b ∷ bytes)) ≡ Some sign →
    ((m : ℕ) → n < m → m ≤ 2 → m ≤ length (b ∷ bytes) → sign_of (take m (b ∷ bytes)) ≡ None) →
    IsLongestToken (b ∷ bytes) (take n (b ∷ bytes)) (drop n (b ∷ bytes)) (SignKind sign)
sign_is_first b bytes n sign l d within spelled no_longer = record {
  whole = sym (take-append-drop n (b ∷ bytes));
  spells = spelled;
  longest = longest;
} where
  size : length (take n (b ∷ bytes)) ≡ n
  size = length-take-le n (b ∷ bytes) within

  longest : (longer after : List ℕ) (other : TokenKind) → b ∷ bytes ≡ longer ++ after → Spells longer other → length longer ≤ length (take n (b ∷ bytes))
  longest longer after other whole h = by_size (cases_lt n (length longer)) where
    s : IsSignFront b bytes longer other
    s = sign_front b bytes longer after other l d whole h

    by_size : (n < length longer) ⊎ (length longer ≤ n) → length longer ≤ length (take n (b ∷ bytes))
    by_size (inr le) = omega (arith, size, le)
    by_size (inl lt) = absurd (let e = no_longer (length longer) lt s.short s.within in let f = s.spelled in cc)

-- where neither a letter nor a digit nor a sign stands there is no token
pub no_sign_no_first : (b : ℕ) (bytes text rest : List ℕ) (kind : TokenKind) → is_letter b ≡ false → is_digit b ≡ false →
    ((m : ℕ) → 1 ≤ m → m ≤ 2 → sign_of (take m (b ∷ bytes)) ≡ None) → IsLongestToken (b ∷ bytes) text rest kind → ⊥
no_sign_no_first b bytes text rest kind l d none h =
    let s = sign_front b bytes text rest kind l d h.whole h.spells in
    let e = none (length text) s.some s.short in
    let f = s.spelled in
    cc

-- a byte that is no line feed
abbrev pub is_on_line : ℕ → Bool
is_on_line b = not (b == 10)

-- where every byte passes one test, and this one implies another, every byte passes the other
all_weaker : (p q : ℕ → Bool) → ((b : ℕ) → p b ≡ true → q b ≡ true) → (bytes : List ℕ) → list_all p bytes ≡ true → list_all q bytes ≡ true
all_weaker p q implies [] h = refl
all_weaker p q implies (b ∷ bytes) h =
    let k = both_true (p b) (list_all p bytes) h in
    rw (implies b k.0, all_weaker p q implies bytes k.1) refl

-- a byte of a name is no line feed
name_byte-on_line : (b : ℕ) → is_name_byte b ≡ true → is_on_line b ≡ true
name_byte-on_line b h = grind (arith, nat_tests)

-- a letter is no line feed
letter-on_line : (b : ℕ) → is_letter b ≡ true → is_on_line b ≡ true
letter-on_line b h = grind (arith, nat_tests)

-- a digit is no line feed
digit-on_line : (b : ℕ) → is_digit b ≡ true → is_on_line b ≡ true
digit-on_line b h = grind (arith, nat_tests)

-- a hexadecimal digit is no line feed
hex_digit-on_line : (b : ℕ) → is_hex_digit b ≡ true → is_on_line b ≡ true
hex_digit-on_line b h = grind (arith, nat_tests)

-- the letter after the zero is no line feed
x-on_line : (x : ℕ) → (x == 120 || x == 88) ≡ true → is_on_line x ≡ true
x-on_line x h = grind (arith, nat_tests)

-- no line feed stands in a name
name-on_line : (text : List ℕ) → is_name text ≡ true → list_all is_on_line text ≡ true
name-on_line [] h = refl
name-on_line (b ∷ bytes) h =
    let k = both_true (is_letter b) (list_all is_name_byte bytes) h in
    rw (letter-on_line b k.0, all_weaker is_name_byte is_on_line name_byte-on_line bytes k.1) refl

-- nor in a decimal numeral
decimal-on_line : (text : List ℕ) → is_numeral text ≡ true → list_all is_on_line text ≡ true
decimal-on_line [] h = refl
decimal-on_line (b ∷ bytes) h =
    let k = both_true (is_digit b) (list_all is_digit bytes) h in
    rw (digit-on_line b k.0, all_weaker is_digit is_on_line digit-on_line bytes k.1) refl

-- nor in a hexadecimal one
hex-on_line : (text : List ℕ) → is_hex_numeral text ≡ true → list_all is_on_line text ≡ true
hex-on_line [] h = refl
hex-on_line (b ∷ []) h = absurd (cc)
hex-on_line (b ∷ x ∷ []) h = absurd (cc)
hex-on_line (b ∷ x ∷ d ∷ bytes) h =
    let k = both_true (b == 48) ((x == 120 || x == 88) && (is_hex_digit d && list_all is_hex_digit bytes)) h in
    let m = both_true (x == 120 || x == 88) (is_hex_digit d && list_all is_hex_digit bytes) k.1 in
    let zero_digit : is_on_line b ≡ true = ap is_on_line (zero_is b k.0) in
    let more : list_all is_on_line (d ∷ bytes) ≡ true = all_weaker is_hex_digit is_on_line hex_digit-on_line (d ∷ bytes) m.1 in
    rw (zero_digit, x-on_line x m.0) more

-- nor in a sign
sign-on_line : (text : List ℕ) (sign : Sign) → sign_of text ≡ Some sign → list_all is_on_line text ≡ true
unfolding sign_of
sign-on_line text sign is = entry-passes (list_all is_on_line) signs text sign refl is

-- no line feed stands in a token
token-on_line : (text : List ℕ) (kind : TokenKind) → Spells text kind → list_all is_on_line text ≡ true
token-on_line text Word h = name-on_line text h.0
token-on_line text (Key key) h = name-on_line text h.0
token-on_line text (Number n) h = by_numeral h.1 where
  by_numeral : IsNumeralOf text h.0 → list_all is_on_line text ≡ true
  by_numeral (inl k) = decimal-on_line text k.0
  by_numeral (inr k) = hex-on_line text k.0
token-on_line text (SignKind sign) h = sign-on_line text sign h

-- bytes that are no line feeds have none
no_feeds : (text : List ℕ) → list_all is_on_line text ≡ true → count_by (λ b. b == 10) text ≡ 0
no_feeds [] h = refl
no_feeds (b ∷ bytes) h =
    let k = both_true (is_on_line b) (list_all is_on_line bytes) h in
    let no_feed : (b == 10) ≡ false = not_false (b == 10) k.0 in
    let more = no_feeds bytes k.1 in
    rw no_feed more

-- a token ends no line
pub token_has_no_feed : (text : List ℕ) (kind : TokenKind) → Spells text kind → count_by (λ b. b == 10) text ≡ 0
token_has_no_feed text kind h = no_feeds text (token-on_line text kind h)
