-- What the functions that look at the front of a text found there.
use Rattle.std.proofs.Common.{ℕ, suc, ◌+◌, ◌≤◌, ◌<◌, ◌^◌, ◌≡◌, ℤ, pos, true, false, List, [], ◌∷◌, ◌++◌, length, take, drop, get_or, Option, Some, None, refl, sym, ap, subst, ◌∙◌, arith}
use Rattle.std.specs.List.{prefix_len}
use Rattle.std.proofs.lemmas.List.{length-append, length-take-le}
use Rattle.std.proofs.lemmas.Int.{ints}
use Rattle.shim_base.specs.declared.TokenKind.{TokenKind}
use Rattle.shim_base.specs.declared.TokenKind.TheVariants.{Word, Number, Sign as SignKind}
use Rattle.shim_base.specs.declared.LexKind.TheVariants.{BadByte, LongName, BigNumber, OpenComment}
use Rattle.shim_base.specs.declared.Keyword.{Keyword}
use Rattle.shim_base.specs.declared.Sign.{Sign}
use Rattle.shim_base.specs.Tokens.{is_spacing, is_digit, is_letter, is_name_byte, is_hex_digit, is_hex_numeral, keyword_of, sign_of, decimal_value, hex_value, Begins, IsComment, line_opener, block_opener, block_closer, IsLongestToken, IsWithinLimits, Skips, spacing, IsFault}
use Rattle.shim_base.proofs.FirstToken.{name_kind, front_of, name_is_first, decimal_is_first, hex_is_first, sign_is_first, no_sign_no_first}
use Rattle.shim_base.proofs.Passing.{line_passes, IsCloserAt as ClosesAt, block_passes, block_open, no_pass, no_pass_of_open, no_pass_of_token}
use Rattle.shim_base.proofs.TextPrefix.{pass_takes}
use Rattle.shim_lexer.specs.Scanned.{is_on_line, IsCloserAt, IsTokenPlace, IsPassed, IsFittingToken}

-- what is passed over, by its length
pub is_passed : (text over rest : List ℕ) (len : ℕ) → Skips text over rest → length over ≡ len → IsPassed text len
is_passed text over rest len h size =
    let whole = (pass_takes text over rest h).1 in
    let f = front_of text over rest whole in
    let sum : length text ≡ length over + length rest = ap (λ (l : List ℕ). length l) whole ∙ length-append over rest in
    let over_is : over ≡ take len text = f.0 ∙ ap (λ (m : ℕ). take m text) size in
    let rest_is : rest ≡ drop len text = f.1 ∙ ap (λ (m : ℕ). drop m text) size in
    let P : List ℕ → Type 0 = λ l. Skips text l rest in
    let Q : List ℕ → Type 0 = λ l. Skips text (take len text) l in
    record { within = omega (arith, sum, size); passes = subst Q rest_is (subst P over_is h) }

-- a first token within limits, by its length
pub is_taken : (text front rest : List ℕ) (kind : TokenKind) (len : ℕ) → (IsComment text → ⊥) → IsLongestToken text front rest kind → IsWithinLimits front kind → length front ≡ len → IsFittingToken text kind len
is_taken text front rest kind len no_comment h fits size =
    let f = front_of text front rest h.whole in
    let sum : length text ≡ length front + length rest = ap (λ (l : List ℕ). length l) h.whole ∙ length-append front rest in
    let front_is : front ≡ take len text = f.0 ∙ ap (λ (m : ℕ). take m text) size in
    let rest_is : rest ≡ drop len text = f.1 ∙ ap (λ (m : ℕ). drop m text) size in
    let P : List ℕ → Type 0 = λ l. IsLongestToken text l rest kind in
    let Q : List ℕ → Type 0 = λ l. IsLongestToken text (take len text) l kind in
    let R : List ℕ → Type 0 = λ l. IsWithinLimits l kind in
    record {
      within = omega (arith, sum, size);
      no_comment = no_comment;
      first = subst Q rest_is (subst P front_is h);
      fits = subst R front_is fits;
    }

-- a byte of spacing is passed over
pub space_passed : (text : List ℕ) → 1 ≤ length text → is_spacing (get_or text 0 0) ≡ true → IsPassed text 1
space_passed [] some is = absurd (omega arith)
space_passed (b ∷ bytes) some is = is_passed (b ∷ bytes) (b ∷ []) bytes 1 (spacing b bytes is) refl

-- a line comment, after its opener
line_at : (tail : List ℕ) (n : ℕ) → n ≡ prefix_len is_on_line (47 ∷ 47 ∷ tail) → n ≤ length (47 ∷ 47 ∷ tail) → IsPassed (47 ∷ 47 ∷ tail) n
line_at tail n is within =
    let m = prefix_len is_on_line tail in
    let e : n ≡ suc (suc (prefix_len is_on_line tail)) = omega (arith, is) in
    let size = length-take-le (prefix_len is_on_line tail) tail (omega (arith, e, within)) in
    is_passed (47 ∷ 47 ∷ tail) (47 ∷ 47 ∷ take m tail) (drop m tail) n (line_passes tail m refl) (omega (arith, size, e))

-- a line comment is passed over up to the first line feed
pub line_passed : (text : List ℕ) (n : ℕ) → Begins text line_opener → n ≡ prefix_len is_on_line text → n ≤ length text → IsPassed text n
line_passed text n begins is within =
    let P : List ℕ → Type 0 = λ l. n ≡ prefix_len is_on_line l → n ≤ length l → IsPassed l n in
    let is_line : P (47 ∷ 47 ∷ begins.0) = line_at begins.0 n in
    subst P (sym begins.1) is_line is within

-- a closer, as the theory of comments has it
closes_at : (text : List ℕ) (k : ℕ) → IsCloserAt text k → ClosesAt text k
closes_at text k c =
    let within = c.within in
    let next : suc k ≡ k + 1 = omega arith in
    record { within = omega (arith, within); star = c.star; slash = ap (λ (m : ℕ). get_or text m 0) next ∙ c.slash }

-- and the other way round
closer_of : (text : List ℕ) (k : ℕ) → ClosesAt text k → IsCloserAt text k
closer_of text k c =
    let within = c.within in
    let next : k + 1 ≡ suc k = omega arith in
    record { within = omega (arith, within); star = c.star; slash = ap (λ (m : ℕ). get_or text m 0) next ∙ c.slash }

-- a block comment, after its opener
block_at : (tail : List ℕ) (k : ℕ) → IsCloserAt tail k → ((j : ℕ) → j < k → IsCloserAt tail j → ⊥) → IsPassed (47 ∷ 42 ∷ tail) (k + 4)
block_at tail k c before =
    let p = block_passes tail k (closes_at tail k c) (λ j lt h. before j lt (closer_of tail j h)) in
    let within = c.within in
    let size = length-take-le k tail (omega (arith, within)) in
    is_passed (47 ∷ 42 ∷ tail) (47 ∷ 42 ∷ (take k tail ++ block_closer)) (drop (suc (suc k)) tail) (k + 4) p (omega (arith, size, length-append (take k tail) block_closer))

-- a block comment is passed over up to its closer, and with it
pub block_passed : (text inside : List ℕ) (k : ℕ) → Begins text block_opener → inside ≡ drop 2 text → IsCloserAt inside k → ((j : ℕ) → j < k → IsCloserAt inside j → ⊥) → IsPassed text (k + 4)
block_passed text inside k begins is c before =
    let P : List ℕ → Type 0 = λ l. IsPassed l (k + 4) in
    let tail : inside ≡ begins.0 = is ∙ ap (λ (l : List ℕ). drop 2 l) begins.1 in
    let Q : List ℕ → Type 0 = λ l. IsCloserAt l k → ((j : ℕ) → j < k → IsCloserAt l j → ⊥) → IsPassed (47 ∷ 42 ∷ l) (k + 4) in
    let same : 47 ∷ 42 ∷ inside ≡ text = ap (λ (l : List ℕ). 47 ∷ 42 ∷ l) tail ∙ sym begins.1 in
    subst P same (block_at inside k c before)

-- a block comment without a closer is a fault
pub block_is_open : (text inside : List ℕ) → Begins text block_opener → inside ≡ drop 2 text → ((k : ℕ) → IsCloserAt inside k → ⊥) →
    ((over rest : List ℕ) → Skips text over rest → ⊥) × IsFault OpenComment text
block_is_open text inside begins is none =
    let tail : inside ≡ begins.0 = is ∙ ap (λ (l : List ℕ). drop 2 l) begins.1 in
    let same : 47 ∷ 42 ∷ inside ≡ text = ap (λ (l : List ℕ). 47 ∷ 42 ∷ l) tail ∙ sym begins.1 in
    let P : List ℕ → Type 0 = λ l. IsFault OpenComment l in
    let fault : IsFault OpenComment text = subst P same (block_open inside (λ k h. none k (closer_of inside k h))) in
    ((λ over rest. no_pass_of_open text over rest fault), fault)

-- where a letter stands, the name is the first token
pub name_first : (text : List ℕ) (n : ℕ) (name : List ℕ) (found : Option Keyword) → 1 ≤ length text → is_letter (get_or text 0 0) ≡ true → n ≡ prefix_len is_name_byte text →
    name ≡ take n text → found ≡ keyword_of name → IsLongestToken text name (drop n text) (name_kind found)
name_first [] n name found some l is front found_is = absurd (omega arith)
name_first (b ∷ bytes) n name found some l is front found_is =
    let P : List ℕ → Type 0 = λ t. IsLongestToken (b ∷ bytes) t (drop n (b ∷ bytes)) (name_kind (keyword_of t)) in
    let Q : Option Keyword → Type 0 = λ f. IsLongestToken (b ∷ bytes) name (drop n (b ∷ bytes)) (name_kind f) in
    subst Q (sym found_is) (subst P (sym front) (name_is_first b bytes n l is))

-- a name that is too long is a fault
pub name_is_long : (text name rest : List ℕ) → (IsComment text → ⊥) → IsLongestToken text name rest Word → 64 < length name → ((over behind : List ℕ) → Skips text over behind → ⊥) × IsFault LongName text
name_is_long text name rest no_comment first long = ((λ over behind. no_pass_of_token text name rest over behind Word no_comment first), (no_comment, name, rest, first, long))

-- where a digit and no hexadecimal numeral stands, the numeral is the first token
pub decimal_first : (text : List ℕ) (n : ℕ) (digits : List ℕ) → 1 ≤ length text → is_digit (get_or text 0 0) ≡ true → is_hex_numeral (take 3 text) ≡ false → n ≡ prefix_len is_digit text →
    digits ≡ take n text → IsLongestToken text digits (drop n text) (Number (pos (decimal_value digits)))
decimal_first [] n digits some d no_hex is front = absurd (omega arith)
decimal_first (b ∷ bytes) n digits some d no_hex is front =
    let P : List ℕ → Type 0 = λ t. IsLongestToken (b ∷ bytes) t (drop n (b ∷ bytes)) (Number (pos (decimal_value t))) in
    subst P (sym front) (decimal_is_first b bytes n d no_hex is)

-- a hexadecimal numeral that is the first token
pub record IsHexFirst (text digits : List ℕ) : Type 0 where
  pub front : List ℕ
  pub rest : List ℕ
  pub first : IsLongestToken text front rest (Number (pos (hex_value digits)))
  pub size : length front ≡ length digits + 2

-- where a hexadecimal numeral stands, it is the first token
pub hex_first : (text behind : List ℕ) (n : ℕ) (digits : List ℕ) → is_hex_numeral (take 3 text) ≡ true → behind ≡ drop 2 text → n ≡ prefix_len is_hex_digit behind → digits ≡ take n behind → IsHexFirst text digits
hex_first [] behind n digits hex behind_is is front = absurd (cc)
hex_first (b ∷ []) behind n digits hex behind_is is front = absurd (cc)
hex_first (b ∷ x ∷ []) behind n digits hex behind_is is front = absurd (cc)
hex_first (b ∷ x ∷ d ∷ bytes) behind n digits hex behind_is is front =
    let same : digits ≡ take n (d ∷ bytes) = front ∙ ap (λ (l : List ℕ). take n l) behind_is in
    let P : List ℕ → Type 0 = λ l. IsHexFirst (b ∷ x ∷ d ∷ bytes) l in
    subst P (sym same) (record {
      front = b ∷ x ∷ take n (d ∷ bytes);
      rest = drop n (d ∷ bytes);
      first = hex_is_first b x d bytes n hex (is ∙ ap (λ (l : List ℕ). prefix_len is_hex_digit l) behind_is);
      size = omega arith;
    })

-- a number below 2 ^ 63 is taken
pub number_taken : (text front rest : List ℕ) (n len : ℕ) (number : ℤ) → (IsComment text → ⊥) → IsLongestToken text front rest (Number (pos n)) → number ≡ pos n → n < 2 ^ 63 → length front ≡ len →
    IsFittingToken text (Number number) len
number_taken text front rest n len number no_comment first is small size =
    let P : ℤ → Type 0 = λ m. IsLongestToken text front rest (Number m) in
    is_taken text front rest (Number number) len no_comment (subst P (sym is) first) (omega (arith, ints, is, small)) size

-- a greater one is a fault
pub number_is_big : (text front rest : List ℕ) (n : ℕ) → (IsComment text → ⊥) → IsLongestToken text front rest (Number (pos n)) → 2 ^ 63 ≤ n → ((over behind : List ℕ) → Skips text over behind → ⊥) × IsFault BigNumber text
number_is_big text front rest n no_comment first big = ((λ over behind. no_pass_of_token text front rest over behind (Number (pos n)) no_comment first), (no_comment, front, rest, n, first, big))

-- where neither a letter nor a digit stands and a sign was found, it is the first token
sign_first : (text : List ℕ) (n : ℕ) (sign : Sign) → 1 ≤ length text → is_letter (get_or text 0 0) ≡ false → is_digit (get_or text 0 0) ≡ false → n ≤ length text →
    sign_of (take n text) ≡ Some sign → ((m : ℕ) → n < m → m ≤ 2 → m ≤ length text → sign_of (take m text) ≡ None) → IsLongestToken text (take n text) (drop n text) (SignKind sign)
sign_first [] n sign some l d within spelled longest = absurd (omega arith)
sign_first (b ∷ bytes) n sign some l d within spelled longest = sign_is_first b bytes n sign l d within spelled longest

-- and is taken
pub sign_taken : (text : List ℕ) (n : ℕ) (sign : Sign) → IsTokenPlace text → is_letter (get_or text 0 0) ≡ false → is_digit (get_or text 0 0) ≡ false → n ≤ length text →
    sign_of (take n text) ≡ Some sign → ((m : ℕ) → n < m → m ≤ 2 → m ≤ length text → sign_of (take m text) ≡ None) → IsFittingToken text (SignKind sign) n
sign_taken text n sign place l d within spelled longest =
    is_taken text (take n text) (drop n text) (SignKind sign) n place.no_comment (sign_first text n sign place.some l d within spelled longest) tt (length-take-le n text within)

-- where no sign was found either, the byte begins nothing
pub byte_is_bad : (text : List ℕ) → IsTokenPlace text → is_letter (get_or text 0 0) ≡ false → is_digit (get_or text 0 0) ≡ false →
    ((m : ℕ) → 1 ≤ m → m ≤ 2 → sign_of (take m text) ≡ None) → ((over rest : List ℕ) → Skips text over rest → ⊥) × IsFault BadByte text
byte_is_bad [] place l d none = absurd (let some = place.some in omega arith)
byte_is_bad (b ∷ bytes) place l d none = (
  (λ over rest. no_pass b bytes over rest place.no_spacing place.no_comment),
  ((λ e. absurd (cc)), place.no_comment, λ other rest kind. no_sign_no_first b bytes other rest kind l d none),
)
