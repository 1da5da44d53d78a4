-- What stands at the front of bytes: that there is always something, and so a cutting.
use Rattle.std.proofs.Common.{ℕ, zero, suc, ◌+◌, ◌≤◌, ◌<◌, ◌^◌, ◌≡◌, pos, Bool, true, false, List, [], ◌∷◌, ◌++◌, length, take, drop, Option, Some, None, refl, sym, ap, subst, ◌∙◌, arith, inl, inr, ◌⊎◌}
use Rattle.std.specs.Prelude.{◌==◌}
use Rattle.std.specs.List.{prefix_len}
use Rattle.std.proofs.lemmas.List.{append_assoc, length-append}
use Rattle.std.proofs.lemmas.Int.{ints}
use Rattle.std.proofs.lemmas.Bool.{cases_lt}
use Rattle.std.proofs.lemmas.Bool.Decides.{nat_tests}
use Rattle.shim_base.specs.declared.token.TokenKind.{TokenKind}
use Rattle.shim_base.specs.declared.token.TokenKind.TheVariants.{Word, Key, Number, Sign as SignKind}
use Rattle.shim_base.specs.declared.token.LexKind.{LexKind}
use Rattle.shim_base.specs.declared.token.LexKind.TheVariants.{BadByte, LongName, BigNumber, OpenComment}
use Rattle.shim_base.specs.declared.token.Keyword.{Keyword}
use Rattle.shim_base.specs.declared.token.Sign.{Sign}
use Rattle.shim_base.specs.Tokens.{is_spacing, is_digit, is_letter, is_name_byte, is_hex_digit, is_hex_numeral, keyword_of, sign_of, decimal_value, hex_value, IsWithinLimits, IsLongestToken, Token, Place, place_after, Begins, IsComment, line_opener, block_opener, block_closer, Skips, spacing, line_comment, block_comment, IsFault, Fault, Cuts, ended, passed, token, faulty}
use Rattle.shim_base.specs.Cutting.{IsCutOnce}
use Rattle.shim_base.proofs.FirstToken.{is_on_line, name_kind, name_is_first, decimal_is_first, hex_is_first, sign_is_first, no_sign_no_first}
use Rattle.shim_base.proofs.Passing.{line_passes, IsCloserAt, block_passes, block_open, no_pass, no_pass_of_open, no_pass_of_token}
use Rattle.shim_base.proofs.Cutting.{first_takes, token_at, fault_at, cuts_once}

-- what stands at the front of bytes
pub data TextPrefix : List ℕ → Type 0 where
  no_bytes : TextPrefix []
  passing : (bytes over rest : List ℕ) → Skips bytes over rest → TextPrefix bytes
  taken : (bytes text rest : List ℕ) (kind : TokenKind) → (IsComment bytes → ⊥) → IsLongestToken bytes text rest kind → IsWithinLimits text kind → TextPrefix bytes
  fault : (bytes : List ℕ) (kind : LexKind) → ((over rest : List ℕ) → Skips bytes over rest → ⊥) → IsFault kind bytes → TextPrefix bytes

-- a slash is one
is_byte : (b c : ℕ) → (b == c) ≡ true → b ≡ c
is_byte b c h = grind (arith, nat_tests)

-- any other byte is none
is_other : (b c : ℕ) → (b == c) ≡ false → b ≡ c → ⊥
is_other b c h e = grind (arith, nat_tests)

-- no comment begins with another byte
pub no_comment_at : (b : ℕ) (bytes : List ℕ) → (b ≡ 47 → ⊥) → IsComment (b ∷ bytes) → ⊥
no_comment_at b bytes other (inl c) = let e = c.1 in other (cc)
no_comment_at b bytes other (inr c) = let e = c.1 in other (cc)

-- nor with one byte
pub no_comment_alone : (b : ℕ) → IsComment (b ∷ []) → ⊥
no_comment_alone b (inl c) = absurd (let e = c.1 in cc)
no_comment_alone b (inr c) = absurd (let e = c.1 in cc)

-- nor with another second byte
pub no_comment_second : (b c : ℕ) (bytes : List ℕ) → (c ≡ 47 → ⊥) → (c ≡ 42 → ⊥) → IsComment (b ∷ c ∷ bytes) → ⊥
no_comment_second b c bytes no_slash no_star (inl h) = let e = h.1 in no_slash (cc)
no_comment_second b c bytes no_slash no_star (inr h) = let e = h.1 in no_star (cc)

-- whether a comment begins here, and which
opening : (bytes : List ℕ) → Begins bytes line_opener ⊎ (Begins bytes block_opener ⊎ (IsComment bytes → ⊥))
opening [] = inr (inr no_comment) where
  no_comment : IsComment [] → ⊥
  no_comment (inl c) = absurd (let e = c.1 in cc)
  no_comment (inr c) = absurd (let e = c.1 in cc)
opening (b ∷ []) = inr (inr (no_comment_alone b))
opening (b ∷ c ∷ bytes) = by_first (b == 47) (c == 47) (c == 42) refl refl refl where
  by_first : (first slash star : Bool) → (b == 47) ≡ first → (c == 47) ≡ slash → (c == 42) ≡ star →
      Begins (b ∷ c ∷ bytes) line_opener ⊎ (Begins (b ∷ c ∷ bytes) block_opener ⊎ (IsComment (b ∷ c ∷ bytes) → ⊥))
  by_first false slash star f s t = inr (inr (no_comment_at b (c ∷ bytes) (is_other b 47 f)))
  by_first true true star f s t = inl (bytes, ap (λ (x : ℕ). x ∷ c ∷ bytes) (is_byte b 47 f) ∙ ap (λ (x : ℕ). 47 ∷ x ∷ bytes) (is_byte c 47 s))
  by_first true false true f s t = inr (inl (bytes, ap (λ (x : ℕ). x ∷ c ∷ bytes) (is_byte b 47 f) ∙ ap (λ (x : ℕ). 47 ∷ x ∷ bytes) (is_byte c 42 t)))
  by_first true false false f s t = inr (inr (no_comment_second b c bytes (is_other c 47 s) (is_other c 42 t)))

-- the first closer, if there is one
record HasCloser (text : List ℕ) : Type 0 where
  at : ℕ
  is : IsCloserAt text at
  before : (k : ℕ) → k < at → IsCloserAt text k → ⊥

-- a closer one byte on
closer_on : (b : ℕ) (text : List ℕ) (k : ℕ) → IsCloserAt (b ∷ text) (suc k) → IsCloserAt text k
closer_on b text k c = let within = c.within in record { within = omega arith; star = c.star; slash = c.slash }

-- a closer one byte before
closer_back : (b : ℕ) (text : List ℕ) (k : ℕ) → IsCloserAt text k → IsCloserAt (b ∷ text) (suc k)
closer_back b text k c = let within = c.within in record { within = omega arith; star = c.star; slash = c.slash }

-- the first byte begins no closer, and so the first one is that of the rest
closer_later : (b : ℕ) (text : List ℕ) → (IsCloserAt (b ∷ text) 0 → ⊥) → HasCloser text ⊎ ((k : ℕ) → IsCloserAt text k → ⊥) →
    HasCloser (b ∷ text) ⊎ ((k : ℕ) → IsCloserAt (b ∷ text) k → ⊥)
closer_later b text here (inl c) = inl (record { at = suc c.at; is = closer_back b text c.at c.is; before = before }) where
  before : (k : ℕ) → k < suc c.at → IsCloserAt (b ∷ text) k → ⊥
  before zero lt h = here h
  before (suc k) lt h = c.before k (omega arith) (closer_on b text k h)
closer_later b text here (inr none) = inr no where
  no : (k : ℕ) → IsCloserAt (b ∷ text) k → ⊥
  no zero h = here h
  no (suc k) h = none k (closer_on b text k h)

-- whether the first byte begins a closer
closer_here : (b : ℕ) (text : List ℕ) → IsCloserAt (b ∷ text) 0 ⊎ (IsCloserAt (b ∷ text) 0 → ⊥)
closer_here b [] = inr (λ h. let within = h.within in absurd (omega arith))
closer_here b (c ∷ text) = by_bytes (b == 42) (c == 47) refl refl where
  by_bytes : (star slash : Bool) → (b == 42) ≡ star → (c == 47) ≡ slash → IsCloserAt (b ∷ c ∷ text) 0 ⊎ (IsCloserAt (b ∷ c ∷ text) 0 → ⊥)
  by_bytes true true s t = inl (record { within = omega arith; star = is_byte b 42 s; slash = is_byte c 47 t })
  by_bytes true false s t = inr (λ h. is_other c 47 t h.slash)
  by_bytes false slash s t = inr (λ h. is_other b 42 s h.star)

-- a closer that begins here or later
closer_from : (b : ℕ) (text : List ℕ) → IsCloserAt (b ∷ text) 0 ⊎ (IsCloserAt (b ∷ text) 0 → ⊥) → HasCloser text ⊎ ((k : ℕ) → IsCloserAt text k → ⊥) →
    HasCloser (b ∷ text) ⊎ ((k : ℕ) → IsCloserAt (b ∷ text) k → ⊥)
closer_from b text (inl h) later = inl (record { at = 0; is = h; before = λ k lt c. absurd (omega arith) })
closer_from b text (inr not_here) later = closer_later b text not_here later

-- a text has a first closer or none
find_closer : (text : List ℕ) → HasCloser text ⊎ ((k : ℕ) → IsCloserAt text k → ⊥)
find_closer [] = inr (λ k h. let within = h.within in absurd (omega arith))
find_closer (b ∷ text) = closer_from b text (closer_here b text) (find_closer text)

-- what a block comment is
block_prefix : (text : List ℕ) → HasCloser text ⊎ ((k : ℕ) → IsCloserAt text k → ⊥) → TextPrefix (47 ∷ 42 ∷ text)
block_prefix text (inl c) = passing (47 ∷ 42 ∷ text) (47 ∷ 42 ∷ (take c.at text ++ block_closer)) (drop (suc (suc c.at)) text) (block_passes text c.at c.is c.before)
block_prefix text (inr none) = fault (47 ∷ 42 ∷ text) OpenComment (λ over rest. no_pass_of_open (47 ∷ 42 ∷ text) over rest (block_open text none)) (block_open text none)

-- a first token that is a name is a token or too long
word_prefix : (bytes text rest : List ℕ) (found : Option Keyword) → (IsComment bytes → ⊥) → IsLongestToken bytes text rest (name_kind found) → TextPrefix bytes
word_prefix bytes text rest (Some key) no_comment first = taken bytes text rest (Key key) no_comment first tt
word_prefix bytes text rest None no_comment first = by_size (cases_lt 64 (length text)) where
  by_size : (64 < length text) ⊎ (length text ≤ 64) → TextPrefix bytes
  by_size (inl lt) = fault bytes LongName (λ over behind. no_pass_of_token bytes text rest over behind Word no_comment first) (no_comment, text, rest, first, lt)
  by_size (inr le) = taken bytes text rest Word no_comment first le

-- a first token that is a number is a token or too big
number_prefix : (bytes text rest : List ℕ) (n : ℕ) → (IsComment bytes → ⊥) → IsLongestToken bytes text rest (Number (pos n)) → TextPrefix bytes
number_prefix bytes text rest n no_comment first = by_size (cases_lt n (2 ^ 63)) where
  by_size : (n < 2 ^ 63) ⊎ (2 ^ 63 ≤ n) → TextPrefix bytes
  by_size (inl lt) = taken bytes text rest (Number (pos n)) no_comment first (omega (arith, ints, lt))
  by_size (inr le) = fault bytes BigNumber (λ over behind. no_pass_of_token bytes text rest over behind (Number (pos n)) no_comment first) (no_comment, text, rest, n, first, le)

-- what a digit begins
digit_prefix : (b : ℕ) (bytes : List ℕ) (hex : Bool) → is_hex_numeral (take 3 (b ∷ bytes)) ≡ hex → is_digit b ≡ true → (IsComment (b ∷ bytes) → ⊥) → TextPrefix (b ∷ bytes)
digit_prefix b bytes false h d no_comment =
    let n = prefix_len is_digit (b ∷ bytes) in
    number_prefix (b ∷ bytes) (take n (b ∷ bytes)) (drop n (b ∷ bytes)) (decimal_value (take n (b ∷ bytes))) no_comment (decimal_is_first b bytes n d h refl)
digit_prefix b [] true h d no_comment = absurd (cc)
digit_prefix b (x ∷ []) true h d no_comment = absurd (cc)
digit_prefix b (x ∷ e ∷ bytes) true h d no_comment =
    let n = prefix_len is_hex_digit (e ∷ bytes) in
    number_prefix (b ∷ x ∷ e ∷ bytes) (b ∷ x ∷ take n (e ∷ bytes)) (drop n (e ∷ bytes)) (hex_value (take n (e ∷ bytes))) no_comment (hex_is_first b x e bytes n h refl)

-- what begins with neither a letter nor a digit nor spacing
other_prefix : (b : ℕ) (bytes : List ℕ) (two one : Option Sign) → sign_of (take 2 (b ∷ bytes)) ≡ two → sign_of (b ∷ []) ≡ one → is_letter b ≡ false → is_digit b ≡ false → is_spacing b ≡ false →
    (IsComment (b ∷ bytes) → ⊥) → TextPrefix (b ∷ bytes)
other_prefix b [] two (Some sign) s t l d no_space no_comment =
    taken (b ∷ []) (b ∷ []) [] (SignKind sign) no_comment (sign_is_first b [] 1 sign l d (omega arith) t (λ m lt le within. absurd (omega arith))) tt
other_prefix b [] two None s t l d no_space no_comment =
    fault (b ∷ []) BadByte (λ over rest. no_pass b [] over rest no_space no_comment) ((λ e. absurd (cc)), no_comment, λ text rest kind. no_sign_no_first b [] text rest kind l d none) where
      none : (m : ℕ) → 1 ≤ m → m ≤ 2 → sign_of (take m (b ∷ [])) ≡ None
      none zero some le = absurd (omega arith)
      none (suc zero) some le = t
      none (suc (suc m)) some le = t
other_prefix b (c ∷ bytes) (Some sign) one s t l d no_space no_comment =
    taken (b ∷ c ∷ bytes) (b ∷ c ∷ []) bytes (SignKind sign) no_comment (sign_is_first b (c ∷ bytes) 2 sign l d (omega arith) s (λ m lt le within. absurd (omega arith))) tt
other_prefix b (c ∷ bytes) None (Some sign) s t l d no_space no_comment =
    taken (b ∷ c ∷ bytes) (b ∷ []) (c ∷ bytes) (SignKind sign) no_comment (sign_is_first b (c ∷ bytes) 1 sign l d (omega arith) t none) tt where
      none : (m : ℕ) → 1 < m → m ≤ 2 → m ≤ length (b ∷ c ∷ bytes) → sign_of (take m (b ∷ c ∷ bytes)) ≡ None
      none m lt le within = let two : 2 ≡ m = omega arith in ap (λ (n : ℕ). sign_of (take n (b ∷ c ∷ bytes))) (sym two) ∙ s
other_prefix b (c ∷ bytes) None None s t l d no_space no_comment =
    fault (b ∷ c ∷ bytes) BadByte (λ over rest. no_pass b (c ∷ bytes) over rest no_space no_comment)
    ((λ e. absurd (cc)), no_comment, λ text rest kind. no_sign_no_first b (c ∷ bytes) text rest kind l d none) where
      none : (m : ℕ) → 1 ≤ m → m ≤ 2 → sign_of (take m (b ∷ c ∷ bytes)) ≡ None
      none zero some le = absurd (omega arith)
      none (suc zero) some le = t
      none (suc (suc zero)) some le = s
      none (suc (suc (suc m))) some le = absurd (omega arith)

-- what stands where neither spacing nor a comment does
token_prefix : (b : ℕ) (bytes : List ℕ) → is_spacing b ≡ false → (IsComment (b ∷ bytes) → ⊥) → TextPrefix (b ∷ bytes)
token_prefix b bytes no_space no_comment = by_letter (is_letter b) (is_digit b) refl refl where
  by_letter : (letter digit : Bool) → is_letter b ≡ letter → is_digit b ≡ digit → TextPrefix (b ∷ bytes)
  by_letter true digit l d =
      let n = prefix_len is_name_byte (b ∷ bytes) in
      word_prefix (b ∷ bytes) (take n (b ∷ bytes)) (drop n (b ∷ bytes)) (keyword_of (take n (b ∷ bytes))) no_comment (name_is_first b bytes n l refl)
  by_letter false true l d = digit_prefix b bytes (is_hex_numeral (take 3 (b ∷ bytes))) refl d no_comment
  by_letter false false l d = other_prefix b bytes (sign_of (take 2 (b ∷ bytes))) (sign_of (b ∷ [])) refl refl l d no_space no_comment

-- something stands at the front of any bytes
comment_prefix : (b : ℕ) (bytes : List ℕ) → is_spacing b ≡ false → Begins (b ∷ bytes) line_opener ⊎ (Begins (b ∷ bytes) block_opener ⊎ (IsComment (b ∷ bytes) → ⊥)) → TextPrefix (b ∷ bytes)
comment_prefix b bytes no_space (inl begins) =
    let n = prefix_len is_on_line begins.0 in
    let P : List ℕ → Type 0 = λ l. TextPrefix l in
    subst P (sym begins.1) (passing (47 ∷ 47 ∷ begins.0) (47 ∷ 47 ∷ take n begins.0) (drop n begins.0) (line_passes begins.0 n refl))
comment_prefix b bytes no_space (inr (inl begins)) = let P : List ℕ → Type 0 = λ l. TextPrefix l in subst P (sym begins.1) (block_prefix begins.0 (find_closer begins.0))
comment_prefix b bytes no_space (inr (inr no_comment)) = token_prefix b bytes no_space no_comment

-- what stands at the front of any bytes
pub text_prefix : (bytes : List ℕ) → TextPrefix bytes
text_prefix [] = no_bytes
text_prefix (b ∷ bytes) = by_spacing (is_spacing b) refl where
  by_spacing : (space : Bool) → is_spacing b ≡ space → TextPrefix (b ∷ bytes)
  by_spacing true s = passing (b ∷ bytes) (b ∷ []) bytes (spacing b bytes s)
  by_spacing false s = comment_prefix b bytes s (opening (b ∷ bytes))

-- what is passed over takes bytes
pub pass_takes : (bytes over rest : List ℕ) → Skips bytes over rest → (1 ≤ length over) × (bytes ≡ over ++ rest)
pass_takes _ _ _ (spacing b rest is) = (omega arith, refl)
pass_takes _ _ _ (line_comment inside rest no_feed ends) = (omega arith, ap (λ (l : List ℕ). 47 ∷ 47 ∷ l) refl)
pass_takes _ _ _ (block_comment inside rest first) = (omega arith, ap (λ (l : List ℕ). 47 ∷ 42 ∷ l) (sym (append_assoc inside block_closer rest)))

-- a cutting
record HasCutting (place : Place) (bytes : List ℕ) : Type 0 where
  tokens : List Token
  end : Option Fault
  cuts : Cuts place bytes tokens end

-- what stands at the front, and a cutting of what follows, make a cutting
cut_prefix : (most : ℕ) (place : Place) (bytes : List ℕ) → length bytes ≤ suc most → TextPrefix bytes → ((next : Place) (rest : List ℕ) → length rest ≤ most → HasCutting next rest) →
    HasCutting place bytes
cut_prefix most place _ le no_bytes again = record { tokens = []; end = None; cuts = ended place }
cut_prefix most place bytes le (passing _ over rest passes) again =
    let takes = pass_takes bytes over rest passes in
    let size : length bytes ≡ length over + length rest = ap (λ (l : List ℕ). length l) takes.1 ∙ length-append over rest in
    let some = takes.0 in
    let more = again (place_after place over) rest (omega (arith, size, some, le)) in
    record { tokens = more.tokens; end = more.end; cuts = passed place bytes over rest more.tokens more.end passes more.cuts }
cut_prefix most place bytes le (taken _ text rest kind no_comment first fits) again =
    let takes = first_takes bytes text rest kind first in
    let more = again (place_after place text) rest (omega (arith, takes.0, takes.1, le)) in
    record {
      tokens = token_at place text kind ∷ more.tokens;
      end = more.end;
      cuts = token place bytes text rest kind more.tokens more.end no_comment first fits more.cuts;
    }
cut_prefix most place bytes le (fault _ kind no_pass is) again = record { tokens = []; end = Some (fault_at place kind); cuts = faulty place bytes kind no_pass is }

-- bytes of a bounded length have a cutting
cut_bounded : (most : ℕ) (place : Place) (bytes : List ℕ) → length bytes ≤ most → HasCutting place bytes
cut_bounded zero place [] le = record { tokens = []; end = None; cuts = ended place }
cut_bounded zero place (b ∷ bytes) le = absurd (omega arith)
cut_bounded (suc most) place bytes le = cut_prefix most place bytes le (text_prefix bytes) (cut_bounded most)

-- there is exactly one cutting
pub cut_exactly_once : (place : Place) (bytes : List ℕ) → IsCutOnce place bytes
cut_exactly_once place bytes =
    let h = cut_bounded (length bytes) place bytes (omega arith) in
    record {
      tokens = h.tokens;
      end = h.end;
      cuts = h.cuts;
      only = λ tokens end c. let same = cuts_once place bytes tokens h.tokens end h.end c h.cuts in (same.tokens_are, same.end_is);
    }
