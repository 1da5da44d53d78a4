-- A number that is read is the number that was written, and what was written is read again.
use Rattle.std.proofs.Common.{rules, ◌≡◌, ◌≤◌, ◌<◌, ◌^◌, ◌∙◌, ◌⊎◌, inl, inr, ℕ, zero, suc, ◌+◌, ◌*◌, ◌-◌, Bool, true, false, cond, ◌&&◌, ltb, leb, eqb, List, [], ◌∷◌, ◌++◌, drop, get_or, length, Option, Some, None, refl, sym, ap, subst, arith}
use Rattle.std.specs.Prelude.{decimal}
use Rattle.std.specs.List.{starts_with}
use Rattle.std.specs.Int.{IsInRange}
use Rattle.std.proofs.lemmas.Bool.{lt-ltb, ltb-true, le-leb, leb-true, ne_eqb, eqb-true, eqb-false}
use Rattle.std.proofs.lemmas.Bool.Decides.{Decides-eqb}
use Rattle.std.proofs.lemmas.Fmt.{digits_decimal, digits_value-decimal, decimal-digits_value, first_decimal, decimal_digit}
use Rattle.std.proofs.lemmas.Slice.Eq.{starts_is}
use Rattle.std.proofs.lemmas.Str.Parse.{IsNumeralModel, numerals_by_fold}
use Rattle.shim_base.specs.Tokens.{is_digit}
use Rattle.shim_replay.specs.Scanning.{◌>>=◌, scan_digits, scan_number, scan_count, scan_word}

-- ---- options

pub bind_some : {A B : Type 0} (o : Option A) (f : A → Option B) (y : B) → (o >>= f) ≡ Some y → (x : A) × (o ≡ Some x) × (f x ≡ Some y)
bind_some (Some x) f y e = (x, refl, e)
bind_some None f y e = absurd cc

abbrev some : {A : Type 0} → A → Option A
some x = Some x

pub some_is : {A : Type 0} (x y : A) → some x ≡ some y → x ≡ y
some_is x y e = cc

guard_some : {A : Type 0} (b : Bool) (x y : A) → cond b (some x) None ≡ Some y → (b ≡ true) × (x ≡ y)
guard_some true x y e = (refl, cc)
guard_some false x y e = absurd cc

guard_none : {A : Type 0} (b : Bool) (x : Option A) (y : A) → cond b None x ≡ some y → (b ≡ false) × (x ≡ some y)
guard_none true x y e = absurd cc
guard_none false x y e = (refl, e)

pub chosen : {A : Type 0} (b : Bool) (x y : Option A) (z : A) → cond b x y ≡ some z → ((b ≡ true) × (x ≡ some z)) ⊎ ((b ≡ false) × (y ≡ some z))
chosen true x y z e = inl (refl, e)
chosen false x y z e = inr (refl, e)

-- ---- words

pub word_takes : (word bytes rest : List ℕ) → scan_word word bytes ≡ Some rest → bytes ≡ word ++ rest
word_takes word bytes rest e =
    let g = guard_some (starts_with eqb bytes word) (drop (length word) bytes) rest e in
    (starts_is Decides-eqb bytes word (starts_with eqb bytes word) refl).0 g.0 ∙ ap (λ (r : List ℕ). word ++ r) g.1

drop_word : (word rest : List ℕ) → drop (length word) (word ++ rest) ≡ rest
drop_word [] rest = refl
drop_word (c ∷ cs) rest = drop_word cs rest

pub begins : (word rest : List ℕ) → starts_with eqb (word ++ rest) word ≡ true
begins word rest = (starts_is Decides-eqb (word ++ rest) word (starts_with eqb (word ++ rest) word) refl).1 rest refl

pub word_again : (word rest : List ℕ) → scan_word word (word ++ rest) ≡ Some rest
word_again word rest = rw (begins word rest, drop_word word rest) refl

pub begins_is : (word bytes : List ℕ) → starts_with eqb bytes word ≡ true → bytes ≡ word ++ drop (length word) bytes
begins_is word bytes e = (starts_is Decides-eqb bytes word (starts_with eqb bytes word) refl).0 e

-- ---- digits

abbrev pub AreDigits : List ℕ → Type 0
AreDigits [] = Unit {0}
AreDigits (c ∷ cs) = IsInRange 48 57 c × AreDigits cs

abbrev value_after : ℕ → List ℕ → ℕ
value_after n [] = n
value_after n (c ∷ cs) = value_after (n * 10 + (c - 48)) cs

own : IsNumeralModel AreDigits (value_after 0)
own = numerals_by_fold _ (search rules) value_after (search rules)

pub decimal_digits : (n : ℕ) → n < 2 ^ 64 → AreDigits (decimal n)
decimal_digits n small = digits_decimal own n small

decimal_value : (n : ℕ) → n < 2 ^ 64 → value_after 0 (decimal n) ≡ n
decimal_value n small = digits_value-decimal own n small

is_digit_true : (c : ℕ) → IsInRange 48 57 c → is_digit c ≡ true
is_digit_true c r = rw (le-leb 48 c r.0, le-leb c 57 r.1) refl

both_of : (a b : Bool) → (a && b) ≡ true → (a ≡ true) × (b ≡ true)
both_of true true e = (refl, refl)
both_of true false e = absurd cc
both_of false b e = absurd cc

digit_range : (c : ℕ) → is_digit c ≡ true → IsInRange 48 57 c
digit_range c e = let p = both_of (leb 48 c) (leb c 57) e in (leb-true 48 c p.0, leb-true c 57 p.1)

-- no digit comes first
abbrev pub Stops : List ℕ → Type 0
Stops [] = Unit {0}
Stops (c ∷ cs) = is_digit c ≡ false

le_value : (n : ℕ) (ds : List ℕ) → n ≤ value_after n ds
le_value n [] = omega arith
le_value n (c ∷ cs) = omega (arith, le_value (n * 10 + (c - 48)) cs)

digits_end : (limit n : ℕ) (rest : List ℕ) → Stops rest → scan_digits limit n rest ≡ Some (n, rest)
digits_end limit n [] s = refl
digits_end limit n (c ∷ cs) s = rw s refl

digits_again : (limit n : ℕ) (ds rest : List ℕ) → AreDigits ds → value_after n ds < limit → Stops rest → scan_digits limit n (ds ++ rest) ≡ Some (value_after n ds, rest)
digits_again limit n [] rest d small s = digits_end limit n rest s
digits_again limit n (c ∷ cs) rest d small s =
    let below : n * 10 + (c - 48) < limit = omega (arith, le_value (n * 10 + (c - 48)) cs) in
    rw (is_digit_true c d.0, lt-ltb _ _ below) (digits_again limit (n * 10 + (c - 48)) cs rest d.1 small s)

-- what was read of digits
record TakesDigits (limit n : ℕ) (bytes : List ℕ) (x : ℕ × List ℕ) : Type 0 where
  digits : List ℕ
  are : AreDigits digits
  parts : bytes ≡ digits ++ x.1
  value : x.0 ≡ value_after n digits
  below : x.0 < limit

digits_takes : (limit n : ℕ) (bytes : List ℕ) (x : ℕ × List ℕ) → n < limit → scan_digits limit n bytes ≡ Some x → TakesDigits limit n bytes x
digits_takes limit n [] x small e =
    let i = some_is (n, []) x e in
    subst (TakesDigits limit n []) i (record { digits = []; are = tt; parts = refl; value = refl; below = small })
digits_takes limit n (c ∷ cs) x small e =
    elim (chosen (is_digit c) (cond (ltb (n * 10 + (c - 48)) limit) (scan_digits limit (n * 10 + (c - 48)) cs) None) (Some (n, c ∷ cs)) x e) [
      | inl d ↦
          elim (chosen (ltb (n * 10 + (c - 48)) limit) (scan_digits limit (n * 10 + (c - 48)) cs) None x d.1) [
            | inl g ↦
                let t = digits_takes limit (n * 10 + (c - 48)) cs x (ltb-true _ _ g.0) g.1 in
                record { digits = c ∷ t.digits; are = (digit_range c d.0, t.are); parts = ap (λ (r : List ℕ). c ∷ r) t.parts; value = t.value; below = t.below }
            | inr g ↦ absurd (none_some x g.1)
          ]
      | inr d ↦
          let i = some_is (n, c ∷ cs) x d.1 in
          subst (TakesDigits limit n (c ∷ cs)) i (record { digits = []; are = tt; parts = refl; value = refl; below = small })
    ]
  where
    none_some : {A : Type 0} (x : A) → None ≡ some x → ⊥
    none_some x e = absurd cc

-- ---- numbers

-- the bytes are the text, and then the rest
abbrev pub Takes : List ℕ → List ℕ → List ℕ → Type 0
Takes bytes text rest = bytes ≡ text ++ rest

digit_first : (limit c : ℕ) (cs : List ℕ) → eqb c 48 ≡ false → is_digit c ≡ true → scan_number limit (c ∷ cs) ≡ scan_digits limit 0 (c ∷ cs)
unfolding scan_number
digit_first limit c cs other d = rw (other, d) refl

numeral_again : (limit n : ℕ) (ds rest : List ℕ) → AreDigits ds → 48 < get_or ds 0 0 → value_after 0 ds ≡ n → n < limit → Stops rest → scan_number limit (ds ++ rest) ≡ Some (n, rest)
numeral_again limit n [] rest d lead is small s = absurd (omega arith)
numeral_again limit n (c ∷ cs) rest d lead is small s =
    let other : eqb c 48 ≡ false = ne_eqb c 48 (λ e. omega (arith, lead, e)) in
    digit_first limit c (cs ++ rest) other (is_digit_true c d.0) ∙ digits_again limit 0 (c ∷ cs) rest d (subst (λ (v : ℕ). v < limit) (sym is) small) s ∙ ap (λ (v : ℕ). Some (v, rest)) is

zero_again : (limit : ℕ) (rest : List ℕ) → scan_number limit (decimal 0 ++ rest) ≡ Some (0, rest)
unfolding scan_number
zero_again limit rest = rw (decimal_digit 0 (omega arith)) refl

pub number_again : (limit n : ℕ) (rest : List ℕ) → limit ≤ 2 ^ 32 → n < limit → Stops rest → scan_number limit (decimal n ++ rest) ≡ Some (n, rest)
number_again limit zero rest wide small s = zero_again limit rest
number_again limit (suc k) rest wide small s =
    let fits : suc k < 2 ^ 64 = omega arith in
    numeral_again limit (suc k) (decimal (suc k)) rest (decimal_digits (suc k) fits) (first_decimal (suc k) (omega arith) fits) (decimal_value (suc k) fits) small s

pub number_takes : (limit : ℕ) (bytes : List ℕ) (x : ℕ × List ℕ) → 1 ≤ limit → limit ≤ 2 ^ 32 → scan_number limit bytes ≡ Some x → Takes bytes (decimal x.0) x.1 × (x.0 < limit)
unfolding scan_number
number_takes limit [] x some_limit wide e = absurd cc
number_takes limit (c ∷ cs) x some_limit wide e =
    elim (chosen (eqb c 48) (Some (0, cs)) (cond (is_digit c) (scan_digits limit 0 (c ∷ cs)) None) x e) [
      | inl z ↦ subst (λ (y : ℕ × List ℕ). Takes (c ∷ cs) (decimal y.0) y.1 × (y.0 < limit)) (some_is (0, cs) x z.1) (ap (λ (h : ℕ). h ∷ cs) (eqb-true c 48 z.0) ∙ ap (λ (w : List ℕ). w ++ cs) (sym (decimal_digit 0 (omega arith))), omega arith)
      | inr z ↦
          let d = guard_digits (is_digit c) (scan_digits limit 0 (c ∷ cs)) x z.1 in
          let r = digit_range c d.0 in
          let inner : (ltb (0 * 10 + (c - 48)) limit ≡ true) × (scan_digits limit (0 * 10 + (c - 48)) cs ≡ Some x) = step (is_digit c) (ltb (0 * 10 + (c - 48)) limit) (scan_digits limit (0 * 10 + (c - 48)) cs) (Some (0, c ∷ cs)) x d.0 d.1 in
          let t = digits_takes limit (0 * 10 + (c - 48)) cs x (ltb-true _ _ inner.0) inner.1 in
          let whole : decimal (value_after 0 (c ∷ t.digits)) ≡ c ∷ t.digits =
          decimal-digits_value own (c ∷ t.digits) (r, t.are) (omega arith) (λ l. absurd (eqb-false c 48 z.0 l)) (let b = t.below in let v = t.value in omega arith) in
          (ap (λ (b : List ℕ). c ∷ b) t.parts ∙ ap (λ (w : List ℕ). w ++ x.1) (sym whole ∙ ap decimal (sym t.value)), t.below)
    ]
  where
    guard_digits : (b : Bool) (y : Option (ℕ × List ℕ)) (x : ℕ × List ℕ) → cond b y None ≡ Some x → (b ≡ true) × (y ≡ Some x)
    guard_digits true y x e = (refl, e)
    guard_digits false y x e = absurd cc

    step : (d l : Bool) (y z : Option (ℕ × List ℕ)) (x : ℕ × List ℕ) → d ≡ true → cond d (cond l y None) z ≡ Some x → (l ≡ true) × (y ≡ Some x)
    step true true y z x p e = (refl, e)
    step true false y z x p e = absurd cc
    step false l y z x p e = absurd cc

pub count_takes : (limit : ℕ) (bytes : List ℕ) (x : ℕ × List ℕ) → 1 ≤ limit → limit ≤ 2 ^ 32 → scan_count limit bytes ≡ Some x → Takes bytes (decimal x.0) x.1 × (x.0 < limit) × (1 ≤ x.0)
unfolding scan_count
count_takes limit bytes x some_limit wide e =
    let a = bind_some (scan_number limit bytes) (λ n. cond (eqb n.0 0) None (Some n)) x e in
    let g = guard_none (eqb a.0.0 0) (Some a.0) x a.2 in
    let t = number_takes limit bytes a.0 some_limit wide a.1 in
    let other = eqb-false a.0.0 0 g.0 in
    subst (λ (y : ℕ × List ℕ). Takes bytes (decimal y.0) y.1 × (y.0 < limit) × (1 ≤ y.0)) (some_is a.0 x g.1) (t.0, t.1, positive a.0.0 other)
  where
    positive : (n : ℕ) → (n ≡ 0 → ⊥) → 1 ≤ n
    positive zero h = absurd (h refl)
    positive (suc k) h = omega arith

pub count_again : (limit n : ℕ) (rest : List ℕ) → limit ≤ 2 ^ 32 → n < limit → 1 ≤ n → Stops rest → scan_count limit (decimal n ++ rest) ≡ Some (n, rest)
unfolding scan_count
count_again limit n rest wide small least s = rw (number_again limit n rest wide small s, ne_eqb n 0 (λ e. omega (arith, least, e))) refl
