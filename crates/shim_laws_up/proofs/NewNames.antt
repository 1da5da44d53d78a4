-- `v` and a number is a name, which may stand in place of the new word.
use Rattle.std.proofs.Common.{ℕ, ◌<◌, ◌≤◌, ◌^◌, ◌≡◌, ◌⊎◌, inl, inr, List, [], ◌∷◌, Bool, true, false, not, ◌&&◌, Option, Some, None, length, refl, arith}
use Rattle.std.specs.Prelude.{decimal, ◌==◌}
use Rattle.std.specs.List.{list_all}
use Rattle.std.specs.Str.{bytes_eq}
use Rattle.std.proofs.lemmas.Bool.{cases_Bool}
use Rattle.std.proofs.lemmas.Bool.Decides.{nat_tests}
use Rattle.std.proofs.lemmas.Fmt.{digits_decimal, decimal_is_IsNumeral, length-decimal-le}
use Rattle.std.proofs.lemmas.Str.Parse.{IsDigitsTest, FoldsDigits, numerals_by_fold, IsNumeralModel}
use Rattle.std.specs.Int.{IsInRange}
use Rattle.std.specs.Prelude.{fold}
use Rattle.shim_base.specs.declared.TokenKind.TheVariants.{Word}
use Rattle.shim_base.specs.declared.Keyword.{Keyword}
use Rattle.shim_base.specs.Tokens.{Place, Spells, IsWithinLimits, is_digit, is_name_byte, keyword_of, keywords, with_digit}
use Rattle.shim_base.proofs.FirstToken.{both_true, entry-passes}
use Rattle.shim_syntax.specs.Terminals.{Name, new_word, of_word}
use Rattle.shim_laws_up.specs.Keeping.{KeepsNames, feeds_in}
use Rattle.shim_up.specs.Up.{fresh_name, replaced}

abbrev AreDigits : List ℕ → Type 0
AreDigits ds = list_all is_digit ds ≡ true

digit_in : (c : ℕ) → is_digit c ≡ true → IsInRange 48 57 c
digit_in c h = grind (arith, nat_tests)

in_digit : (c : ℕ) → IsInRange 48 57 c → is_digit c ≡ true
in_digit c h = grind (arith, nat_tests)

more_digits : (c : ℕ) (cs : List ℕ) → IsInRange 48 57 c → AreDigits cs → AreDigits (c ∷ cs)
more_digits c cs h all = let d = in_digit c h in rw (d, all) refl

digits_test : IsDigitsTest AreDigits
digits_test = record {
  empty = refl;
  parts = λ c cs h. let k = both_true (is_digit c) (list_all is_digit cs) h in (digit_in c k.0, k.1);
  more = more_digits;
}

folds : FoldsDigits (λ n ds. fold with_digit n ds)
folds = record { empty = λ n. refl; more = λ n c cs h. refl }

pub model : IsNumeralModel AreDigits (λ ds. fold with_digit 0 ds)
model = numerals_by_fold AreDigits digits_test (λ n ds. fold with_digit n ds) folds

digit_byte : (b : ℕ) → is_digit b ≡ true → is_name_byte b ≡ true
digit_byte b h = grind (arith, nat_tests)

digit_line : (b : ℕ) → is_digit b ≡ true → (b == 10) ≡ false
digit_line b h = grind (arith, nat_tests)

all_bytes : (ds : List ℕ) → AreDigits ds → list_all is_name_byte ds ≡ true
all_bytes [] h = refl
all_bytes (d ∷ ds) h = let k = both_true (is_digit d) (list_all is_digit ds) h in let a = digit_byte d k.0 in let b = all_bytes ds k.1 in rw (a, b) refl

no_feeds : (ds : List ℕ) → AreDigits ds → feeds_in ds ≡ 0
no_feeds [] h = refl
no_feeds (d ∷ ds) h = let k = both_true (is_digit d) (list_all is_digit ds) h in let a = digit_line d k.0 in let b = no_feeds ds k.1 in rw (a, b) refl

-- not `v` and a digit
abbrev is_plain : List ℕ → Bool
is_plain (b ∷ d ∷ ds) = not (b == 118 && is_digit d)
is_plain _ = true

no_keyword_by : (ds : List ℕ) (d : ℕ) (o : Option Keyword) → keyword_of (118 ∷ d ∷ ds) ≡ o → is_digit d ≡ true → keyword_of (118 ∷ d ∷ ds) ≡ None
unfolding keyword_of
no_keyword_by ds d None e h = e
no_keyword_by ds d (Some key) e h =
    let plain : is_plain (118 ∷ d ∷ ds) ≡ true = entry-passes is_plain keywords (118 ∷ d ∷ ds) key refl e in
    let other : is_plain (118 ∷ d ∷ ds) ≡ false = rw h refl in
    absurd (cc (plain, other))

-- a keyword isn't `v` and a digit, so `v` and digits is a name
name_of_digits : (ds : List ℕ) → AreDigits ds → 0 < length ds → Spells (118 ∷ ds) Word
name_of_digits [] h some = absurd (omega (arith, some))
name_of_digits (d ∷ ds) h some =
    let k = both_true (is_digit d) (list_all is_digit ds) h in
    (all_bytes (d ∷ ds) h, no_keyword_by ds d (keyword_of (118 ∷ d ∷ ds)) refl k.0)

module _ (n : ℕ) (small : n < 2 ^ 64) where
  digits : AreDigits (decimal n)
  digits = digits_decimal model n small

  short : length (fresh_name n) ≤ 64
  short = let l = length-decimal-le 20 n (omega arith) (omega (arith, small)) small in omega (arith, l)

  replaced_by : (P : List ℕ → Type 0) (x : List ℕ) → (bytes_eq x new_word ≡ true) ⊎ (bytes_eq x new_word ≡ false) → P (fresh_name n) → P x → P (replaced (fresh_name n) x)
  replaced_by P x (inl e) a b = rw e a
  replaced_by P x (inr e) a b = rw e b

  other_by : (x : List ℕ) (q : Place) → (bytes_eq x new_word ≡ true) ⊎ (bytes_eq x new_word ≡ false) → of_word true (replaced (fresh_name n) x) q ≡ Name (replaced (fresh_name n) x) q
  other_by x q (inl e) = rw e refl
  other_by x q (inr e) = rw (e, e) refl

  pub keeps_names : KeepsNames (replaced (fresh_name n))
  keeps_names = record {
    spells = λ x s l. replaced_by (λ y. Spells y Word) x (cases_Bool (bytes_eq x new_word)) (name_of_digits (decimal n) digits (decimal_is_IsNumeral n small).0.0) s;
    fits = λ x s l. replaced_by (λ y. IsWithinLimits y Word) x (cases_Bool (bytes_eq x new_word)) short l;
    feeds = λ x s l. replaced_by (λ y. feeds_in y ≤ feeds_in x) x (cases_Bool (bytes_eq x new_word)) (let z = no_feeds (decimal n) digits in omega (arith, z)) (omega arith);
    others = λ x q s. other_by x q (cases_Bool (bytes_eq x new_word));
  }
