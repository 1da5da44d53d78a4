-- The least number of a new name is at most the number of identifiers, so the name is one within the limits.
use Rattle.std.proofs.Common.{ℕ, zero, suc, ◌+◌, ◌<◌, ◌≤◌, ◌^◌, ◌≡◌, ◌⊎◌, inl, inr, List, [], ◌∷◌, ◌++◌, true, false, length, sym, ap, subst, ◌∙◌, arith}
use Rattle.std.specs.Prelude.{decimal, fold, nat_lt}
use Rattle.std.specs.Str.{bytes_eq}
use Rattle.std.proofs.lemmas.Bool.{cases_Bool}
use Rattle.std.proofs.lemmas.Bool.Decides.{nat_tests}
use Rattle.std.proofs.lemmas.List.{length-append}
use Rattle.std.proofs.lemmas.Slice.Eq.{bytes_eq-Decides}
use Rattle.std.proofs.lemmas.Fmt.{digits_value-decimal}
use Rattle.shim_base.specs.Tokens.{with_digit}
use Rattle.shim_syntax.specs.Distinct.{IsNew}
use Rattle.shim_syntax.specs.Names.{Texts, with_functions}
use Rattle.shim_syntax.specs.Occurrences.{identifiers}
use Rattle.shim_syntax.specs.ShortText.{HasText}
use Rattle.shim_syntax.specs.Text.{IsText}
use Rattle.shim_syntax.specs.declared.tree.Program.{Program}
use Rattle.shim_syntax.proofs.ByteSizes.{size_is_bounded}
use Rattle.shim_syntax.proofs.OccurrenceSizes.{names_few}
use Rattle.shim_syntax.proofs.OccurrenceLemmas.{names_are_the_identifiers}
use Rattle.shim_up.specs.Up.{fresh_name, replaced, IsLeastNew, with_name_for_word}
use Rattle.shim_up.proofs.LeastNew.{new_in_all}
use Rattle.shim_laws_up.proofs.NewNames.{model, keeps_names}
use Rattle.shim_laws_up.proofs.TextInVersion2.{text_in_version_2}

-- a name that isn't new stands in the list
split_by : (x n : List ℕ) (ns : Texts) → ((IsNew x ns → ⊥) → (a : Texts) × (b : Texts) × (ns ≡ a ++ x ∷ b)) → (bytes_eq n x ≡ true) ⊎ (bytes_eq n x ≡ false) → (IsNew x (n ∷ ns) → ⊥)
    → (a : Texts) × (b : Texts) × (n ∷ ns ≡ a ++ x ∷ b)
split_by x n ns more (inl e) h = ([], ns, ap (λ y. y ∷ ns) ((bytes_eq-Decides n x).0 e))
split_by x n ns more (inr e) h =
    let r = more (λ new. h ((λ same. absurd (cc (e, (bytes_eq-Decides n x).1 same))), new)) in
    (n ∷ r.0, r.1, ap (λ l. n ∷ l) r.2)

split_at : (x : List ℕ) (xs : Texts) → (IsNew x xs → ⊥) → (a : Texts) × (b : Texts) × (xs ≡ a ++ x ∷ b)
split_at x [] h = absurd (h tt)
split_at x (n ∷ ns) h = split_by x n ns (split_at x ns) (cases_Bool (bytes_eq n x)) h

-- another name may be put between
put_back : (x y : List ℕ) (a b : Texts) → (x ≡ y → ⊥) → IsNew y (a ++ b) → IsNew y (a ++ x ∷ b)
put_back x y [] b other new = (other, new)
put_back x y (n ∷ a) b other new = (new.0, put_back x y a b other new.1)

-- names of different numbers differ
number_of_name : (m n : ℕ) → m < 2 ^ 64 → n < 2 ^ 64 → fresh_name n ≡ fresh_name m → n ≡ m
number_of_name m n sm sn e =
    let tail : decimal n ≡ decimal m = cc e in
    sym (digits_value-decimal model n sn) ∙ ap (λ (ds : List ℕ). fold with_digit 0 ds) tail ∙ digits_value-decimal model m sm

-- where the names of all numbers below k stand in a list, it has k names or more
at_most_all : (k : ℕ) (xs : Texts) → k < 2 ^ 64 → ((m : ℕ) → m < k → IsNew (fresh_name m) xs → ⊥) → k ≤ length xs
at_most_all zero xs small h = omega arith
at_most_all (suc k) xs small h =
    let s = split_at (fresh_name k) xs (h k (omega arith)) in
    let rest = at_most_all k (s.0 ++ s.1) (omega (arith, small)) (λ m lt new.
    h m (omega (arith, lt)) (subst (λ l. IsNew (fresh_name m) l) (sym s.2) (put_back (fresh_name k) (fresh_name m) s.0 s.1
    (λ e. let same : k ≡ m = number_of_name m k (omega (arith, lt, small)) (omega (arith, small)) e in omega (arith, same, lt)) new))) in
    let whole : length xs ≡ length s.0 + suc (length s.1) = ap (λ (l : Texts). length l) s.2 ∙ length-append s.0 (fresh_name k ∷ s.1) in
    let parts : length (s.0 ++ s.1) ≡ length s.0 + length s.1 = length-append s.0 s.1 in
    omega (arith, rest, whole, parts)

-- a program with a text hasn't the names of so many numbers
pub not_all_are_taken : (p : Program) → HasText p → ((m : ℕ) → m < 1048578 → IsNew (fresh_name m) (identifiers p.functions) → ⊥) → ⊥
not_all_are_taken p has none =
    let many = at_most_all 1048578 (with_functions p.functions []) (omega arith) (λ m small new.
    none m small (new_in_all (fresh_name m) (identifiers p.functions) [] (subst (λ l. IsNew (fresh_name m) l) (names_are_the_identifiers p.functions) new)).0) in
    let some = names_few p.functions in
    let size = size_is_bounded p has in
    omega (arith, many, some, size)

too_many : (p : Program) (k : ℕ) → HasText p → IsLeastNew (identifiers p.functions) k → 1048577 < k → ⊥
too_many p k has least lt = not_all_are_taken p has (λ m small new. least.least m (omega (arith, small, lt)) new)

small_by : (p : Program) (k : ℕ) → HasText p → IsLeastNew (identifiers p.functions) k → (nat_lt 1048577 k ≡ true) ⊎ (nat_lt 1048577 k ≡ false) → k < 2 ^ 64
small_by p k has least (inl e) = let lt : 1048577 < k = grind (arith, nat_tests) in absurd (too_many p k has least lt)
small_by p k has least (inr e) = let le : k ≤ 1048577 = grind (arith, nat_tests) in omega (arith, le)

pub is_small : (p : Program) (k : ℕ) → HasText p → IsLeastNew (identifiers p.functions) k → k < 2 ^ 64
is_small p k has least = small_by p k has least (cases_Bool (nat_lt 1048577 k))

-- what has a text of version 1 has one of version 2, with the least new name for the new word
pub has_text_in_version_2 : (p : Program) (k : ℕ) → p.version ≡ 1 → HasText p → IsLeastNew (identifiers p.functions) k → (bytes : List ℕ) × IsText bytes (with_name_for_word (fresh_name k) p)
has_text_in_version_2 p k one has least = text_in_version_2 (replaced (fresh_name k)) (keeps_names k (is_small p k has least)) has.bytes p one has.text
