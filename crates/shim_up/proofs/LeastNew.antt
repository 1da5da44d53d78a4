-- The least number whose name isn't among the identifiers of a program, as its list of names gives it.
use Rattle.std.specs.Prelude.{nat_lt}
use Rattle.std.proofs.Common.{ℕ, IsTrue, ◌↔◌, Bool, not, ◌+◌, ◌<◌, ◌≤◌, ◌^◌, ◌≡◌, ◌⊎◌, inl, inr, List, [], ◌∷◌, ◌++◌, true, false, Option, Some, None, is_some, position, length, refl, sym, subst, arith}
use Rattle.std.specs.List.{find}
use Rattle.std.specs.Str.{bytes_eq}
use Rattle.std.proofs.lemmas.Bool.{cases_Bool}
use Rattle.std.proofs.lemmas.Bool.Decides.{nat_tests}
use Rattle.std.proofs.lemmas.Fmt.{length-decimal-le}
use Rattle.std.proofs.lemmas.Slice.Eq.{bytes_eq-Decides}
use Rattle.shim_syntax.specs.declared.tree.Function.{Function}
use Rattle.shim_syntax.specs.Distinct.{IsNew}
use Rattle.shim_syntax.specs.Names.{Texts, unless_there, with_name, with_texts, with_functions}
use Rattle.shim_syntax.specs.Occurrences.{identifiers}
use Rattle.shim_up.specs.Up.{fresh_name, IsLeastNew}
use Rattle.shim_syntax.proofs.DistinctLemmas.{is_new_behind, not_found}
use Rattle.shim_syntax.proofs.OccurrenceLemmas.{names_are_the_identifiers}
use Rattle.shim_syntax.proofs.TableLemmas.{is_name, found_there, found_nowhere}

pub is_short : (n : ℕ) → n < 2 ^ 64 → length (fresh_name n) ≤ 64
is_short n small = let l = length-decimal-le 20 n (omega arith) (omega (arith, small)) small in omega (arith, l)

-- a name that is found isn't new
found_by : (x z n : List ℕ) (ns : Texts) → (find (is_name x) ns ≡ Some z → IsNew x ns → ⊥) → (bytes_eq n x ≡ true) ⊎ (bytes_eq n x ≡ false) → find (is_name x) (n ∷ ns) ≡ Some z → IsNew x (n ∷ ns) → ⊥
found_by x z n ns more (inl e) f new = new.0 ((bytes_eq-Decides n x).0 e)
found_by x z n ns more (inr e) f new = more (rw e at f) new.1

found : (x z : List ℕ) (ns : Texts) → find (is_name x) ns ≡ Some z → IsNew x ns → ⊥
found x z [] f new = absurd (cc f)
found x z (n ∷ ns) f new = found_by x z n ns (found x z ns) (cases_Bool (bytes_eq n x)) f new

-- what has no place among names is new, and what has one isn't
pub new_without_place : (x : List ℕ) (ns : Texts) → position (is_name x) ns ≡ None → IsNew x ns
new_without_place x ns h = not_found x ns (found_nowhere (is_name x) ns h)

pub not_new_with_place : (x : List ℕ) (ns : Texts) → is_some (position (is_name x) ns) ≡ true → IsNew x ns → ⊥
not_new_with_place x ns h = found x _ ns (found_there (is_name x) ns h)

both_new : (y x : List ℕ) (known : Texts) → IsNew y (known ++ x ∷ []) → IsNew y known × (x ≡ y → ⊥)
both_new y x [] new = (tt, new.0)
both_new y x (n ∷ ns) new = let r = both_new y x ns new.1 in ((new.0, r.0), r.1)

with_new : (y x : List ℕ) (known : Texts) (o : Option (List ℕ)) → find (is_name x) known ≡ o → IsNew y (unless_there o (known ++ x ∷ []) known) → IsNew y known × (x ≡ y → ⊥)
with_new y x known None f new = both_new y x known new
with_new y x known (Some z) f new = (new, λ e. found x z known f (subst (λ w. IsNew w known) (sym e) new))

-- what is new among the names of a list is new in the list
pub new_in_all : (y : List ℕ) (xs known : Texts) → IsNew y (with_texts xs known) → IsNew y xs × IsNew y known
new_in_all y [] known new = (tt, new)
new_in_all y (x ∷ xs) known new =
    let r = new_in_all y xs (with_name x known) new in
    let s = with_new y x known (find (is_name x) known) refl r.1 in
    ((s.1, r.0), s.0)

new_with : (y x : List ℕ) (known : Texts) (o : Option (List ℕ)) → IsNew y known → (x ≡ y → ⊥) → IsNew y (unless_there o (known ++ x ∷ []) known)
new_with y x known None new other = is_new_behind y x known new other
new_with y x known (Some z) new other = new

-- and the other way round
new_among_names : (y : List ℕ) (xs known : Texts) → IsNew y xs → IsNew y known → IsNew y (with_texts xs known)
new_among_names y [] known new before = before
new_among_names y (x ∷ xs) known new before = new_among_names y xs (with_name x known) new.1 (new_with y x known (find (is_name x) known) before new.0)

pub least_of_identifiers : (fs : List Function) (k : ℕ) → IsLeastNew (with_functions fs []) k → IsLeastNew (identifiers fs) k
least_of_identifiers fs k h = record {
  new = (new_in_all (fresh_name k) (identifiers fs) [] (subst (λ l. IsNew (fresh_name k) l) (names_are_the_identifiers fs) h.new)).0;
  least = λ m lt new. h.least m lt (subst (λ l. IsNew (fresh_name m) l) (sym (names_are_the_identifiers fs)) (new_among_names (fresh_name m) (identifiers fs) [] new tt));
}

none_of : (o : Option ℕ) → is_some o ≡ false → o ≡ None
none_of None h = refl
none_of (Some at) h = absurd (cc h)

pub new_by_place : (x : List ℕ) (ns : Texts) (none : Bool) → is_some (position (is_name x) ns) ≡ not none → IsTrue none ↔ IsNew x ns
new_by_place x ns true h = (λ t. new_without_place x ns (none_of (position (is_name x) ns) h), λ new. refl)
new_by_place x ns false h = (λ t. absurd (cc t), λ new. absurd (not_new_with_place x ns h new))

none_by : (ns : Texts) (k m : ℕ) → ((m : ℕ) → m < k → IsNew (fresh_name m) ns → ⊥) → (IsNew (fresh_name k) ns → ⊥) → m < k + 1 → (nat_lt m k ≡ true) ⊎ (nat_lt m k ≡ false) → IsNew (fresh_name m) ns → ⊥
none_by ns k m before here lt (inl e) new = before m (grind (arith, nat_tests)) new
none_by ns k m before here lt (inr e) new =
    let le : k ≤ m = grind (arith, nat_tests) in
    let same : m ≡ k = omega (arith, le, lt) in
    here (subst (λ z. IsNew (fresh_name z) ns) same new)

-- with one number more
pub none_with : (ns : Texts) (k : ℕ) → ((m : ℕ) → m < k → IsNew (fresh_name m) ns → ⊥) → (IsNew (fresh_name k) ns → ⊥) → (m : ℕ) → m < k + 1 → IsNew (fresh_name m) ns → ⊥
none_with ns k before here m lt = none_by ns k m before here lt (cases_Bool (nat_lt m k))
