-- A program with a text is some program in version 2, and the canonical text of that is a text.
use Rattle.std.proofs.Common.{ℕ, zero, suc, ◌<◌, ◌≡◌, ◌⊎◌, inl, inr, List, [], ◌∷◌, true, false, refl, sym, subst, arith}
use Rattle.std.specs.Str.{bytes_eq}
use Rattle.std.proofs.lemmas.Bool.{cases_Bool}
use Rattle.std.proofs.lemmas.Slice.Eq.{bytes_eq-Decides}
use Rattle.shim_syntax.specs.Distinct.{IsNew}
use Rattle.shim_syntax.specs.Names.{Texts}
use Rattle.shim_syntax.specs.Occurrences.{identifiers}
use Rattle.shim_syntax.specs.Printing.{canonical}
use Rattle.shim_syntax.specs.Same.{IsTextOfSame}
use Rattle.shim_syntax.specs.ShortText.{HasText}
use Rattle.shim_syntax.specs.Terminals.{begins_two}
use Rattle.shim_syntax.specs.Text.{IsText}
use Rattle.shim_syntax.specs.declared.tree.Program.{Program}
use Rattle.shim_syntax.proofs.Programs.{canonical_is_text, version_seen}
use Rattle.shim_up.specs.Up.{fresh_name, IsLeastNew, IsUp, with_name_for_word, unchanged, changed}
use Rattle.shim_up.proofs.LeastNew.{none_with}
use Rattle.shim_laws_up.proofs.LeastNumber.{has_text_in_version_2, not_all_are_taken}

-- a name is new in a list or isn't
decided_by : (x n : List ℕ) (ns : Texts) → IsNew x ns ⊎ (IsNew x ns → ⊥) → (bytes_eq n x ≡ true) ⊎ (bytes_eq n x ≡ false) → IsNew x (n ∷ ns) ⊎ (IsNew x (n ∷ ns) → ⊥)
decided_by x n ns more (inl e) = inr (λ new. new.0 ((bytes_eq-Decides n x).0 e))
decided_by x n ns (inl new) (inr e) = inl ((λ same. absurd (cc (e, (bytes_eq-Decides n x).1 same))), new)
decided_by x n ns (inr old) (inr e) = inr (λ new. old new.1)

decided : (x : List ℕ) (ns : Texts) → IsNew x ns ⊎ (IsNew x ns → ⊥)
decided x [] = inl tt
decided x (n ∷ ns) = decided_by x n ns (decided x ns) (cases_Bool (bytes_eq n x))

-- some number has a new name, and no lesser one, or none below k has
abbrev IsFound : Texts → ℕ → Type 0
IsFound ns k = ((n : ℕ) × IsLeastNew ns n) ⊎ ((m : ℕ) → m < k → IsNew (fresh_name m) ns → ⊥)

found_at : (ns : Texts) (k : ℕ) → ((m : ℕ) → m < k → IsNew (fresh_name m) ns → ⊥) → IsNew (fresh_name k) ns ⊎ (IsNew (fresh_name k) ns → ⊥) → IsFound ns (suc k)
found_at ns k before (inl new) = inl (k, record { new = new; least = before })
found_at ns k before (inr old) = inr (λ m lt new. none_with ns k before old m (omega (arith, lt)) new)

found_with : (ns : Texts) (k : ℕ) → IsFound ns k → IsFound ns (suc k)
found_with ns k (inl least) = inl least
found_with ns k (inr before) = found_at ns k before (decided (fresh_name k) ns)

found_below : (ns : Texts) (k : ℕ) → IsFound ns k
found_below ns zero = inr (λ m lt new. omega (arith, lt))
found_below ns (suc k) = found_with ns k (found_below ns k)

least_of : (p : Program) → HasText p → IsFound (identifiers p.functions) 1048578 → (k : ℕ) × IsLeastNew (identifiers p.functions) k
least_of p has (inl least) = least
least_of p has (inr none) = absurd (not_all_are_taken p has none)

module _ (p : Program) (has : HasText p) where
  abbrev IsOfVersion : Type 0
  IsOfVersion = ((begins_two has.text.terminals ≡ true) × (p.version ≡ 2)) ⊎ ((begins_two has.text.terminals ≡ false) × (p.version ≡ 1))

  is_of_version : IsOfVersion
  is_of_version = version_seen has.text.terminals p has.text.derives

  some_by : IsOfVersion → (q : Program) × IsUp p q
  some_by (inl (begins, two)) = (p, unchanged two refl)
  some_by (inr (begins, one)) =
      let least = least_of p has (found_below (identifiers p.functions) 1048578) in
      (with_name_for_word (fresh_name least.0) p, changed (λ two. absurd (cc (one, two))) least.0 least.1 refl)

  text_by : (q : Program) → IsOfVersion → IsUp p q → (bytes : List ℕ) × IsText bytes q
  text_by q version (unchanged two is) = (has.bytes, subst (λ r. IsText has.bytes r) (sym is) has.text)
  text_by q (inl (begins, two)) (changed other k least is) = absurd (other two)
  text_by q (inr (begins, one)) (changed other k least is) =
      let made = has_text_in_version_2 p k one has least in
      (made.0, subst (λ r. IsText made.0 r) (sym is) made.1)

pub some_program : (p : Program) → HasText p → (q : Program) × IsUp p q
some_program p has = some_by p has (is_of_version p has)

pub printed_again : (p q : Program) → HasText p → IsUp p q → IsTextOfSame q (canonical q)
printed_again p q has is =
    let text = text_by p has q (is_of_version p has) is in
    canonical_is_text text.0 q text.1
