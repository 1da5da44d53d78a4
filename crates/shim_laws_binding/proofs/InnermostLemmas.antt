-- What is found from the last on is the innermost of those that have the name.
use Rattle.std.proofs.Common.{ℕ, ◌≡◌, ◌∙◌, ◌⊎◌, inl, inr, List, [], ◌∷◌, ◌++◌, Option, Some, None, Bool, true, false, cond, reverse, refl, ap, arith}
use Rattle.std.specs.List.{find}
use Rattle.std.specs.Option.{option_map, option_or}
use Rattle.std.specs.Str.{bytes_eq}
use Rattle.std.proofs.lemmas.Bool.{cases_Bool}
use Rattle.std.proofs.lemmas.Grind.{common_steps}
use Rattle.std.proofs.lemmas.List.Folds.{find-append}
use Rattle.std.proofs.lemmas.Slice.Eq.{bytes_eq-Decides}
use Rattle.shim_scopes.specs.declared.scope.Handled.{Handled}
use Rattle.shim_scopes.specs.Binding.{exception_of}
use Rattle.shim_laws_binding.specs.Innermost.{HasNone, IsInnermost, exception_name, IsNumberOfInnermost}

module _ {T : Type 0} (name : T → List ℕ) (x : List ℕ) where
  abbrev has : T → Bool
  has t = bytes_eq (name t) x

  -- the last one that has the name
  abbrev pub found : List T → Option T
  found ts = find has (reverse ts)

  found-cons : (t : T) (ts : List T) → found (t ∷ ts) ≡ option_or (found ts) (cond (has t) (Some t) None)
  found-cons t ts =
      let turned : reverse (t ∷ ts) ≡ reverse ts ++ t ∷ [] = grind (arith, common_steps) in
      ap (find has) turned ∙ find-append has (reverse ts) (t ∷ [])

  abbrev pub Found : List T → Option T → Type 0
  Found ts None = HasNone name x ts
  Found ts (Some t) = IsInnermost name x ts t

  -- what one more at the outside changes
  more_by : (t : T) (ts : List T) (o : Option T) → Found ts o → (has t ≡ true) ⊎ (has t ≡ false) → Found (t ∷ ts) (option_or o (cond (has t) (Some t) None))
  more_by t ts (Some k) f e = record { outer = t ∷ f.outer; inner = f.inner; whole = ap (λ (xs : List T). t ∷ xs) f.whole; named = f.named; none = f.none }
  more_by t ts None f (inl e) = rw e (record { outer = []; inner = ts; whole = refl; named = (bytes_eq-Decides (name t) x).0 e; none = f })
  more_by t ts None f (inr e) = rw e ((λ same. absurd (cc (e, (bytes_eq-Decides (name t) x).1 same)), f))

  pub is_found : (ts : List T) → Found ts (found ts)
  is_found [] = tt
  is_found (t ∷ ts) = rw (found-cons t ts) (more_by t ts (found ts) (is_found ts) (cases_Bool (has t)))

  missed : (t : T) → (name t ≡ x → ⊥) → (has t ≡ true) ⊎ (has t ≡ false) → cond (has t) (Some t) None ≡ None
  missed t n (inl e) = absurd (n ((bytes_eq-Decides (name t) x).0 e))
  missed t n (inr e) = rw e refl

  -- none is found where none has the name
  found_none : (ts : List T) → HasNone name x ts → found ts ≡ None
  found_none [] h = refl
  found_none (t ∷ ts) h = found-cons t ts ∙ ap (λ o. option_or o (cond (has t) (Some t) None)) (found_none ts h.1) ∙ missed t h.0 (cases_Bool (has t))

  found_at : (outer : List T) (at : T) (inner : List T) → name at ≡ x → HasNone name x inner → found (outer ++ at ∷ inner) ≡ Some at
  found_at [] at inner e h =
      found-cons at inner ∙ ap (λ o. option_or o (cond (has at) (Some at) None)) (found_none inner h)
      ∙ ap (λ (b : Bool). cond b (Some at) None) ((bytes_eq-Decides (name at) x).1 e)
  found_at (t ∷ ts) at inner e h = found-cons t (ts ++ at ∷ inner) ∙ ap (λ o. option_or o (cond (has t) (Some t) None)) (found_at ts at inner e h)

  pub innermost_found : (ts : List T) (at : T) → IsInnermost name x ts at → found ts ≡ Some at
  innermost_found ts at i = ap found i.whole ∙ found_at i.outer at i.inner i.named i.none

number_by : (x : List ℕ) (around : List Handled) (number : ℕ) (o : Option Handled) → Found exception_name x around o → option_map (λ (h : Handled). h.number) o ≡ Some number → IsNumberOfInnermost x around number
number_by x around number None f e = absurd (cc e)
number_by x around number (Some h) f e = let same : h.number ≡ number = cc e in (h, f, same)

pub exception_is_the_innermost : (x : List ℕ) (around : List Handled) (number : ℕ) → exception_of x around ≡ Some number → IsNumberOfInnermost x around number
exception_is_the_innermost x around number e = number_by x around number (found exception_name x around) (is_found exception_name x around) e

pub innermost_exception_is_meant : (x : List ℕ) (around : List Handled) (number : ℕ) → IsNumberOfInnermost x around number → exception_of x around ≡ Some number
innermost_exception_is_meant x around number i = ap (λ (o : Option Handled). option_map (λ (h : Handled). h.number) o) (innermost_found exception_name x around i.0 i.1) ∙ ap Some i.2

none_by : (x : List ℕ) (around : List Handled) (o : Option Handled) → Found exception_name x around o → option_map (λ (h : Handled). h.number) o ≡ None → HasNone exception_name x around
none_by x around None f e = f
none_by x around (Some h) f e = absurd (cc e)

pub exception_without_number_is_nowhere : (x : List ℕ) (around : List Handled) → exception_of x around ≡ None → HasNone exception_name x around
exception_without_number_is_nowhere x around e = none_by x around (found exception_name x around) (is_found exception_name x around) e
