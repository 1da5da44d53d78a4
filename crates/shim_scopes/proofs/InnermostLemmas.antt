-- The last declaration that has a name is the innermost one.
use Rattle.std.proofs.Common.{ℕ, ◌≡◌, ◌∙◌, ◌⊎◌, inl, inr, List, [], ◌∷◌, ◌++◌, Option, Some, None, Bool, true, false, cond, reverse, refl, ap, arith}
use Rattle.std.specs.List.{find}
use Rattle.std.specs.Option.{option_map, option_or}
use Rattle.std.specs.Str.{bytes_eq}
use Rattle.std.proofs.lemmas.Bool.{cases_Bool}
use Rattle.std.proofs.lemmas.Grind.{common_steps}
use Rattle.std.proofs.lemmas.List.Folds.{find-append}
use Rattle.std.proofs.lemmas.Slice.Eq.{bytes_eq-Decides}
use Rattle.shim_scopes.specs.declared.scope.Bound.{Bound}
use Rattle.shim_scopes.specs.declared.scope.LocalDeclaration.{LocalDeclaration}
use Rattle.shim_scopes.specs.Binding.{binding_of}
use Rattle.shim_scopes.specs.Innermost.{IsInnermost, HasNone}

abbrev has : List ℕ → LocalDeclaration → Bool
has x l = bytes_eq l.name x

-- the last one that has the name
abbrev found : List ℕ → List LocalDeclaration → Option LocalDeclaration
found x ls = find (has x) (reverse ls)

found-cons : (x : List ℕ) (l : LocalDeclaration) (ls : List LocalDeclaration) → found x (l ∷ ls) ≡ option_or (found x ls) (cond (has x l) (Some l) None)
found-cons x l ls =
    let turned : reverse (l ∷ ls) ≡ reverse ls ++ l ∷ [] = grind (arith, common_steps) in
    ap (find (has x)) turned ∙ find-append (has x) (reverse ls) (l ∷ [])

abbrev Found : List ℕ → List LocalDeclaration → Option LocalDeclaration → Type 0
Found x ls None = HasNone x ls
Found x ls (Some l) = IsInnermost x ls l.bound

-- what one more declaration at the outside changes
more_by : (x : List ℕ) (l : LocalDeclaration) (ls : List LocalDeclaration) (o : Option LocalDeclaration) → Found x ls o → (has x l ≡ true) ⊎ (has x l ≡ false) → Found x (l ∷ ls) (option_or o (cond (has x l) (Some l) None))
more_by x l ls (Some k) f e = record { outer = l ∷ f.outer; at = f.at; inner = f.inner; whole = ap (λ (xs : List LocalDeclaration). l ∷ xs) f.whole; named = f.named; bound = f.bound; none = f.none }
more_by x l ls None f (inl e) = rw e (record { outer = []; at = l; inner = ls; whole = refl; named = (bytes_eq-Decides l.name x).0 e; bound = refl; none = f })
more_by x l ls None f (inr e) = rw e ((λ same. absurd (cc (e, (bytes_eq-Decides l.name x).1 same)), f))

found_innermost : (x : List ℕ) (ls : List LocalDeclaration) → Found x ls (found x ls)
found_innermost x [] = tt
found_innermost x (l ∷ ls) = rw (found-cons x l ls) (more_by x l ls (found x ls) (found_innermost x ls) (cases_Bool (has x l)))

bound_of : (x : List ℕ) (ls : List LocalDeclaration) (b : Bound) (o : Option LocalDeclaration) → Found x ls o → option_map (λ (l : LocalDeclaration). l.bound) o ≡ Some b → IsInnermost x ls b
bound_of x ls b None f e = absurd (cc e)
bound_of x ls b (Some l) f e =
    let same : l.bound ≡ b = cc e in
    record { outer = f.outer; at = f.at; inner = f.inner; whole = f.whole; named = f.named; bound = f.bound ∙ same; none = f.none }

none_of : (x : List ℕ) (ls : List LocalDeclaration) (o : Option LocalDeclaration) → Found x ls o → option_map (λ (l : LocalDeclaration). l.bound) o ≡ None → HasNone x ls
none_of x ls None f e = f
none_of x ls (Some l) f e = absurd (cc e)

pub bound_by_the_innermost : (x : List ℕ) (around : List LocalDeclaration) (b : Bound) → binding_of x around ≡ Some b → IsInnermost x around b
bound_by_the_innermost x around b e = bound_of x around b (found x around) (found_innermost x around) e

pub unbound_is_undeclared : (x : List ℕ) (around : List LocalDeclaration) → binding_of x around ≡ None → HasNone x around
unbound_is_undeclared x around e = none_of x around (found x around) (found_innermost x around) e

-- none is found where none has the name
found_none : (x : List ℕ) (ls : List LocalDeclaration) → HasNone x ls → found x ls ≡ None
found_none x [] h = refl
found_none x (l ∷ ls) h = found-cons x l ls ∙ ap (λ o. option_or o (cond (has x l) (Some l) None)) (found_none x ls h.1) ∙ missed x l h.0 (cases_Bool (has x l))
  where
    missed : (x : List ℕ) (l : LocalDeclaration) → (l.name ≡ x → ⊥) → (has x l ≡ true) ⊎ (has x l ≡ false) → cond (has x l) (Some l) None ≡ None
    missed x l n (inl e) = absurd (n ((bytes_eq-Decides l.name x).0 e))
    missed x l n (inr e) = rw e refl

found_at : (x : List ℕ) (outer : List LocalDeclaration) (at : LocalDeclaration) (inner : List LocalDeclaration) → at.name ≡ x → HasNone x inner → found x (outer ++ at ∷ inner) ≡ Some at
found_at x [] at inner e h =
    found-cons x at inner ∙ ap (λ o. option_or o (cond (has x at) (Some at) None)) (found_none x inner h)
    ∙ ap (λ (b : Bool). cond b (Some at) None) ((bytes_eq-Decides at.name x).1 e)
found_at x (l ∷ ls) at inner e h = found-cons x l (ls ++ at ∷ inner) ∙ ap (λ o. option_or o (cond (has x l) (Some l) None)) (found_at x ls at inner e h)

pub innermost_binds : (x : List ℕ) (around : List LocalDeclaration) (b : Bound) → IsInnermost x around b → binding_of x around ≡ Some b
innermost_binds x around b i =
    ap (λ (ls : List LocalDeclaration). binding_of x ls) i.whole
    ∙ ap (λ (o : Option LocalDeclaration). option_map (λ (l : LocalDeclaration). l.bound) o) (found_at x i.outer i.at i.inner i.named i.none) ∙ ap Some i.bound
