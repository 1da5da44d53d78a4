-- Usages with one more use, and the captures that are read off them.
use Rattle.std.proofs.Common.{◌≡◌, ◌∙◌, ℕ, ◌+◌, ◌<◌, ◌≤◌, zero, suc, List, [], ◌∷◌, ◌++◌, Option, Some, None, Bool, true, false, ◌||◌, ◌&&◌, length, nat_eq, set, length-set, refl, sym, ap, subst, arith, inl, inr, eq-eqb}
use Rattle.std.specs.Prelude.{slice_get}
use Rattle.std.proofs.lemmas.Bool.{cases_eq, cases_lt}
use Rattle.std.proofs.lemmas.Bool.Decides.{eqb_tells}
use Rattle.std.proofs.lemmas.Option.{slice_get_past}
use Rattle.std.proofs.lemmas.List.{length_push}
use Rattle.shim_syntax.specs.declared.tree.Sort.{Sort}
use Rattle.shim_units.specs.declared.found.Use.{Use}
use Rattle.shim_units.specs.declared.found.Capture.{Capture}
use Rattle.shim_units.specs.declared.captures.Usage.{Usage}
use Rattle.shim_units.specs.Captures.{some, declares_variable, writes, names, captures, taken_of, is_declared, is_written}
use Rattle.shim_units.specs.Usages.{usage_of, with_use, ShowUses, TakesBelow, captures_of, or_nothing, taken_with}
use Rattle.shim_base.proofs.Facts.{or_right, or_of_false}

or_assoc : (a b c : Bool) → (a || (b || c)) ≡ ((a || b) || c)
or_assoc true b c = refl
or_assoc false b c = refl

or_nothing_more : (a : Bool) → (a || false) ≡ a
or_nothing_more true = refl
or_nothing_more false = refl

some_more : (p : Use → Bool) (us : List Use) (u : Use) → some p (us ++ u ∷ []) ≡ (some p us || p u)
some_more p [] u = or_nothing_more (p u)
some_more p (v ∷ us) u = ap (λ b. p v || b) (some_more p us u) ∙ or_assoc (p v) (some p us) (p u)

and_true : (b c : Bool) → b ≡ true → (b && c) ≡ c
and_true true c e = refl
and_true false c e = cc

and_false : (b c : Bool) → b ≡ false → (b && c) ≡ false
and_false true c e = cc
and_false false c e = refl

abbrev made : Bool → Bool → Bool → Usage
made a b c = record { declared = a; written = b; named = c }

same : (a b c d e f : Bool) → a ≡ d → b ≡ e → c ≡ f → made a b c ≡ made d e f
same a b c d e f p q r = cc

-- a use of the variable adds to its usage
usage_here : (us : List Use) (u : Use) (x : ℕ) → nat_eq u.slot x ≡ true → usage_of (us ++ u ∷ []) x ≡ with_use (usage_of us x) u.how
usage_here us u x e = same _ _ _ _ _ _
    (some_more (λ (v : Use). nat_eq v.slot x && is_declared v.how) us u ∙ ap (λ b. some (λ (v : Use). nat_eq v.slot x && is_declared v.how) us || b) (and_true (nat_eq u.slot x) (is_declared u.how) e))
    (some_more (λ (v : Use). nat_eq v.slot x && is_written v.how) us u ∙ ap (λ b. some (λ (v : Use). nat_eq v.slot x && is_written v.how) us || b) (and_true (nat_eq u.slot x) (is_written u.how) e))
    (some_more (λ (v : Use). nat_eq v.slot x) us u ∙ or_right (some (λ (v : Use). nat_eq v.slot x) us) (nat_eq u.slot x) e)

-- and a use of another one doesn't
usage_other : (us : List Use) (u : Use) (x : ℕ) → nat_eq u.slot x ≡ false → usage_of (us ++ u ∷ []) x ≡ usage_of us x
usage_other us u x e = same _ _ _ _ _ _
    (some_more (λ (v : Use). nat_eq v.slot x && is_declared v.how) us u ∙ or_of_false (some (λ (v : Use). nat_eq v.slot x && is_declared v.how) us) (nat_eq u.slot x && is_declared u.how) (and_false (nat_eq u.slot x) (is_declared u.how) e))
    (some_more (λ (v : Use). nat_eq v.slot x && is_written v.how) us u ∙ or_of_false (some (λ (v : Use). nat_eq v.slot x && is_written v.how) us) (nat_eq u.slot x && is_written u.how) (and_false (nat_eq u.slot x) (is_written u.how) e))
    (some_more (λ (v : Use). nat_eq v.slot x) us u ∙ or_of_false (some (λ (v : Use). nat_eq v.slot x) us) (nat_eq u.slot x) e)

unequal : (a b : ℕ) → (a ≡ b → ⊥) → nat_eq a b ≡ false
unequal a b ne = elim (eqb_tells a b) [ inl h ↦ absurd (ne h.1) | inr h ↦ h.0 ]

get_set_same : {A : Type 0} (xs : List A) (i : ℕ) (a : A) → i < length xs → slice_get (set xs i a) i ≡ Some a
get_set_same [] i a lt = absurd (omega arith)
get_set_same (x ∷ xs) zero a lt = refl
get_set_same (x ∷ xs) (suc i) a lt = get_set_same xs i a (omega arith)

get_set_other : {A : Type 0} (xs : List A) (i j : ℕ) (a : A) → (j ≡ i → ⊥) → slice_get (set xs i a) j ≡ slice_get xs j
get_set_other [] i j a ne = refl
get_set_other (x ∷ xs) zero zero a ne = absurd (ne refl)
get_set_other (x ∷ xs) zero (suc j) a ne = refl
get_set_other (x ∷ xs) (suc i) zero a ne = refl
get_set_other (x ∷ xs) (suc i) (suc j) a ne = get_set_other xs i j a (λ e. ne (ap suc e))

shows_here : (ms : List Usage) (n : ℕ) (us : List Use) (u : Use) (m : Usage) (x : ℕ) → ShowUses ms n us → u.slot < n → m ≡ usage_of us u.slot → x < n
    → slice_get (set ms u.slot (with_use m u.how)) x ≡ Some (usage_of (us ++ u ∷ []) x)
shows_here ms n us u m x h lt is below =
    elim (cases_eq x u.slot) [
      | inl same ↦
          let e : nat_eq u.slot x ≡ true = eq-eqb u.slot x (sym same) in
          let here : slice_get (set ms u.slot (with_use m u.how)) u.slot ≡ Some (with_use m u.how) = get_set_same ms u.slot (with_use m u.how) (omega (arith, h.long)) in
          subst (λ k. slice_get (set ms u.slot (with_use m u.how)) k ≡ Some (usage_of (us ++ u ∷ []) k)) (sym same)
          (here ∙ ap (λ v. Some (with_use v u.how)) is ∙ ap Some (sym (usage_here us u u.slot (eq-eqb u.slot u.slot refl))))
      | inr other ↦ get_set_other ms u.slot x (with_use m u.how) other ∙ h.each x below ∙ ap Some (sym (usage_other us u x (unequal u.slot x (λ q. other (sym q)))))
    ]

-- one more use, of a variable that has a usage
pub shows_more : (ms : List Usage) (u : Use) (m : Usage) → u.slot < length ms → slice_get ms u.slot ≡ Some m
    → (n : ℕ) (us : List Use) → ShowUses ms n us → ShowUses (set ms u.slot (with_use m u.how)) n (us ++ u ∷ [])
shows_more ms u m lt at n us h =
    let inside : u.slot < n = omega (arith, h.long) in
    let is : m ≡ usage_of us u.slot = cc (at, h.each u.slot inside) in
    record {
      long = length-set ms u.slot (with_use m u.how) ∙ h.long;
      each = λ x below. shows_here ms n us u m x h inside is below;
    }

get_before : {A : Type 0} (xs : List A) (y : A) (i : ℕ) → i < length xs → slice_get (xs ++ y ∷ []) i ≡ slice_get xs i
get_before [] y i lt = absurd (omega arith)
get_before (x ∷ xs) y zero lt = refl
get_before (x ∷ xs) y (suc i) lt = get_before xs y i (omega arith)

get_last : {A : Type 0} (xs : List A) (y : A) → slice_get (xs ++ y ∷ []) (length xs) ≡ Some y
get_last [] y = refl
get_last (x ∷ xs) y = get_last xs y

with_mark : (o : Option Sort) (m : Usage) → taken_with o (Some m) ≡ taken_of o m.declared m.written m.named
with_mark None m = refl
with_mark (Some sort) m = refl

-- the way to take one more variable
pub takes_more : (ts : List Capture) (n : ℕ) (sorts : List Sort) (us : List Use) (ms : List Usage) → n < length sorts → ShowUses ms (length sorts) us
    → TakesBelow ts n sorts us → TakesBelow (ts ++ taken_with (slice_get sorts n) (slice_get ms n) ∷ []) (n + 1) sorts us
takes_more ts n sorts us ms inside shown below =
    let v : Capture = taken_with (slice_get sorts n) (slice_get ms n) in
    let value : v ≡ captures sorts us n = ap (taken_with (slice_get sorts n)) (shown.each n inside) ∙ with_mark (slice_get sorts n) (usage_of us n) in
    let last : slice_get (ts ++ v ∷ []) n ≡ Some (captures sorts us n) = subst (λ k. slice_get (ts ++ v ∷ []) k ≡ Some v) below.long (get_last ts v) ∙ ap Some value in
    record {
      long = length_push ts v ∙ ap (λ k. k + 1) below.long;
      each = λ x lt. elim (cases_lt x n) [
        | inl less ↦ get_before ts v x (omega (arith, below.long)) ∙ below.each x less
        | inr more ↦ subst (λ k. slice_get (ts ++ v ∷ []) k ≡ Some (captures sorts us k)) (let e : n ≡ x = omega arith in e) last
      ];
    }

pub takes_all : (ts : List Capture) (n : ℕ) (sorts : List Sort) (us : List Use) → length sorts ≤ n → n ≤ length sorts → TakesBelow ts n sorts us → captures_of ts ≡ captures sorts us
takes_all ts n sorts us most least below =
    let each : (x : ℕ) → captures_of ts x ≡ captures sorts us x = λ x. elim (cases_lt x n) [
      | inl less ↦ ap or_nothing (below.each x less)
      | inr past ↦ ap or_nothing (slice_get_past ts x (omega (arith, below.long))) ∙ sym (ap (λ o. taken_of o (declares_variable us x) (writes us x) (names us x)) (slice_get_past sorts x (omega arith)))
    ] in
    λ k x. each x k
