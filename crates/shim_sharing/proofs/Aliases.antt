-- The alias that is found first is the leftmost.
use Rattle.std.proofs.Common.{◌≡◌, ◌≢◌, ◌∙◌, ℕ, ◌<◌, ◌≤◌, zero, suc, List, [], ◌∷◌, ◌++◌, Option, Some, None, Bool, true, false, ◌||◌, ◌⊎◌, length, slice_get, refl, sym, ap, subst, arith, inl, inr, append_assoc, length-append}
use Rattle.std.proofs.lemmas.Bool.{cases_lt, eqb-true, eq-eqb}
use Rattle.shim_units.specs.declared.found.Given.{Given}
use Rattle.shim_units.specs.Rule.{is_bare, stands_in}
use Rattle.shim_sharing.specs.Laws.{IsAlias, IsLeftmostAlias}
use Rattle.shim_sharing.specs.Sharing.{again, given_again}
use Rattle.shim_sharing.proofs.LeastClash.{some_or, true_of}
use Rattle.shim_sharing.proofs.Rule.{not_again}
use Rattle.shim_base.proofs.Facts.{or_left, or_right}

either_true : (a b : Bool) → (a || b) ≡ true → (a ≡ true) ⊎ (b ≡ true)
either_true true b e = inl refl
either_true false b e = inr e

or_assoc : (a b c : Bool) → ((a || b) || c) ≡ (a || (b || c))
or_assoc true b c = refl
or_assoc false b c = refl

bare_of : (x : ℕ) (o : Option ℕ) → is_bare x o ≡ true → o ≡ Some x
bare_of x None e = cc
bare_of x (Some y) e = ap Some (eqb-true y x e)

is_bare_of : (x : ℕ) (o : Option ℕ) → o ≡ Some x → is_bare x o ≡ true
is_bare_of x None e = cc
is_bare_of x (Some y) e = eq-eqb y x (cc)

-- one of these arguments is the variable
record BareArgument (x : ℕ) (gs : List Given) : Type 0 where
  place : ℕ
  one : Given
  there : slice_get gs place ≡ Some one
  is : one.bare ≡ Some x

bare_argument : (x : ℕ) (gs : List Given) → stands_in x gs ≡ true → BareArgument x gs
bare_argument x [] e = cc
bare_argument x (g ∷ gs) e =
    elim (either_true (is_bare x g.bare) (stands_in x gs) e) [
      | inl here ↦ record { place = zero; one = g; there = refl; is = bare_of x g.bare here }
      | inr behind ↦ let s : BareArgument x gs = bare_argument x gs behind in record { place = suc s.place; one = s.one; there = s.there; is = s.is }
    ]

given_bare : (x : ℕ) (gs : List Given) (k : ℕ) (h : Given) → slice_get gs k ≡ Some h → h.bare ≡ Some x → stands_in x gs ≡ true
given_bare x [] k h there is = cc
given_bare x (g ∷ gs) zero h there is =
    let same : g ≡ h = cc in
    or_left (is_bare x g.bare) (stands_in x gs) (is_bare_of x g.bare (ap (λ (i : Given). i.bare) same ∙ is))
given_bare x (g ∷ gs) (suc k) h there is = or_right (is_bare x g.bare) (stands_in x gs) (given_bare x gs k h there is)

-- one of the arguments on either side of another is the variable
record Apart (x : ℕ) (before : List Given) (g : Given) (gs : List Given) : Type 0 where
  place : ℕ
  apart : place ≢ length before
  one : Given
  there : slice_get (before ++ g ∷ gs) place ≡ Some one
  is : one.bare ≡ Some x

apart_of : (x : ℕ) (before : List Given) (g : Given) (gs : List Given) → (stands_in x before || stands_in x gs) ≡ true → Apart x before g gs
apart_of x [] g gs e =
    let s : BareArgument x gs = bare_argument x gs e in
    record { place = suc s.place; apart = λ is. omega (arith, is); one = s.one; there = s.there; is = s.is }
apart_of x (b ∷ bs) g gs e =
    elim (either_true (is_bare x b.bare) (stands_in x bs || stands_in x gs) (sym (or_assoc (is_bare x b.bare) (stands_in x bs) (stands_in x gs)) ∙ e)) [
      | inl here ↦ record { place = zero; apart = λ is. omega (arith, is); one = b; there = refl; is = bare_of x b.bare here }
      | inr behind ↦
          let s : Apart x bs g gs = apart_of x bs g gs behind in
          record { place = suc s.place; apart = λ is. s.apart (omega (arith, is)); one = s.one; there = s.there; is = s.is }
    ]

given_on_a_side : (x : ℕ) (before : List Given) (g : Given) (gs : List Given) (k : ℕ) (h : Given) → k ≢ length before → slice_get (before ++ g ∷ gs) k ≡ Some h → h.bare ≡ Some x
    → (stands_in x before || stands_in x gs) ≡ true
given_on_a_side x [] g gs zero h apart there is = absurd (apart refl)
given_on_a_side x [] g gs (suc k) h apart there is = given_bare x gs k h there is
given_on_a_side x (b ∷ bs) g gs zero h apart there is =
    let same : b ≡ h = cc in
    or_left (is_bare x b.bare || stands_in x bs) (stands_in x gs) (or_left (is_bare x b.bare) (stands_in x bs) (is_bare_of x b.bare (ap (λ (i : Given). i.bare) same ∙ is)))
given_on_a_side x (b ∷ bs) g gs (suc k) h apart there is =
    or_assoc (is_bare x b.bare) (stands_in x bs) (stands_in x gs)
    ∙ or_right (is_bare x b.bare) (stands_in x bs || stands_in x gs) (given_on_a_side x bs g gs k h (λ e. apart (ap suc e)) there is)

at_length : (before : List Given) (g : Given) (gs : List Given) → slice_get (before ++ g ∷ gs) (length before) ≡ Some g
at_length [] g gs = refl
at_length (b ∷ bs) g gs = at_length bs g gs

-- what is given again: by reference, and once more on either side
record Again (lent : Bool) (before after : List Given) (bare : Option ℕ) (x : ℕ) : Type 0 where
  by_reference : lent ≡ true
  gives : bare ≡ Some x
  on_a_side : (stands_in x before || stands_in x after) ≡ true

again_of : (lent : Bool) (before after : List Given) (bare : Option ℕ) (x : ℕ) → again lent before after bare ≡ Some x → Again lent before after bare x
again_of true before after None x e = cc
again_of true before after (Some y) x e =
    let t : ((stands_in y before || stands_in y after) ≡ true) × (y ≡ x) = true_of y x (stands_in y before || stands_in y after) e in
    record { by_reference = refl; gives = ap Some t.1; on_a_side = subst (λ z. (stands_in z before || stands_in z after) ≡ true) t.1 t.0 }
again_of false before after bare x e = cc

alias_here : (before : List Given) (g : Given) (gs : List Given) (x : ℕ) → again g.lent before gs g.bare ≡ Some x → IsAlias (before ++ g ∷ gs) (length before) x
alias_here before g gs x e =
    let a : Again g.lent before gs g.bare x = again_of g.lent before gs g.bare x e in
    let s : Apart x before g gs = apart_of x before g gs a.on_a_side in
    record {
      one = g;
      at_number = at_length before g gs;
      by_reference = a.by_reference;
      gives = a.gives;
      place = s.place;
      apart = s.apart;
      other = s.one;
      is_other = s.there;
      again = s.is;
    }

none_here : (before : List Given) (g : Given) (gs : List Given) (x : ℕ) → again g.lent before gs g.bare ≡ None → IsAlias (before ++ g ∷ gs) (length before) x → ⊥
none_here before g gs x e a =
    let same : g ≡ a.one = cc (at_length before g gs, a.at_number) in
    not_again g.lent before gs g.bare x e (ap (λ (i : Given). i.lent) same ∙ a.by_reference) (ap (λ (i : Given). i.bare) same ∙ a.gives)
    (given_on_a_side x before g gs a.place a.other a.apart a.is_other a.again)

-- of the arguments from number n on
record LeftmostFrom (gs : List Given) (n : ℕ) (x : ℕ) : Type 0 where
  number : ℕ
  is_alias : IsAlias gs number x
  leftmost : (m y : ℕ) → n ≤ m → m < number → IsAlias gs m y → ⊥

-- where the first of them is none
further : (before : List Given) (g : Given) (gs : List Given) (x : ℕ) → again g.lent before gs g.bare ≡ None → LeftmostFrom (before ++ g ∷ gs) (length (before ++ g ∷ [])) x
    → LeftmostFrom (before ++ g ∷ gs) (length before) x
further before g gs x none h = record {
  number = h.number;
  is_alias = h.is_alias;
  leftmost = λ m y from less a. elim (cases_lt (length before) m) [
    | inl past ↦ h.leftmost m y (omega (arith, past, length-append before (g ∷ []))) less a
    | inr not_past ↦ none_here before g gs y none (subst (λ k. IsAlias (before ++ g ∷ gs) k y) (let is : m ≡ length before = omega (arith, from, not_past) in is) a)
  ];
}

leftmost_from : (before gs : List Given) (x : ℕ) → given_again before gs ≡ Some x → LeftmostFrom (before ++ gs) (length before) x
leftmost_from before [] x e = cc
leftmost_from before (g ∷ gs) x e =
    elim (some_or (again g.lent before gs g.bare) (given_again (before ++ g ∷ []) gs) x e) [
      | inl here ↦ record { number = length before; is_alias = alias_here before g gs x here; leftmost = λ m y from less a. absurd (omega (arith, from, less)) }
      | inr w ↦ further before g gs x w.0 (subst (λ hs. LeftmostFrom hs (length (before ++ g ∷ [])) x) (append_assoc before (g ∷ []) gs) (leftmost_from (before ++ g ∷ []) gs x w.1))
    ]

pub leftmost_alias : (gs : List Given) (x : ℕ) → given_again [] gs ≡ Some x → IsLeftmostAlias gs x
leftmost_alias gs x e =
    let h : LeftmostFrom gs 0 x = leftmost_from [] gs x e in
    record { number = h.number; is_alias = h.is_alias; leftmost = λ m y less a. h.leftmost m y (omega arith) less a }
