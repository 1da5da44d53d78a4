-- The clash that is found first is the least.
use Rattle.std.proofs.Common.{◌≡◌, ◌∙◌, ℕ, ◌+◌, ◌<◌, zero, suc, List, [], ◌∷◌, Option, Some, None, Bool, true, false, ◌&&◌, ◌⊎◌, refl, sym, ap, subst, arith, inl, inr}
use Rattle.std.specs.Prelude.{slice_get}
use Rattle.std.specs.Option.{option_or}
use Rattle.shim_sharing.specs.declared.fork.Clash.{Clash}
use Rattle.shim_units.specs.declared.found.Capture.{Capture}
use Rattle.shim_units.specs.declared.found.Capture.TheVariants.{Nothing, Copy, Reference}
use Rattle.shim_units.specs.Captures.{Captures, is_reference}
use Rattle.shim_sharing.specs.Sharing.{if_true, least_below, common, clash_at, clash_with, clash_from}
use Rattle.shim_sharing.specs.Laws.{IsClash, IsLeast}
use Rattle.shim_sharing.proofs.Rule.{none_below, left_true, right_true, first_none, second_none, clash_none}
use Rattle.shim_base.proofs.Facts.{both_hold}

reference : (t : Capture) → is_reference t ≡ true → t ≡ Reference
reference Nothing e = cc
reference Copy e = cc
reference Reference e = refl

pub some_or : {A : Type 0} (a b : Option A) (x : A) → option_or a b ≡ Some x → (a ≡ Some x) ⊎ ((a ≡ None) × (b ≡ Some x))
some_or None b x e = inr (refl, e)
some_or (Some y) b x e = inl e

pub true_of : (n x : ℕ) (b : Bool) → if_true n b ≡ Some x → (b ≡ true) × (n ≡ x)
true_of n x true e = (refl, cc)
true_of n x false e = cc

-- the least that passes is below the bound, passes, and none below it does
record LeastOf (n : ℕ) (p : ℕ → Bool) (x : ℕ) : Type 0 where
  below : x < n
  passes : p x ≡ true
  least : (y : ℕ) → y < x → p y ≡ true → ⊥

least_of : (n : ℕ) (p : ℕ → Bool) (x : ℕ) → least_below n p ≡ Some x → LeastOf n p x
least_of zero p x e = cc
least_of (suc n) p x e =
    elim (some_or (least_below n p) (if_true n (p n)) x e) [
      | inl here ↦ let h : LeastOf n p x = least_of n p x here in record { below = omega (arith, h.below); passes = h.passes; least = h.least }
      | inr w ↦
          let t : (p n ≡ true) × (n ≡ x) = true_of n x (p n) w.1 in
          record {
            below = omega (arith, t.1);
            passes = ap p (sym t.1) ∙ t.0;
            least = λ y lt. none_below n p w.0 y (omega (arith, t.1));
          }
    ]

-- of the branch i with those after it, the first of which is j
record ClashWith (n i j : ℕ) (s : Captures) (ts : List Captures) (c : Clash) : Type 0 where
  is_i : c.first ≡ i
  at : ℕ
  is_j : c.second ≡ j + at
  other : Captures
  there : slice_get ts at ≡ Some other
  least : LeastOf n (λ x. is_reference (s x) && is_reference (other x)) c.slot
  before : (k : ℕ) (t : Captures) → k < at → slice_get ts k ≡ Some t → common n s t ≡ None

clash_is : (i j : ℕ) (o : Option ℕ) (c : Clash) → clash_at i j o ≡ Some c → (o ≡ Some c.slot) × (c.first ≡ i) × (c.second ≡ j)
clash_is i j None c e = cc
clash_is i j (Some x) c e = (cc, cc, cc)

clash_with_is : (n i j : ℕ) (s : Captures) (ts : List Captures) (c : Clash) → clash_with n i s j ts ≡ Some c → ClashWith n i j s ts c
clash_with_is n i j s [] c e = cc
clash_with_is n i j s (t ∷ ts) c e =
    elim (some_or (clash_at i j (common n s t)) (clash_with n i s (j + 1) ts) c e) [
      | inl here ↦
          let h = clash_is i j (common n s t) c here in
          record {
            is_i = h.1;
            at = 0;
            is_j = omega (arith, h.2);
            other = t;
            there = refl;
            least = least_of n (λ x. is_reference (s x) && is_reference (t x)) c.slot h.0;
            before = λ k u lt. absurd (omega (arith, lt));
          }
      | inr w ↦
          let h : ClashWith n i (j + 1) s ts c = clash_with_is n i (j + 1) s ts c w.1 in
          record {
            is_i = h.is_i;
            at = suc h.at;
            is_j = omega (arith, h.is_j);
            other = h.other;
            there = h.there;
            least = h.least;
            before = λ k u lt is. none_before n i j s t ts h.at (clash_none i j (common n s t) w.0) h.before k u lt is;
          }
    ]
  where
    none_before : (n i j : ℕ) (s t : Captures) (ts : List Captures) (at : ℕ) → common n s t ≡ None → ((k : ℕ) (u : Captures) → k < at → slice_get ts k ≡ Some u → common n s u ≡ None)
        → (k : ℕ) (u : Captures) → k < suc at → slice_get (t ∷ ts) k ≡ Some u → common n s u ≡ None
    none_before n i j s t ts at here f zero u lt is = let same : t ≡ u = cc in subst (λ (v : Captures). common n s v ≡ None) same here
    none_before n i j s t ts at here f (suc k) u lt is = f k u (omega arith) is

none_with : (n i j : ℕ) (s : Captures) (ts : List Captures) → clash_with n i s j ts ≡ None → (k : ℕ) (t : Captures) → slice_get ts k ≡ Some t → common n s t ≡ None
none_with n i j s [] e k t is = cc
none_with n i j s (u ∷ us) e zero t is =
    let same : u ≡ t = cc in
    subst (λ (v : Captures). common n s v ≡ None) same (clash_none i j (common n s u) (first_none (clash_at i j (common n s u)) (clash_with n i s (j + 1) us) e))
none_with n i j s (u ∷ us) e (suc k) t is = none_with n i (j + 1) s us (second_none (clash_at i j (common n s u)) (clash_with n i s (j + 1) us) e) k t is

-- of branches from number i on
record ClashFrom (n i : ℕ) (ts : List Captures) (c : Clash) : Type 0 where
  at : ℕ
  is_i : c.first ≡ i + at
  one : Captures
  there : slice_get ts at ≡ Some one
  with_it : (behind : ℕ) × (other : Captures) × (c.second ≡ i + at + 1 + behind) × (slice_get ts (at + 1 + behind) ≡ Some other) × LeastOf n (λ x. is_reference (one x) && is_reference (other x)) c.slot
  first : (k l : ℕ) (s t : Captures) → k < at → k < l → slice_get ts k ≡ Some s → slice_get ts l ≡ Some t → common n s t ≡ None
  second : (l : ℕ) (t : Captures) → at < l → i + l < c.second → slice_get ts l ≡ Some t → common n one t ≡ None

-- where the first branch is one of the two
second_here : (n i : ℕ) (s : Captures) (ts : List Captures) (c : Clash) → ClashWith n i (i + 1) s ts c → (l : ℕ) (t : Captures) → 0 < l → i + l < c.second → slice_get (s ∷ ts) l ≡ Some t → common n s t ≡ None
second_here n i s ts c h zero t lt below is = absurd (omega arith)
second_here n i s ts c h (suc l) t lt below is = h.before l t (omega (arith, h.is_j)) is

-- and where it isn't
first_behind : (n i : ℕ) (s : Captures) (ts : List Captures) (c : Clash) → clash_with n i s (i + 1) ts ≡ None → (h : ClashFrom n (i + 1) ts c)
    → (k l : ℕ) (t u : Captures) → k < suc h.at → k < l → slice_get (s ∷ ts) k ≡ Some t → slice_get (s ∷ ts) l ≡ Some u → common n t u ≡ None
first_behind n i s ts c none h k zero t u lt less p q = absurd (omega arith)
first_behind n i s ts c none h zero (suc l) t u lt less p q =
    let same : s ≡ t = cc in
    subst (λ (v : Captures). common n v u ≡ None) same (none_with n i (i + 1) s ts none l u q)
first_behind n i s ts c none h (suc k) (suc l) t u lt less p q = h.first k l t u (omega arith) (omega arith) p q

second_behind : (n i : ℕ) (s : Captures) (ts : List Captures) (c : Clash) (h : ClashFrom n (i + 1) ts c)
    → (l : ℕ) (t : Captures) → suc h.at < l → i + l < c.second → slice_get (s ∷ ts) l ≡ Some t → common n h.one t ≡ None
second_behind n i s ts c h zero t lt below is = absurd (omega arith)
second_behind n i s ts c h (suc l) t lt below is = h.second l t (omega arith) (omega arith) is

clash_from_is : (n i : ℕ) (ts : List Captures) (c : Clash) → clash_from n i ts ≡ Some c → ClashFrom n i ts c
clash_from_is n i [] c e = cc
clash_from_is n i (t ∷ ts) c e =
    elim (some_or (clash_with n i t (i + 1) ts) (clash_from n (i + 1) ts) c e) [
      | inl here ↦
          let h : ClashWith n i (i + 1) t ts c = clash_with_is n i (i + 1) t ts c here in
          record {
            at = 0;
            is_i = omega (arith, h.is_i);
            one = t;
            there = refl;
            with_it = (h.at, h.other, omega (arith, h.is_j), subst (λ k. slice_get (t ∷ ts) k ≡ Some h.other) (let q : suc h.at ≡ 0 + 1 + h.at = omega arith in q) h.there, h.least);
            first = λ k l s u lt. absurd (omega (arith, lt));
            second = λ l u lt below is. second_here n i t ts c h l u lt below is;
          }
      | inr w ↦
          let h : ClashFrom n (i + 1) ts c = clash_from_is n (i + 1) ts c w.1 in
          record {
            at = suc h.at;
            is_i = omega (arith, h.is_i);
            one = h.one;
            there = h.there;
            with_it = (h.with_it.0, h.with_it.1, omega (arith, h.with_it.2), subst (λ k. slice_get (t ∷ ts) k ≡ Some h.with_it.1) (let q : suc (h.at + 1 + h.with_it.0) ≡ suc h.at + 1 + h.with_it.0 = omega arith in q) h.with_it.3, h.with_it.4);
            first = λ k l s u lt less p q. first_behind n i t ts c w.0 h k l s u lt less p q;
            second = λ l u lt below is. second_behind n i t ts c h l u lt below is;
          }
    ]

taken : (t : Captures) (x : ℕ) → t x ≡ Reference → is_reference (t x) ≡ true
taken t x e = ap is_reference e

not_none : (n : ℕ) (s t : Captures) (x : ℕ) → common n s t ≡ None → x < n → s x ≡ Reference → t x ≡ Reference → ⊥
not_none n s t x none lt p q = none_below n (λ y. is_reference (s y) && is_reference (t y)) none x lt (both_hold (is_reference (s x)) (is_reference (t x)) (taken s x p) (taken t x q))

same_at : (ts : List Captures) (i j : ℕ) (s t : Captures) → i ≡ j → slice_get ts i ≡ Some s → slice_get ts j ≡ Some t → s ≡ t
same_at ts i j s t e p q = cc (ap (λ k. slice_get ts k) e)

pub clash_is_least : (n : ℕ) (ts : List Captures) (c : Clash) → clash_from n 0 ts ≡ Some c → IsClash n ts c × IsLeast n ts c
clash_is_least n ts c e =
    let h : ClashFrom n 0 ts c = clash_from_is n 0 ts c e in
    let other : Captures = h.with_it.1 in
    let l : LeastOf n (λ x. is_reference (h.one x) && is_reference (other x)) c.slot = h.with_it.4 in
    let at_first : h.at ≡ c.first = omega (arith, h.is_i) in
    let at_second : h.at + 1 + h.with_it.0 ≡ c.second = omega (arith, h.with_it.2) in (
      record {
        ordered = omega (arith, at_first, at_second);
        one = h.one;
        other = other;
        is_first = subst (λ k. slice_get ts k ≡ Some h.one) at_first h.there;
        is_second = subst (λ k. slice_get ts k ≡ Some other) at_second h.with_it.3;
        below = l.below;
        by_one = reference (h.one c.slot) (left_true (is_reference (h.one c.slot)) (is_reference (other c.slot)) l.passes);
        by_other = reference (other c.slot) (right_true (is_reference (h.one c.slot)) (is_reference (other c.slot)) l.passes);
      },
      record {
        first = λ d w lt. not_none n w.one w.other d.slot (h.first d.first d.second w.one w.other (omega (arith, at_first, lt)) w.ordered w.is_first w.is_second) w.below w.by_one w.by_other;
        second = λ d w same lt.
            let one : h.one ≡ w.one = same_at ts h.at d.first h.one w.one (at_first ∙ sym same) h.there w.is_first in
            not_none n h.one w.other d.slot (h.second d.second w.other (omega (arith, at_first, same, w.ordered)) (omega (arith, lt)) w.is_second) w.below (ap (λ (t : Captures). t d.slot) one ∙ w.by_one) w.by_other;
        slot = λ d w same same' lt.
            let one : h.one ≡ w.one = same_at ts h.at d.first h.one w.one (at_first ∙ sym same) h.there w.is_first in
            let two : other ≡ w.other = same_at ts (h.at + 1 + h.with_it.0) d.second other w.other (at_second ∙ sym same') h.with_it.3 w.is_second in
            l.least d.slot lt (both_hold (is_reference (h.one d.slot)) (is_reference (other d.slot)) (taken h.one d.slot (ap (λ (t : Captures). t d.slot) one ∙ w.by_one)) (taken other d.slot (ap (λ (t : Captures). t d.slot) two ∙ w.by_other)));
      },
    )
