-- Which numbers are in runs with one more, and without one.
use Rattle.std.proofs.Common.{◌≡◌, ℕ, suc, ◌+◌, ◌-◌, ◌<◌, ◌≤◌, ◌⊎◌, ◌↔◌, inl, inr, Bool, true, false, cond, List, [], ◌∷◌, ◌++◌, refl, subst, sym, arith}
use Rattle.std.specs.Prelude.{eqb, nat_le, nat_lt}
use Rattle.std.proofs.lemmas.Bool.{leb-true, leb-false, le-leb, ltb-true, ltb-false, eqb-true}
use Rattle.shim_process.specs.declared.serial_run.SerialRun.{SerialRun}
use Rattle.shim_process.specs.SerialRuns.{last_serial, is_in_run, is_in_runs, with_serial, run_above, run_below, run_without, without_serial}
use Rattle.shim_base.proofs.Facts.{first_holds, second_holds, both_hold, either_holds, or_left, or_right}

-- between the ends of a run
from_first : (n : ℕ) (r : SerialRun) → is_in_run n r ≡ true → r.first ≤ n
from_first n r e = leb-true r.first n (first_holds (nat_le r.first n) (nat_le n (last_serial r)) e)

to_last : (n : ℕ) (r : SerialRun) → is_in_run n r ≡ true → n ≤ last_serial r
to_last n r e = leb-true n (last_serial r) (second_holds (nat_le r.first n) (nat_le n (last_serial r)) e)

in_run : (n : ℕ) (r : SerialRun) → r.first ≤ n → n ≤ last_serial r → is_in_run n r ≡ true
in_run n r least most = both_hold (nat_le r.first n) (nat_le n (last_serial r)) (le-leb r.first n least) (le-leb n (last_serial r) most)

-- with one more

abbrev longer : SerialRun → SerialRun
longer r = record { first = r.first; more = suc r.more }

abbrev alone : ℕ → SerialRun
alone n = record { first = n; more = 0 }

has_by : (b : Bool) (n : ℕ) (r : SerialRun) (rs : List SerialRun) → eqb n (suc (last_serial r)) ≡ b → is_in_runs n (cond b (longer r ∷ rs) (alone n ∷ r ∷ rs)) ≡ true
has_by true n r rs e =
    let at : n ≡ suc (last_serial r) = eqb-true n (suc (last_serial r)) e in
    or_left (is_in_run n (longer r)) (is_in_runs n rs) (in_run n (longer r) (omega (arith, at)) (omega (arith, at)))
has_by false n r rs e = or_left (is_in_run n (alone n)) (is_in_runs n (r ∷ rs)) (in_run n (alone n) (omega arith) (omega arith))

pub with_has : (n : ℕ) (rs : List SerialRun) → is_in_runs n (with_serial n rs) ≡ true
with_has n [] = or_left (is_in_run n (alone n)) false (in_run n (alone n) (omega arith) (omega arith))
with_has n (r ∷ rs) = has_by (eqb n (suc (last_serial r))) n r rs refl

keeps_by : (b : Bool) (i n : ℕ) (r : SerialRun) (rs : List SerialRun) → is_in_runs i (r ∷ rs) ≡ true → is_in_runs i (cond b (longer r ∷ rs) (alone n ∷ r ∷ rs)) ≡ true
keeps_by true i n r rs h = elim (either_holds (is_in_run i r) (is_in_runs i rs) h) [
  | inl here ↦
      let least = from_first i r here in
      let most = to_last i r here in
      or_left (is_in_run i (longer r)) (is_in_runs i rs) (in_run i (longer r) least (omega (arith, most)))
  | inr there ↦ or_right (is_in_run i (longer r)) (is_in_runs i rs) there
]
keeps_by false i n r rs h = or_right (is_in_run i (alone n)) (is_in_runs i (r ∷ rs)) h

pub with_keeps : (i n : ℕ) (rs : List SerialRun) → is_in_runs i rs ≡ true → is_in_runs i (with_serial n rs) ≡ true
with_keeps i n [] h = absurd (cc h)
with_keeps i n (r ∷ rs) h = keeps_by (eqb n (suc (last_serial r))) i n r rs h

in_alone : (i n : ℕ) → is_in_run i (alone n) ≡ true → i ≡ n
in_alone i n e =
    let least = from_first i (alone n) e in
    let most = to_last i (alone n) e in
    omega (arith, least, most)

in_by : (b : Bool) (i n : ℕ) (r : SerialRun) (rs : List SerialRun) → eqb n (suc (last_serial r)) ≡ b → is_in_runs i (cond b (longer r ∷ rs) (alone n ∷ r ∷ rs)) ≡ true → (i ≡ n) ⊎ (is_in_runs i (r ∷ rs) ≡ true)
in_by true i n r rs e h = elim (either_holds (is_in_run i (longer r)) (is_in_runs i rs) h) [
  | inl here ↦
      let least = from_first i (longer r) here in
      let most = to_last i (longer r) here in
      let at : n ≡ suc (last_serial r) = eqb-true n (suc (last_serial r)) e in
      in_longer i n r least most at
  | inr there ↦ inr (or_right (is_in_run i r) (is_in_runs i rs) there)
]
  where
    by_last : (t : Bool) (i n : ℕ) (r : SerialRun) → nat_le i (last_serial r) ≡ t → r.first ≤ i → i ≤ suc (last_serial r) → n ≡ suc (last_serial r) → (i ≡ n) ⊎ (is_in_runs i (r ∷ rs) ≡ true)
    by_last true i n r e least most at = inr (or_left (is_in_run i r) (is_in_runs i rs) (in_run i r least (leb-true i (last_serial r) e)))
    by_last false i n r e least most at = inl (let w = leb-false i (last_serial r) e in omega (arith, w, most, at))

    in_longer : (i n : ℕ) (r : SerialRun) → r.first ≤ i → i ≤ last_serial (longer r) → n ≡ suc (last_serial r) → (i ≡ n) ⊎ (is_in_runs i (r ∷ rs) ≡ true)
    in_longer i n r least most at = by_last (nat_le i (last_serial r)) i n r refl least (omega (arith, most)) at
in_by false i n r rs e h = elim (either_holds (is_in_run i (alone n)) (is_in_runs i (r ∷ rs)) h) [ inl here ↦ inl (in_alone i n here) | inr there ↦ inr there ]

-- what is in them then was so before, or is that one
pub with_in : (i n : ℕ) (rs : List SerialRun) → is_in_runs i (with_serial n rs) ≡ true → (i ≡ n) ⊎ (is_in_runs i rs ≡ true)
with_in i n [] h = elim (either_holds (is_in_run i (alone n)) false h) [ inl here ↦ inl (in_alone i n here) | inr there ↦ absurd (cc there) ]
with_in i n (r ∷ rs) h = in_by (eqb n (suc (last_serial r))) i n r rs refl h

-- without one

in_both : (i : ℕ) (rs ss : List SerialRun) → is_in_runs i (rs ++ ss) ≡ true → (is_in_runs i rs ≡ true) ⊎ (is_in_runs i ss ≡ true)
in_both i [] ss h = inr h
in_both i (r ∷ rs) ss h = elim (either_holds (is_in_run i r) (is_in_runs i (rs ++ ss)) h) [
  | inl here ↦ inl (or_left (is_in_run i r) (is_in_runs i rs) here)
  | inr there ↦ elim (in_both i rs ss there) [ inl a ↦ inl (or_right (is_in_run i r) (is_in_runs i rs) a) | inr b ↦ inr b ]
]

in_first : (i : ℕ) (rs ss : List SerialRun) → is_in_runs i rs ≡ true → is_in_runs i (rs ++ ss) ≡ true
in_first i [] ss h = absurd (cc h)
in_first i (r ∷ rs) ss h = elim (either_holds (is_in_run i r) (is_in_runs i rs) h) [
  | inl here ↦ or_left (is_in_run i r) (is_in_runs i (rs ++ ss)) here
  | inr there ↦ or_right (is_in_run i r) (is_in_runs i (rs ++ ss)) (in_first i rs ss there)
]

in_second : (i : ℕ) (rs ss : List SerialRun) → is_in_runs i ss ≡ true → is_in_runs i (rs ++ ss) ≡ true
in_second i [] ss h = h
in_second i (r ∷ rs) ss h = or_right (is_in_run i r) (is_in_runs i (rs ++ ss)) (in_second i rs ss h)

in_one : (i : ℕ) (r : SerialRun) → is_in_runs i (r ∷ []) ≡ true → is_in_run i r ≡ true
in_one i r h = elim (either_holds (is_in_run i r) false h) [ inl here ↦ here | inr there ↦ absurd (cc there) ]

one_in : (i : ℕ) (r : SerialRun) → is_in_run i r ≡ true → is_in_runs i (r ∷ []) ≡ true
one_in i r h = or_left (is_in_run i r) false h

abbrev upper : ℕ → SerialRun → SerialRun
upper n r = record { first = suc n; more = last_serial r - suc n }

abbrev lower : ℕ → SerialRun → SerialRun
lower n r = record { first = r.first; more = n - suc r.first }

-- above the number
above_by : (b : Bool) (i n : ℕ) (r : SerialRun) → nat_lt n (last_serial r) ≡ b → is_in_runs i (cond b (upper n r ∷ []) []) ≡ true → (n < i) × (i ≤ last_serial r)
above_by true i n r e h =
    let w = in_one i (upper n r) h in
    let less = ltb-true n (last_serial r) e in
    let least = from_first i (upper n r) w in
    let most = to_last i (upper n r) w in
    (omega (arith, least), omega (arith, most, less))
above_by false i n r e h = absurd (cc h)

above_in : (i n : ℕ) (r : SerialRun) → is_in_runs i (run_above n r) ≡ true → (n < i) × (i ≤ last_serial r)
above_in i n r h = above_by (nat_lt n (last_serial r)) i n r refl h

in_above_by : (b : Bool) (i n : ℕ) (r : SerialRun) → nat_lt n (last_serial r) ≡ b → n < i → i ≤ last_serial r → is_in_runs i (cond b (upper n r ∷ []) []) ≡ true
in_above_by true i n r e least most = one_in i (upper n r) (in_run i (upper n r) (omega (arith, least)) (omega (arith, least, most)))
in_above_by false i n r e least most = absurd (let w = ltb-false n (last_serial r) e in omega (arith, w, least, most))

in_above : (i n : ℕ) (r : SerialRun) → n < i → i ≤ last_serial r → is_in_runs i (run_above n r) ≡ true
in_above i n r least most = in_above_by (nat_lt n (last_serial r)) i n r refl least most

-- below it
below_by : (b : Bool) (i n : ℕ) (r : SerialRun) → nat_lt r.first n ≡ b → is_in_runs i (cond b (lower n r ∷ []) []) ≡ true → (r.first ≤ i) × (i < n)
below_by true i n r e h =
    let w = in_one i (lower n r) h in
    let less = ltb-true r.first n e in
    let least = from_first i (lower n r) w in
    let most = to_last i (lower n r) w in
    (least, omega (arith, most, less))
below_by false i n r e h = absurd (cc h)

below_in : (i n : ℕ) (r : SerialRun) → is_in_runs i (run_below n r) ≡ true → (r.first ≤ i) × (i < n)
below_in i n r h = below_by (nat_lt r.first n) i n r refl h

in_below_by : (b : Bool) (i n : ℕ) (r : SerialRun) → nat_lt r.first n ≡ b → r.first ≤ i → i < n → is_in_runs i (cond b (lower n r ∷ []) []) ≡ true
in_below_by true i n r e least most = one_in i (lower n r) (in_run i (lower n r) least (omega (arith, least, most)))
in_below_by false i n r e least most = absurd (let w = ltb-false r.first n e in omega (arith, w, least, most))

in_below : (i n : ℕ) (r : SerialRun) → r.first ≤ i → i < n → is_in_runs i (run_below n r) ≡ true
in_below i n r least most = in_below_by (nat_lt r.first n) i n r refl least most

run_by : (b : Bool) (i n : ℕ) (r : SerialRun) → is_in_run n r ≡ b → is_in_runs i (cond b (run_above n r ++ run_below n r) (r ∷ [])) ≡ true → (is_in_run i r ≡ true) × (i ≡ n → ⊥)
run_by true i n r e h =
    let first = from_first n r e in
    let end = to_last n r e in
    elim (in_both i (run_above n r) (run_below n r) h) [
      | inl a ↦ let w = above_in i n r a in (let p = w.0 in let q = w.1 in in_run i r (omega (arith, first, p)) q, λ same. let p = w.0 in omega (arith, p, same))
      | inr b ↦ let w = below_in i n r b in (let p = w.0 in let q = w.1 in in_run i r p (omega (arith, q, end)), λ same. let q = w.1 in omega (arith, q, same))
    ]
run_by false i n r e h =
    let w = in_one i r h in
    (w, λ same. let there : is_in_run n r ≡ true = subst (λ k. is_in_run k r ≡ true) same w in absurd (cc (e, there)))

run_in : (i n : ℕ) (r : SerialRun) → is_in_runs i (run_without n r) ≡ true → (is_in_run i r ≡ true) × (i ≡ n → ⊥)
run_in i n r h = run_by (is_in_run n r) i n r refl h

pub without_in : (i n : ℕ) (rs : List SerialRun) → is_in_runs i (without_serial n rs) ≡ true → (is_in_runs i rs ≡ true) × (i ≡ n → ⊥)
without_in i n [] h = absurd (cc h)
without_in i n (r ∷ rs) h = elim (in_both i (run_without n r) (without_serial n rs) h) [
  | inl a ↦ let w = run_in i n r a in (or_left (is_in_run i r) (is_in_runs i rs) w.0, w.1)
  | inr b ↦ let w = without_in i n rs b in (or_right (is_in_run i r) (is_in_runs i rs) w.0, w.1)
]

apart_by : (t : Bool) (i n : ℕ) (r : SerialRun) → nat_lt n i ≡ t → (i ≡ n → ⊥) → r.first ≤ i → i ≤ last_serial r → is_in_runs i (run_above n r ++ run_below n r) ≡ true
apart_by true i n r e other least most = in_first i (run_above n r) (run_below n r) (in_above i n r (ltb-true n i e) most)
apart_by false i n r e other least most =
    let w = ltb-false n i e in
    in_second i (run_above n r) (run_below n r) (in_below i n r least (less_than i n w other))
  where
    less_by : (t : Bool) (i n : ℕ) → nat_lt i n ≡ t → i ≤ n → (i ≡ n → ⊥) → i < n
    less_by true i n e most other = ltb-true i n e
    less_by false i n e most other = absurd (let w = ltb-false i n e in other (omega (arith, w, most)))

    less_than : (i n : ℕ) → i ≤ n → (i ≡ n → ⊥) → i < n
    less_than i n most other = less_by (nat_lt i n) i n refl most other

run_keeps_by : (b : Bool) (i n : ℕ) (r : SerialRun) → is_in_run i r ≡ true → (i ≡ n → ⊥) → is_in_runs i (cond b (run_above n r ++ run_below n r) (r ∷ [])) ≡ true
run_keeps_by true i n r h other = apart_by (nat_lt n i) i n r refl other (from_first i r h) (to_last i r h)
run_keeps_by false i n r h other = one_in i r h

run_keeps : (i n : ℕ) (r : SerialRun) → is_in_run i r ≡ true → (i ≡ n → ⊥) → is_in_runs i (run_without n r) ≡ true
run_keeps i n r h other = run_keeps_by (is_in_run n r) i n r h other

pub without_keeps : (i n : ℕ) (rs : List SerialRun) → is_in_runs i rs ≡ true → (i ≡ n → ⊥) → is_in_runs i (without_serial n rs) ≡ true
without_keeps i n [] h other = absurd (cc h)
without_keeps i n (r ∷ rs) h other = elim (either_holds (is_in_run i r) (is_in_runs i rs) h) [
  | inl here ↦ in_first i (run_without n r) (without_serial n rs) (run_keeps i n r here other)
  | inr there ↦ in_second i (run_without n r) (without_serial n rs) (without_keeps i n rs there other)
]

pub with_one : (i n : ℕ) (rs : List SerialRun) → (is_in_runs i (with_serial n rs) ≡ true) ↔ ((i ≡ n) ⊎ (is_in_runs i rs ≡ true))
with_one i n rs = (with_in i n rs, back)
  where
    back : (i ≡ n) ⊎ (is_in_runs i rs ≡ true) → is_in_runs i (with_serial n rs) ≡ true
    back (inl same) = subst (λ k. is_in_runs k (with_serial n rs) ≡ true) (sym same) (with_has n rs)
    back (inr there) = with_keeps i n rs there

pub without_one : (i n : ℕ) (rs : List SerialRun) → (is_in_runs i (without_serial n rs) ≡ true) ↔ ((is_in_runs i rs ≡ true) × (i ≡ n → ⊥))
without_one i n rs = (without_in i n rs, λ h. without_keeps i n rs h.0 h.1)
