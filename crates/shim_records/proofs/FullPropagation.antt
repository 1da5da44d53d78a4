-- The way up as a whole, from its steps.
use Rattle.shim_base.proofs.Facts.{some_same, none_some}
use Rattle.std.proofs.Common.{◌≡◌, ℕ, zero, suc, ◌+◌, ◌-◌, ◌<◌, ◌≤◌, Bool, Option, Some, None, List, [], ◌∷◌, map, refl, sym, ap, subst, ◌∙◌, arith}
use Rattle.std.specs.Prelude.{slice_get}
use Rattle.shim_base.specs.Paths.{Channel}
use Rattle.shim_laws_table.specs.Counts.{Tally}
use Rattle.shim_laws_table.specs.Updating.{UpdatedAbove, too_far}
use Rattle.shim_records.specs.Pairs.{child_status_of, counts_in, up_in, UncountedRecord, rest_of, AreOrdered, IsOrdered, chans_of}
use Rattle.shim_records.specs.Ways.{OnlyCounts, UpdatesFrom, StepsUp, IsUpdatedAbove}
use Rattle.shim_records.specs.declared.pair.ChildStatus.{ChildStatus}
use Rattle.shim_records.specs.declared.record.Record.{Record}
use Rattle.shim_records.specs.declared.upward.CountChange.{CountChange}

abbrev parent_of : Option UncountedRecord → Option ℕ
parent_of None = None
parent_of (Some r) = r.parent

-- who has which parent follows from what records say beside their pairs
up_of_rest : (rs : List Record) (i : ℕ) → parent_of (slice_get (map rest_of rs) i) ≡ up_in rs i
up_of_rest [] i = refl
up_of_rest (r ∷ rs) zero = refl
up_of_rest (r ∷ rs) (suc i) = up_of_rest rs i

pub rest_ups : (before behind : List Record) → map rest_of behind ≡ map rest_of before → up_in behind ≡ up_in before
rest_ups before behind h = λ t i. (sym (up_of_rest behind i) ∙ (ap (λ z. parent_of (slice_get z i)) h ∙ up_of_rest before i)) t

pub same_ups : (c : Channel) (before behind : List Record) → OnlyCounts c before behind → up_in behind ≡ up_in before
same_ups c before behind h = rest_ups before behind h.rest

only_both : (c : Channel) (a b d : List Record) → OnlyCounts c a b → OnlyCounts c b d → OnlyCounts c a d
only_both c a b d g h = record {
  rest = h.rest ∙ g.rest;
  elsewhere = λ e far i. h.elsewhere e far i ∙ g.elsewhere e far i;
  labels = λ e i. h.labels e i ∙ g.labels e i;
}

module _ (c : Channel) (n x : ℕ) (was is : ChildStatus) (start now : List Record) (here : CountChange) (walked : ℕ) where
  abbrev pub Whole : (ℕ → Option Tally) → Type 0
  Whole behind = UpdatedAbove (up_in start) 4294967295 n (counts_in c start) x (child_status_of was) (child_status_of is) behind

  abbrev pub OnIt : ℕ → List Record → CountChange → Type 0
  OnIt left now here = ((behind : ℕ → Option Tally) → UpdatesFrom (up_in start) left (counts_in c now) here behind → Whole behind) × OnlyCounts c start now

  next_left : (n walked : ℕ) → walked < n → suc (n - (walked + 1)) ≡ n - walked
  next_left n walked h = omega (arith, h)

  -- the way ends
  pub ended : {due : Bool} (behind : List Record) → OnIt (n - walked) now here → StepsUp c now here None due behind → IsUpdatedAbove c n x was is start behind
  ended behind on step =
      let up = same_ups c start now on.1 in
      (on.0 (counts_in c behind) (subst (λ u. UpdatesFrom u (n - walked) (counts_in c now) here (counts_in c behind)) up (step.0 (n - walked))), only_both c start now behind on.1 step.1)

  -- it goes on
  pub further : {due : Bool} (behind : List Record) (next : CountChange) → walked < n → OnIt (n - walked) now here → StepsUp c now here (Some next) due behind → OnIt (n - (walked + 1)) behind next
  further behind next less on step =
      let up = same_ups c start now on.1 in (
        (λ end rest. on.0 end (subst (λ k. UpdatesFrom (up_in start) k (counts_in c now) here end) (next_left n walked less)
            (subst (λ u. UpdatesFrom u (suc (n - (walked + 1))) (counts_in c now) here end) up (step.0 (n - (walked + 1)) end (subst (λ u. UpdatesFrom u (n - (walked + 1)) (counts_in c behind) next end) (sym up) rest))))),
        only_both c start now behind on.1 step.1,
      )

  -- or as far as it may
  pub stopped : n ≤ walked → OnIt (n - walked) now here → IsUpdatedAbove c n x was is start now
  stopped past on =
      let none : n - walked ≡ 0 = omega (arith, past) in
      (on.0 (counts_in c now) (subst (λ k. UpdatesFrom (up_in start) k (counts_in c now) here (counts_in c now)) (sym none) (too_far (counts_in c now) here.at (child_status_of here.was) (child_status_of here.is))), on.1)

-- at first nothing is updated
pub begun : (c : Channel) (n x : ℕ) (was is : ChildStatus) (start : List Record) → OnIt c n x was is start start (record { at = x; was = was; is = is }) 0 (n - 0) start (record { at = x; was = was; is = is })
begun c n x was is start =
    let all : n - 0 ≡ n = omega arith in
    ((λ behind h. subst (λ k. UpdatedAbove (up_in start) 4294967295 k (counts_in c start) x (child_status_of was) (child_status_of is) behind) all h), record { rest = refl; elsewhere = λ d far i. refl; labels = λ d i. refl })

-- so is the order of their pairs
pub kept_order : (before behind : List Record) → map rest_of behind ≡ map rest_of before → AreOrdered before → AreOrdered behind
kept_order before [] e h i r there = none_some r there
kept_order [] (y ∷ ys) e h i r there = absurd cc
kept_order (x ∷ xs) (y ∷ ys) e h zero r there = subst IsOrdered (sym (ap (λ z. z.chans) (heads e)) ∙ ap (λ z. chans_of z.pairs.items) (some_same y r there)) (h 0 x refl)
  where
    heads : rest_of y ∷ map rest_of ys ≡ rest_of x ∷ map rest_of xs → rest_of y ≡ rest_of x
    heads w = cc
kept_order (x ∷ xs) (y ∷ ys) e h (suc i) r there = kept_order xs ys (tails e) (λ j q f. h (suc j) q f) i r there
  where
    tails : rest_of y ∷ map rest_of ys ≡ rest_of x ∷ map rest_of xs → map rest_of ys ≡ map rest_of xs
    tails w = cc
