-- Own steps are summed up number by number.
use Rattle.std.proofs.Common.{◌≡◌, ◌≤◌, ◌<◌, ℕ, zero, suc, ◌+◌, Option, Some, List, [], ◌∷◌, ◌++◌, map, length, drop, get_or, refl, sym, ap, subst, ◌∙◌, arith}
use Rattle.std.specs.FinMap.{FinMap, empty}
use Rattle.shim_base.specs.Paths.{Path, path_order}
use Rattle.shim_local.specs.Process.{Ops}
use Rattle.shim_semantics.specs.Trees.{count_of}
use Rattle.shim_run_log.specs.Counted.{StepCount, counted}
use Rattle.shim_run_log.specs.Summed.{with_counts}
use Rattle.shim_run_log.proofs.Summed.{all_summed, with_both, all_grow, stays_few, below_sum}
use Rattle.shim_run_state.specs.RunStates.{RunStateView, tree_in, RunStateInvariant, entry, counts_from}
use Rattle.shim_run_state.specs.Fields.{count_in}
use Rattle.shim_run_state.specs.declared.run_state.PastSteps.{PastSteps}
use Rattle.shim_run_state.proofs.Counts.{same}

drop_past : {A : Type 0} (xs : List A) (k : ℕ) → length xs ≤ k → drop k xs ≡ []
drop_past [] zero h = refl
drop_past [] (suc k) h = refl
drop_past (x ∷ xs) zero h = absurd (omega (arith, h))
drop_past (x ∷ xs) (suc k) h = drop_past xs k (omega (arith, h))

pub drop_at : {A : Type 0} (xs : List A) (k : ℕ) (d : A) → k < length xs → drop k xs ≡ get_or xs k d ∷ drop (k + 1) xs
drop_at xs k d h = drop_next xs k h ∙ ap (λ z. get_or xs k d ∷ drop z xs) (one_later k)
  where
    drop_next : (xs : List _) (k : ℕ) → k < length xs → drop k xs ≡ get_or xs k d ∷ drop (suc k) xs
    drop_next [] k h = absurd (omega (arith, h))
    drop_next (x ∷ xs) zero h = refl
    drop_next (x ∷ xs) (suc k) h = drop_next xs k (omega (arith, h))

    one_later : (k : ℕ) → suc k ≡ k + 1
    one_later k = omega arith

-- ---- the numbers in use

module _ (paths : ℕ → Option Path) (own : List ℕ) where
  -- those from this one on
  abbrev left : ℕ → List StepCount
  left k = counts_from (λ i. paths (k + i)) (drop k own)

  -- what is left, added to what was summed up, is all
  pub record SummedTo (k : ℕ) (now all : FinMap path_order ℕ) : Type 0 where
    pub is : with_counts now (left k) ≡ all

  pub none_yet : (m : FinMap path_order ℕ) → SummedTo 0 m (with_counts m (counts_from paths own))
  none_yet m = record { is = ap (with_counts m) (same (λ i. paths (0 + i)) paths own (λ i. ap paths (from_none i))) }
    where
      from_none : (i : ℕ) → 0 + i ≡ i
      from_none i = omega arith

  first_left : (k x : ℕ) → drop k own ≡ x ∷ drop (k + 1) own → left k ≡ entry (paths k) x ++ left (k + 1)
  first_left k x d = ap (counts_from (λ i. paths (k + i))) d ∙ (λ t. entry (paths (itself t)) x ++ same (λ i. paths (k + suc i)) (λ i. paths (k + 1 + i)) (drop (k + 1) own) (λ i. ap paths (later i)) t)
    where
      itself : k + 0 ≡ k
      itself = omega arith

      later : (i : ℕ) → k + suc i ≡ k + 1 + i
      later i = omega arith

  pub one_summed : (k x : ℕ) (now next all : FinMap path_order ℕ) → drop k own ≡ x ∷ drop (k + 1) own → next ≡ with_counts now (entry (paths k) x) → SummedTo k now all → SummedTo (k + 1) next all
  one_summed k x now next all d is so_far = record {
    is = ap (λ z. with_counts z (left (k + 1))) is ∙ (sym (with_both now (entry (paths k) x) (left (k + 1))) ∙ (ap (with_counts now) (sym (first_left k x d)) ∙ so_far.is));
  }

  -- so its count isn't too great
  pub is_few : (k x most : ℕ) (now all : FinMap path_order ℕ) → drop k own ≡ x ∷ drop (k + 1) own → ((p : Path) → count_of all p ≤ most) → SummedTo k now all → (p : Path) → paths k ≡ Some p → count_of now p + x ≤ most
  is_few k x most now all d few so_far p e =
      stays_few now (record { path = p; count = x }) (left (k + 1)) most (λ q. subst (λ (z : FinMap path_order ℕ). count_of z q ≤ most) (sym whole) (few q))
    where
      whole : with_counts now (entry (Some p) x ++ left (k + 1)) ≡ all
      whole = ap (λ z. with_counts now (entry z x ++ left (k + 1))) (sym e) ∙ (ap (with_counts now) (sym (first_left k x d)) ∙ so_far.is)

  pub all_numbers : (k : ℕ) (now all : FinMap path_order ℕ) → length own ≤ k → SummedTo k now all → now ≡ all
  all_numbers k now all past so_far = ap (λ z. with_counts now (counts_from (λ i. paths (k + i)) z)) (sym (drop_past own k past)) ∙ so_far.is

-- ---- those whose fork has closed

module _ (past : List PastSteps) where
  pub record PastSummedTo (k : ℕ) (now all : FinMap path_order ℕ) : Type 0 where
    pub is : with_counts now (map count_in (drop k past)) ≡ all

  pub no_past_yet : (m : FinMap path_order ℕ) → PastSummedTo 0 m (with_counts m (map count_in past))
  no_past_yet m = record { is = refl }

  pub one_past_summed : (k : ℕ) (x : PastSteps) (now next all : FinMap path_order ℕ) → drop k past ≡ x ∷ drop (k + 1) past → next ≡ with_counts now (count_in x ∷ []) → PastSummedTo k now all → PastSummedTo (k + 1) next all
  one_past_summed k x now next all d is so_far =
      record { is = ap (λ z. with_counts z (map count_in (drop (k + 1) past))) is ∙ (ap (λ z. with_counts now (map count_in z)) (sym d) ∙ so_far.is) }

  pub past_is_few : (k : ℕ) (x : PastSteps) (most : ℕ) (now all : FinMap path_order ℕ) → drop k past ≡ x ∷ drop (k + 1) past → ((p : Path) → count_of all p ≤ most) → PastSummedTo k now all → count_of now x.path + x.count ≤ most
  past_is_few k x most now all d few so_far =
      stays_few now (count_in x) (map count_in (drop (k + 1) past)) most (λ q. subst (λ (z : FinMap path_order ℕ). count_of z q ≤ most) (sym (ap (λ z. with_counts now (map count_in z)) (sym d) ∙ so_far.is)) (few q))

  pub all_past : (k : ℕ) (now all : FinMap path_order ℕ) → length past ≤ k → PastSummedTo k now all → now ≡ all
  all_past k now all end so_far = ap (λ z. with_counts now (map count_in z)) (sym (drop_past past k end)) ∙ so_far.is

-- ---- both

-- what was summed up of both is what is counted
pub both_summed : (none mid end : FinMap path_order ℕ) (es fs : List StepCount) → none ≡ empty → mid ≡ with_counts none es → end ≡ with_counts mid fs → end ≡ counted (es ++ fs)
both_summed none mid end es fs e h g = g ∙ (ap (λ z. with_counts z fs) (h ∙ ap (λ z. with_counts z es) e) ∙ (sym (with_both empty es fs) ∙ all_summed (es ++ fs)))

-- no count is greater in between than those of all
pub first_few : (none : FinMap path_order ℕ) (es fs : List StepCount) (most : ℕ) → none ≡ empty → ((p : Path) → count_of (counted (es ++ fs)) p ≤ most) → (p : Path) → count_of (with_counts none es) p ≤ most
first_few none es fs most e few p =
    let more = all_grow fs (with_counts none es) p in
    let whole : count_of (with_counts (with_counts none es) fs) p ≡ count_of (counted (es ++ fs)) p = ap (λ z. count_of z p) (both_summed none (with_counts none es) (with_counts (with_counts none es) fs) es fs e refl refl) in
    let all = few p in
    omega (arith, more, whole, all)

pub second_few : (none mid : FinMap path_order ℕ) (es fs : List StepCount) (most : ℕ) → none ≡ empty → mid ≡ with_counts none es → ((p : Path) → count_of (counted (es ++ fs)) p ≤ most) → (p : Path) → count_of (with_counts mid fs) p ≤ most
second_few none mid es fs most e h few p =
    subst (λ (z : FinMap path_order ℕ). count_of z p ≤ most) (sym (both_summed none mid (with_counts mid fs) es fs e h refl)) (few p)

-- no process has a count above the number of all events
pub counts_are_few : {S : Type 0} (o : Ops S) (v : RunStateView S) → RunStateInvariant o v → (p : Path) → count_of (tree_in o v).counts p ≤ 4000000
counts_are_few o v kept p =
    let one = below_sum (tree_in o v).counts p in
    let all = kept.few in
    omega (arith, one, all)
