-- One process did steps of its own, which are counted by its number.
use Rattle.std.proofs.Common.{◌≡◌, ◌≤◌, ◌+◌, ℕ, zero, suc, Option, Some, None, List, [], ◌∷◌, ◌++◌, length, slice_set, refl, sym, ap, subst, ◌∙◌, arith}
use Rattle.std.specs.Prelude.{slice_get, unwrap_or, cond}
use Rattle.std.specs.FinMap.{FinMap, get, values, get-insert}
use Rattle.std.specs.Cmp.{eq_by_cmp_equiv}
use Rattle.std.proofs.lemmas.List.{length-set}
use Rattle.shim_base.specs.Paths.{Path, path_order}
use Rattle.shim_base.specs.PathLaws.{path_order_total}
use Rattle.shim_base.proofs.Facts.{some_same}
use Rattle.shim_local.specs.Process.{Ops}
use Rattle.shim_semantics.specs.Trees.{sum, steps, count_of, with_step_counted}
use Rattle.shim_laws_table.specs.NodeStatus.{ProcessStatus}
use Rattle.shim_laws_table_events.specs.keeping.Tables.{HasProcessState}
use Rattle.shim_records.proofs.Stepping.{set_there}
use Rattle.shim_run_log.proofs.Mapped.{count_below}
use Rattle.shim_semantics.specs.Advancing.{steps_taken}
use Rattle.shim_process_table.specs.Stepping.{HasBecome}
use Rattle.shim_run_log.specs.Counted.{counted}
use Rattle.shim_run_state.specs.RunStates.{RunStateView, tree_in, path_at, counts_from}
use Rattle.shim_run_state.specs.Enqueueing.{HasCounted}
use Rattle.shim_run_state.proofs.Counts.{more, same}
use Rattle.shim_run_state.proofs.Events.{counts_in}
use Rattle.shim_run_state.proofs.Paths.{path_of, changed}

-- ---- no count is greater than that of all

one_counted : (m : FinMap path_order ℕ) (p : Path) → count_of (with_step_counted m p) p ≡ count_of m p + 1
one_counted m p = ap (λ x. unwrap_or x 0) (get-insert path_order_total m p (count_of m p + 1) p ∙ ap (λ b. cond b (Some (count_of m p + 1)) (get m p)) ((eq_by_cmp_equiv path_order_total).refl p))

all_counted : (n : ℕ) (m : FinMap path_order ℕ) (p : Path) → count_of (steps_taken m p n) p ≡ count_of m p + n
all_counted zero m p = none_more (count_of m p)
  where
    none_more : (k : ℕ) → k ≡ k + 0
    none_more k = omega arith
all_counted (suc n) m p = all_counted n (with_step_counted m p) p ∙ (ap (λ z. z + n) (one_counted m p) ∙ one_later (count_of m p) n)
  where
    one_later : (k n : ℕ) → k + 1 + n ≡ k + suc n
    one_later k n = omega arith

below_all : (m : FinMap path_order ℕ) (p : Path) → count_of m p ≤ sum (values m)
below_all m p = on (get m p) refl
  where
    on : (x : Option ℕ) → get m p ≡ x → unwrap_or (get m p) 0 ≤ sum (values m)
    on None e = subst (λ (z : Option ℕ). unwrap_or z 0 ≤ sum (values m)) (sym e) (omega arith)
    on (Some n) e = subst (λ (z : Option ℕ). unwrap_or z 0 ≤ sum (values m)) (sym e) (count_below m p n e)

-- what is put back where it was
set_back : {A : Type 0} (xs : List A) (i : ℕ) (x y : A) → slice_get xs i ≡ Some x → slice_set (slice_set xs i y) i x ≡ xs
set_back [] i x y e = refl
set_back (z ∷ xs) zero x y e = ap (λ w. w ∷ xs) (some_same x z (sym e))
set_back (z ∷ xs) (suc i) x y e = ap (λ w. z ∷ w) (set_back xs i x y e)

module _ {S : Type 0} (o : Ops S) where
  pub count_is_few : (v : RunStateView S) (i f c : ℕ) (l : S) (k : ProcessStatus) → HasProcessState v.table i f l k → slice_get v.process_lists.own i ≡ Some c → c ≤ steps (tree_in o v)
  count_is_few v i f c l k has e =
      let p = o.path l in
      let others = counted (counts_from (path_at o v.table) (slice_set v.process_lists.own i 0) ++ v.past) in
      let all : counts_in o v ≡ steps_taken others p c =
      ap (λ z. counted (counts_from (path_at o v.table) z ++ v.past)) (sym (set_back v.process_lists.own i c 0 e) ∙ ap (slice_set (slice_set v.process_lists.own i 0) i) (none_first c))
      ∙ more (path_at o v.table) (slice_set v.process_lists.own i 0) v.past i p 0 c (path_of o v.table i f l k has) (set_there v.process_lists.own i c 0 e) in
      let is : count_of (counts_in o v) p ≡ count_of others p + c = ap (λ z. count_of z p) all ∙ all_counted c others p in
      let few = below_all (counts_in o v) p in
      omega (arith, is, few)
    where
      none_first : (c : ℕ) → c ≡ 0 + c
      none_first c = omega arith

  module _ (before behind : RunStateView S) (number f : ℕ) (l s : S) (h k : ProcessStatus) (has : HasProcessState before.table number f l h) (becomes : HasBecome number s k before.table behind.table) (path : o.path s ≡ o.path l) (past : behind.past ≡ before.past) where
    paths : (i : ℕ) → path_at o behind.table i ≡ path_at o before.table i
    paths = changed o before.table behind.table number f l s k h has becomes path

    -- it did so many steps more
    pub counts_more : (n : ℕ) → HasCounted number n before.process_lists.own behind.process_lists.own → counts_in o behind ≡ steps_taken (counts_in o before) (o.path l) n
    counts_more n c =
        (λ j. counted (counts_from (path_at o behind.table) (c.is j) ++ past j))
        ∙ (ap (λ z. counted (z ++ before.past)) (same (path_at o behind.table) (path_at o before.table) (slice_set before.process_lists.own number (c.count + n)) paths)
        ∙ more (path_at o before.table) before.process_lists.own before.past number (o.path l) c.count n (path_of o before.table number f l h has) c.there)

    -- or none
    pub counts_stay : behind.process_lists.own ≡ before.process_lists.own → counts_in o behind ≡ counts_in o before
    counts_stay own =
        (λ j. counted (counts_from (path_at o behind.table) (own j) ++ past j))
        ∙ ap (λ z. counted (z ++ before.past)) (same (path_at o behind.table) (path_at o before.table) before.process_lists.own paths)

pub as_many_counts : (number n : ℕ) (old new : List ℕ) → HasCounted number n old new → length new ≡ length old
as_many_counts number n old new c = ap length c.is ∙ length-set old number (c.count + n)
