-- Steps of several processes are counted in any order.
use Rattle.std.proofs.Common.{◌≡◌, ℕ, zero, suc, ◌+◌, Bool, true, false, Some, List, [], ◌∷◌, ◌++◌, cond, refl, sym, ap, ◌∙◌, arith}
use Rattle.std.specs.Prelude.{slice_get, slice_set}
use Rattle.std.specs.Option.{unwrap_or}
use Rattle.std.specs.Ordering.{eq_by_cmp}
use Rattle.std.specs.FinMap.{FinMap, get, get-insert, same_map}
use Rattle.std.proofs.lemmas.List.{append-nil}
use Rattle.shim_base.specs.Paths.{Path, path_order}
use Rattle.shim_base.specs.PathLaws.{path_order_total, exact_path}
use Rattle.shim_base.proofs.Facts.{some_same, none_some}
use Rattle.shim_semantics.specs.Trees.{count_of, with_step_counted}
use Rattle.shim_semantics.specs.Advancing.{steps_taken}
use Rattle.shim_run_log.proofs.Mapped.{tied}
use Rattle.shim_run_log.specs.Counted.{StepCount, counted, StepCountsFollow}

Counts : Type 0
Counts = FinMap path_order ℕ

-- what one more makes of a map, key by key
get_more : (m : FinMap path_order ℕ) (p q : Path) → get (with_step_counted m p) q ≡ cond (eq_by_cmp path_order q p) (Some (count_of m q + 1)) (get m q)
get_more m p q = get-insert path_order_total m p (count_of m p + 1) q ∙ on (eq_by_cmp path_order q p) refl
  where
    on : (b : Bool) → eq_by_cmp path_order q p ≡ b → cond b (Some (count_of m p + 1)) (get m q) ≡ cond b (Some (count_of m q + 1)) (get m q)
    on true t = ap (λ k. Some (count_of m k + 1)) (sym (exact_path q p (tied (path_order q p) t)))
    on false t = refl

pub count_more : (m : FinMap path_order ℕ) (p q : Path) → count_of (with_step_counted m p) q ≡ cond (eq_by_cmp path_order q p) (count_of m q + 1) (count_of m q)
count_more m p q = ap (λ x. unwrap_or x 0) (get_more m p q) ∙ on (eq_by_cmp path_order q p)
  where
    on : (b : Bool) → unwrap_or (cond b (Some (count_of m q + 1)) (get m q)) 0 ≡ cond b (count_of m q + 1) (count_of m q)
    on true = refl
    on false = refl

both : (m : FinMap path_order ℕ) (p q r : Path) → get (with_step_counted (with_step_counted m p) q) r ≡ cond (eq_by_cmp path_order r q) (Some (cond (eq_by_cmp path_order r p) (count_of m r + 1) (count_of m r) + 1)) (cond (eq_by_cmp path_order r p) (Some (count_of m r + 1)) (get m r))
both m p q r = get_more (with_step_counted m p) q r ∙ (λ i. cond (eq_by_cmp path_order r q) (Some (count_more m p r i + 1)) (get_more m p r i))

-- one step of each of two processes
two : (m : FinMap path_order ℕ) (p q : Path) → with_step_counted (with_step_counted m p) q ≡ with_step_counted (with_step_counted m q) p
two m p q = same_map path_order_total exact_path _ _ (λ r. both m p q r ∙ on (eq_by_cmp path_order r p) (eq_by_cmp path_order r q) r ∙ sym (both m q p r))
  where
    on : (a b : Bool) (r : Path) → cond b (Some (cond a (count_of m r + 1) (count_of m r) + 1)) (cond a (Some (count_of m r + 1)) (get m r)) ≡ cond a (Some (cond b (count_of m r + 1) (count_of m r) + 1)) (cond b (Some (count_of m r + 1)) (get m r))
    on true true r = refl
    on true false r = refl
    on false true r = refl
    on false false r = refl

one_and_many : (n : ℕ) (m : FinMap path_order ℕ) (p q : Path) → steps_taken (with_step_counted m p) q n ≡ with_step_counted (steps_taken m q n) p
one_and_many zero m p q = refl
one_and_many (suc n) m p q = ap (λ z. steps_taken z q n) (two m p q) ∙ one_and_many n (with_step_counted m q) p q

pub commute : (n k : ℕ) (m : FinMap path_order ℕ) (p q : Path) → steps_taken (steps_taken m p n) q k ≡ steps_taken (steps_taken m q k) p n
commute zero k m p q = refl
commute (suc n) k m p q = commute n k (with_step_counted m p) p q ∙ ap (λ z. steps_taken z p n) (one_and_many k m p q)

pub taken_sum : (n k : ℕ) (m : FinMap path_order ℕ) (p : Path) → steps_taken m p (n + k) ≡ steps_taken (steps_taken m p n) p k
taken_sum zero k m p = ap (steps_taken m p) (none_first k)
  where
    none_first : (k : ℕ) → 0 + k ≡ k
    none_first k = omega arith
taken_sum (suc n) k m p = ap (steps_taken m p) (one_first n k) ∙ taken_sum n k (with_step_counted m p) p
  where
    one_first : (n k : ℕ) → suc n + k ≡ suc (n + k)
    one_first n k = omega arith

more : (es : List StepCount) (i : ℕ) (p : Path) (c n : ℕ) → slice_get es i ≡ Some (record { path = p; count = c }) → counted (slice_set es i (record { path = p; count = c + n })) ≡ steps_taken (counted es) p n
more [] i p c n e = none_some (record { path = p; count = c }) e
more (x ∷ es) zero p c n e =
    let is = some_same x (record { path = p; count = c }) e in
    taken_sum c n (counted es) p ∙ ap (λ z. steps_taken (steps_taken (counted es) z.path z.count) p n) (sym is)
more (x ∷ es) (suc i) p c n e = ap (λ z. steps_taken z x.path x.count) (more es i p c n e) ∙ commute n x.count (counted es) p x.path

-- an entry anywhere is as one at the front
pub moved : (es fs : List StepCount) (e : StepCount) → counted (es ++ e ∷ fs) ≡ counted (e ∷ es ++ fs)
moved [] fs e = refl
moved (x ∷ es) fs e = ap (λ z. steps_taken z x.path x.count) (moved es fs e) ∙ commute e.count x.count (counted (es ++ fs)) e.path x.path

pub swapped : (es fs : List StepCount) → counted (es ++ fs) ≡ counted (fs ++ es)
swapped [] fs = ap counted (sym (append-nil fs))
swapped (e ∷ es) fs = ap (λ z. steps_taken z e.path e.count) (swapped es fs) ∙ sym (moved fs es e)

pub step_counts_follow : StepCountsFollow
step_counts_follow = record { more = more; swapped = swapped; none = λ es fs p. moved es fs (record { path = p; count = 0 }) }
