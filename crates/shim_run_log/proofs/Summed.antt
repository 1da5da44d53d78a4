-- Entries are summed up one after another.
use Rattle.std.proofs.Common.{◌≡◌, ◌≤◌, ℕ, zero, suc, ◌+◌, Bool, true, false, Option, Some, None, List, [], ◌∷◌, ◌++◌, cond, refl, sym, ap, subst, ◌∙◌, arith}
use Rattle.std.specs.Option.{unwrap_or}
use Rattle.std.specs.Ordering.{eq_by_cmp}
use Rattle.std.specs.Cmp.{eq_by_cmp_equiv}
use Rattle.std.specs.FinMap.{FinMap, get, insert, empty, values, get-insert, same_map}
use Rattle.std.proofs.lemmas.List.{append-nil}
use Rattle.shim_base.specs.Paths.{Path, path_order}
use Rattle.shim_base.specs.PathLaws.{path_order_total, exact_path}
use Rattle.shim_semantics.specs.Trees.{sum, count_of, with_step_counted}
use Rattle.shim_semantics.specs.Advancing.{steps_taken}
use Rattle.shim_run_log.proofs.Mapped.{count_below}
use Rattle.shim_run_log.specs.Counted.{StepCount, counted}
use Rattle.shim_run_log.specs.Summed.{with_counts}
use Rattle.shim_run_log.proofs.Counted.{moved, count_more}

-- ---- steps that are taken one after another are there at once

same_key : (p : Path) → eq_by_cmp path_order p p ≡ true
same_key p = (eq_by_cmp_equiv path_order_total).refl p

mine_more : (m : FinMap path_order ℕ) (p : Path) → count_of (with_step_counted m p) p ≡ count_of m p + 1
mine_more m p = count_more m p p ∙ ap (λ b. cond b (count_of m p + 1) (count_of m p)) (same_key p)

over_again : (b : Bool) (x y : ℕ) (z : Option ℕ) → cond b (Some x) (cond b (Some y) z) ≡ cond b (Some x) z
over_again true x y z = refl
over_again false x y z = refl

pub at_once : (n : ℕ) (m : FinMap path_order ℕ) (p : Path) → steps_taken m p (suc n) ≡ insert m p (count_of m p + suc n)
at_once zero m p = refl
at_once (suc n) m p =
    let next : count_of (with_step_counted m p) p + suc n ≡ count_of m p + suc (suc n) = let w = mine_more m p in omega (arith, w) in
    at_once n (with_step_counted m p) p
    ∙ same_map path_order_total exact_path _ _ (λ q.
    get-insert path_order_total (with_step_counted m p) p (count_of (with_step_counted m p) p + suc n) q
    ∙ ap (cond (eq_by_cmp path_order q p) (Some (count_of (with_step_counted m p) p + suc n))) (get-insert path_order_total m p (count_of m p + 1) q)
    ∙ over_again (eq_by_cmp path_order q p) (count_of (with_step_counted m p) p + suc n) (count_of m p + 1) (get m q)
    ∙ ap (λ c. cond (eq_by_cmp path_order q p) (Some c) (get m q)) next
    ∙ sym (get-insert path_order_total m p (count_of m p + suc (suc n)) q))

-- some steps, whose number isn't 0
pub taken_at_once : (n : ℕ) (m : FinMap path_order ℕ) (p : Path) → (n ≡ 0 → ⊥) → steps_taken m p n ≡ insert m p (count_of m p + n)
taken_at_once zero m p some = absurd (some refl)
taken_at_once (suc n) m p some = at_once n m p

-- ---- entries added from the front are those that are counted

added : (fs es : List StepCount) → with_counts (counted fs) es ≡ counted (es ++ fs)
added fs [] = refl
added fs (e ∷ es) = added (e ∷ fs) es ∙ moved es fs e

pub all_summed : (es : List StepCount) → with_counts empty es ≡ counted es
all_summed es = added [] es ∙ ap counted (append-nil es)

pub with_both : (m : FinMap path_order ℕ) (es fs : List StepCount) → with_counts m (es ++ fs) ≡ with_counts (with_counts m es) fs
with_both m [] fs = refl
with_both m (e ∷ es) fs = with_both (steps_taken m e.path e.count) es fs

-- ---- counts only grow

grows_by : (b : Bool) (c : ℕ) → c ≤ cond b (c + 1) c
grows_by true c = omega arith
grows_by false c = omega arith

grows : (n : ℕ) (m : FinMap path_order ℕ) (p q : Path) → count_of m q ≤ count_of (steps_taken m p n) q
grows zero m p q = omega arith
grows (suc n) m p q =
    let one = count_more m p q in
    let step = grows_by (eq_by_cmp path_order q p) (count_of m q) in
    let rest = grows n (with_step_counted m p) p q in
    omega (arith, one, step, rest)

pub all_grow : (es : List StepCount) (m : FinMap path_order ℕ) (q : Path) → count_of m q ≤ count_of (with_counts m es) q
all_grow [] m q = omega arith
all_grow (e ∷ es) m q =
    let one = grows e.count m e.path q in
    let rest = all_grow es (steps_taken m e.path e.count) q in
    omega (arith, one, rest)

taken_by : (n : ℕ) (m : FinMap path_order ℕ) (p : Path) → count_of (steps_taken m p n) p ≡ count_of m p + n
taken_by zero m p = none (count_of m p)
  where
    none : (k : ℕ) → k ≡ k + 0
    none k = omega arith
taken_by (suc n) m p =
    let one = mine_more m p in
    let rest = taken_by n (with_step_counted m p) p in
    omega (arith, one, rest)

pub below_sum : (m : FinMap path_order ℕ) (p : Path) → count_of m p ≤ sum (values m)
below_sum m p = on (get m p) refl
  where
    on : (x : Option ℕ) → get m p ≡ x → unwrap_or (get m p) 0 ≤ sum (values m)
    on None e = subst (λ (z : Option ℕ). unwrap_or z 0 ≤ sum (values m)) (sym e) (omega arith)
    on (Some n) e = subst (λ (z : Option ℕ). unwrap_or z 0 ≤ sum (values m)) (sym e) (count_below m p n e)

-- so where none is greater than this in the end, none becomes so before
pub stays_few : (m : FinMap path_order ℕ) (e : StepCount) (es : List StepCount) (most : ℕ) → ((q : Path) → count_of (with_counts m (e ∷ es)) q ≤ most) → count_of m e.path + e.count ≤ most
stays_few m e es most h =
    let mine = taken_by e.count m e.path in
    let rest = all_grow es (steps_taken m e.path e.count) e.path in
    let all = h e.path in
    omega (arith, mine, rest, all)
