-- Counts in which each process has its count before its first step.
use Rattle.std.specs.Prelude.{◌≡◌, ◌≤◌, ◌+◌, ℕ, zero, suc, Bool, true, false, not, eqb, Option, Some, None, List, [], ◌∷◌, ◌++◌, map, filter, cond, is_some}
use Rattle.std.proofs.Common.{refl, sym, ap, ◌∙◌, arith, T, eq-eqb}
use lib.Dec.{eqb-suc-zero}
use Rattle.std.specs.Option.{unwrap_or}
use Rattle.std.specs.Ordering.{eq_by_cmp}
use Rattle.std.specs.Cmp.{eq_by_cmp_equiv}
use Rattle.std.specs.FinMap.{FinMap, find, is_sorted, get, insert, values, entries, entries_sorted, empty, contains_key, from_entries, get-entries, get-from_entries, get-insert, same_map}
use Rattle.std.specs.FinMap.Entries.{below_all}
use Rattle.std.proofs.lemmas.Bool.{true≢false}
use Rattle.shim_base.specs.Paths.{Path, path_order}
use Rattle.shim_base.specs.PathLaws.{path_order_total, exact_path}
use Rattle.shim_semantics.specs.Trees.{sum, count_of, with_step_counted}
use Rattle.shim_run_log.specs.Maps.{has_stepped}
use Rattle.shim_semantics.specs.Endings.{own_steps}
use Rattle.shim_run_log.specs.Reserved.{stepped, HasCount, KeepsCounts, with_count, more_steps}
use Rattle.shim_semantics.specs.Advancing.{steps_taken}
use Rattle.shim_semantics.proofs.InOrder.{first_holds, second_holds, no_entries, none_below, entries_from, sorted_filtered}
use Rattle.shim_run_log.proofs.Mapped.{tied, count_below}

-- a count of 0 is left out, and each other one stays
left_out : (e : Path × ℕ) (es : List (Path × ℕ)) → e.1 ≡ 0 → filter has_stepped (e ∷ es) ≡ filter has_stepped es
left_out e es is = ap (λ b. cond (not b) (e ∷ filter has_stepped es) (filter has_stepped es)) (eq-eqb e.1 0 is)

stays_in : (e : Path × ℕ) (es : List (Path × ℕ)) (n : ℕ) → e.1 ≡ suc n → filter has_stepped (e ∷ es) ≡ e ∷ filter has_stepped es
stays_in e es n is = ap (λ b. cond (not b) (e ∷ filter has_stepped es) (filter has_stepped es)) (ap (λ z. eqb z 0) is ∙ eqb-suc-zero n)

pub one_and_rest : (e : Path × ℕ) (es : List (Path × ℕ)) → map own_steps (filter has_stepped (e ∷ [])) ++ map own_steps (filter has_stepped es) ≡ map own_steps (filter has_stepped (e ∷ es))
one_and_rest e es = at (has_stepped e)
  where
    at : (b : Bool) → map own_steps (cond b (e ∷ []) []) ++ map own_steps (filter has_stepped es) ≡ map own_steps (cond b (e ∷ filter has_stepped es) (filter has_stepped es))
    at true = refl
    at false = refl

-- what a map has at a key, unless it is 0
abbrev nonzero : Option ℕ → Option ℕ
nonzero None = None
nonzero (Some zero) = None
nonzero (Some (suc n)) = Some (suc n)

module _ (e : Path × ℕ) (es : List (Path × ℕ)) (q : Path) (status : T (below_all path_order e.0 es)) (go : find path_order q (filter has_stepped es) ≡ nonzero (find path_order q es)) where
  not_found : eq_by_cmp path_order q e.0 ≡ true → find path_order q (filter has_stepped es) ≡ None
  not_found t =
      go ∙ ap nonzero (ap (λ k. find path_order k es) (exact_path q e.0 (tied (path_order q e.0) t)) ∙ none_below path_order e.0 es status)

  at_none : (b : Bool) → eq_by_cmp path_order q e.0 ≡ b → find path_order q (filter has_stepped es) ≡ nonzero (cond b (Some 0) (find path_order q es))
  at_none true t = not_found t
  at_none false t = go

  at_some : (b : Bool) (n : ℕ) → cond b (Some (suc n)) (find path_order q (filter has_stepped es)) ≡ nonzero (cond b (Some (suc n)) (find path_order q es))
  at_some true n = refl
  at_some false n = go

  by_count : (c : ℕ) → e.1 ≡ c → find path_order q (filter has_stepped (e ∷ es)) ≡ nonzero (cond (eq_by_cmp path_order q e.0) (Some e.1) (find path_order q es))
  by_count zero is =
      ap (find path_order q) (left_out e es is) ∙ at_none (eq_by_cmp path_order q e.0) refl
      ∙ ap (λ c. nonzero (cond (eq_by_cmp path_order q e.0) (Some c) (find path_order q es))) (sym is)
  by_count (suc n) is =
      ap (find path_order q) (stays_in e es n is)
      ∙ ap (λ c. cond (eq_by_cmp path_order q e.0) (Some c) (find path_order q (filter has_stepped es))) is
      ∙ at_some (eq_by_cmp path_order q e.0) n
      ∙ ap (λ c. nonzero (cond (eq_by_cmp path_order q e.0) (Some c) (find path_order q es))) (sym is)

find_stepped : (es : List (Path × ℕ)) (q : Path) → T (is_sorted path_order es) → find path_order q (filter has_stepped es) ≡ nonzero (find path_order q es)
find_stepped [] q h = refl
find_stepped (e ∷ es) q h = by_count e es q (first_holds _ _ h) (find_stepped es q (second_holds _ _ h)) e.1 refl

get_stepped : (m : FinMap path_order ℕ) (q : Path) → get (stepped m) q ≡ nonzero (get m q)
get_stepped m q =
    get-from_entries path_order_total (filter has_stepped (entries m)) q
    ∙ find_stepped (entries m) q (entries_sorted m)
    ∙ ap nonzero (sym (get-entries m q))

pub entries_stepped : (m : FinMap path_order ℕ) → entries (stepped m) ≡ filter has_stepped (entries m)
entries_stepped m = entries_from path_order path_order_total (filter has_stepped (entries m)) (sorted_filtered path_order has_stepped (entries m) (entries_sorted m))

abbrev total : List (Path × ℕ) → ℕ
total es = sum (map (λ e. e.1) es)

one_total : (e : Path × ℕ) (es : List (Path × ℕ)) (c : ℕ) → e.1 ≡ c → total (filter has_stepped es) ≡ total es → total (filter has_stepped (e ∷ es)) ≡ e.1 + total es
one_total e es zero is rest =
    let none : total es ≡ e.1 + total es = omega (arith, is) in
    ap total (left_out e es is) ∙ (rest ∙ none)
one_total e es (suc n) is rest = ap total (stays_in e es n is) ∙ ap (λ z. e.1 + z) rest

sum_filtered : (es : List (Path × ℕ)) → total (filter has_stepped es) ≡ total es
sum_filtered [] = refl
sum_filtered (e ∷ es) = one_total e es e.1 refl (sum_filtered es)

-- the places of those that did no step yet add nothing
pub sum_stepped : (m : FinMap path_order ℕ) → sum (values (stepped m)) ≡ sum (values m)
sum_stepped m = ap total (entries_stepped m) ∙ sum_filtered (entries m)

pub none_stepped : stepped empty ≡ empty
none_stepped = ap (λ es. from_entries {R = path_order} (filter has_stepped es)) (no_entries path_order)

pub few_steps : (m : FinMap path_order ℕ) (p : Path) → count_of m p ≤ sum (values (stepped m))
few_steps m p = at (get m p) refl
  where
    at : (x : Option ℕ) → get m p ≡ x → unwrap_or x 0 ≤ sum (values (stepped m))
    at None e = omega arith
    at (Some n) e = omega (arith, count_below m p n e, sum_stepped m)

itself : (p : Path) → eq_by_cmp path_order p p ≡ true
itself p = (eq_by_cmp_equiv path_order_total).refl p

found_put : (m : FinMap path_order ℕ) (p : Path) (n : ℕ) → HasCount (insert m p n) p
found_put m p n = ap is_some (get-insert path_order_total m p n p ∙ ap (λ b. cond b (Some n) (get m p)) (itself p))

still_put : (m : FinMap path_order ℕ) (p : Path) (n : ℕ) → KeepsCounts m (insert m p n)
still_put m p n q h = ap is_some (get-insert path_order_total m p n q) ∙ at (eq_by_cmp path_order q p)
  where
    at : (b : Bool) → is_some (cond b (Some n) (get m q)) ≡ true
    at true = refl
    at false = h

pub placed : (m : FinMap path_order ℕ) (p : Path) → HasCount (with_count m p) p
placed m p = at (contains_key m p) refl
  where
    at : (b : Bool) → contains_key m p ≡ b → HasCount (cond b m (insert m p 0)) p
    at true h = h
    at false h = found_put m p 0

pub places_stay : (m : FinMap path_order ℕ) (p : Path) → KeepsCounts m (with_count m p)
places_stay m p q h = at (contains_key m p)
  where
    at : (b : Bool) → HasCount (cond b m (insert m p 0)) q
    at true = h
    at false = still_put m p 0 q h

pub more_stay : (m : FinMap path_order ℕ) (p : Path) (n : ℕ) → KeepsCounts m (more_steps m p n)
more_stay m p n = still_put m p (count_of m p + n)

nothing_there : (x : Option ℕ) → is_some x ≡ false → None ≡ nonzero x
nothing_there None e = refl
nothing_there (Some n) e = absurd (true≢false e)

-- a place is no step
pub steps_placed : (m : FinMap path_order ℕ) (p : Path) → stepped (with_count m p) ≡ stepped m
steps_placed m p = at (contains_key m p) refl
  where
    new : contains_key m p ≡ false → (q : Path) (b : Bool) → eq_by_cmp path_order q p ≡ b → nonzero (cond b (Some 0) (get m q)) ≡ nonzero (get m q)
    new h q true t = nothing_there (get m q) (ap (λ k. is_some (get m k)) (exact_path q p (tied (path_order q p) t)) ∙ h)
    new h q false t = refl

    at : (b : Bool) → contains_key m p ≡ b → stepped (cond b m (insert m p 0)) ≡ stepped m
    at true h = refl
    at false h = same_map path_order_total exact_path _ _ (λ q.
        get_stepped (insert m p 0) q
        ∙ ap nonzero (get-insert path_order_total m p 0 q)
        ∙ new h q (eq_by_cmp path_order q p) refl
        ∙ sym (get_stepped m q))

count_stepped : (m : FinMap path_order ℕ) (p : Path) → count_of (stepped m) p ≡ count_of m p
count_stepped m p = ap (λ x. unwrap_or x 0) (get_stepped m p) ∙ at (get m p)
  where
    at : (x : Option ℕ) → unwrap_or (nonzero x) 0 ≡ unwrap_or x 0
    at None = refl
    at (Some zero) = refl
    at (Some (suc n)) = refl

-- steps that are taken one after another are there at once
over_again : (b : Bool) (x y : ℕ) (z : Option ℕ) → cond b (Some x) (cond b (Some y) z) ≡ cond b (Some x) z
over_again true x y z = refl
over_again false x y z = refl

count_more : (m : FinMap path_order ℕ) (p : Path) → count_of (with_step_counted m p) p ≡ count_of m p + 1
count_more m p = ap (λ x. unwrap_or x 0) (get-insert path_order_total m p (count_of m p + 1) p ∙ ap (λ b. cond b (Some (count_of m p + 1)) (get m p)) (itself p))

get_taken : (n : ℕ) (m : FinMap path_order ℕ) (p q : Path) → get (steps_taken m p (suc n)) q ≡ cond (eq_by_cmp path_order q p) (Some (count_of m p + suc n)) (get m q)
get_taken zero m p q = get-insert path_order_total m p (count_of m p + 1) q
get_taken (suc n) m p q =
    let next : count_of (with_step_counted m p) p + suc n ≡ count_of m p + suc (suc n) = let w = count_more m p in omega (arith, w) in
    get_taken n (with_step_counted m p) p q
    ∙ ap (cond (eq_by_cmp path_order q p) (Some (count_of (with_step_counted m p) p + suc n))) (get-insert path_order_total m p (count_of m p + 1) q)
    ∙ over_again (eq_by_cmp path_order q p) _ _ (get m q)
    ∙ ap (λ c. cond (eq_by_cmp path_order q p) (Some c) (get m q)) next

none_more : (m : FinMap path_order ℕ) (p q : Path) → nonzero (cond (eq_by_cmp path_order q p) (Some (count_of m p + 0)) (get m q)) ≡ nonzero (get m q)
none_more m p q = at (eq_by_cmp path_order q p) refl
  where
    own : (x : Option ℕ) → nonzero (Some (unwrap_or x 0)) ≡ nonzero x
    own None = refl
    own (Some n) = refl

    at : (b : Bool) → eq_by_cmp path_order q p ≡ b → nonzero (cond b (Some (count_of m p + 0)) (get m q)) ≡ nonzero (get m q)
    at true t =
        let same : count_of m p + 0 ≡ count_of m p = omega arith in
        ap (λ c. nonzero (Some c)) same ∙ own (get m p) ∙ ap (λ k. nonzero (get m k)) (sym (exact_path q p (tied (path_order q p) t)))
    at false t = refl

some_more : (n : ℕ) (m : FinMap path_order ℕ) (p q : Path)
    → nonzero (cond (eq_by_cmp path_order q p) (Some (count_of m p + suc n)) (get m q)) ≡ cond (eq_by_cmp path_order q p) (Some (count_of m p + suc n)) (nonzero (get m q))
some_more n m p q = at (eq_by_cmp path_order q p)
  where
    next : count_of m p + suc n ≡ suc (count_of m p + n)
    next = omega arith

    at : (b : Bool) → nonzero (cond b (Some (count_of m p + suc n)) (get m q)) ≡ cond b (Some (count_of m p + suc n)) (nonzero (get m q))
    at true = ap (λ c. nonzero (Some c)) next ∙ ap Some (sym next)
    at false = refl

pub steps_more : (m : FinMap path_order ℕ) (p : Path) (n : ℕ) → stepped (more_steps m p n) ≡ steps_taken (stepped m) p n
steps_more m p zero = same_map path_order_total exact_path _ _ (λ q.
    get_stepped (more_steps m p 0) q
    ∙ ap nonzero (get-insert path_order_total m p (count_of m p + 0) q)
    ∙ none_more m p q
    ∙ sym (get_stepped m q))
steps_more m p (suc n) = same_map path_order_total exact_path _ _ (λ q.
    get_stepped (more_steps m p (suc n)) q
    ∙ ap nonzero (get-insert path_order_total m p (count_of m p + suc n) q)
    ∙ some_more n m p q
    ∙ sym (get_taken n (stepped m) p q
    ∙ (λ i. cond (eq_by_cmp path_order q p) (Some (count_stepped m p i + suc n)) (get_stepped m q i))))
