-- What the greatest of several statuses says of the meanings that have them.
use Rattle.std.proofs.Common.{◌≡◌, ◌≤◌, ◌<◌, ◌⊎◌, ◌↔◌, ℕ, zero, suc, max, List, [], ◌∷◌, map, length, slice_index_or, All, Any, inl, inr, refl, sym, ◌∙◌, subst, arith}
use Rattle.std.proofs.lemmas.List.Elements.{All-cons, All-head, All-nil, All-tail, All-weaker}
use Rattle.shim_process.specs.OwnSlots.{UsesOwnSlots}
use Rattle.shim_results.specs.RunEnds.{Execution, end_of, status_of, IsBlocked, IsDone, IsFailed, IsSpent}
use Rattle.shim_results.specs.Batches.{greatest}
use Rattle.shim_results.proofs.Causes.{DecidesCause, decides_blocked, decides_done, decides_failed, decides_spent}
use Rattle.shim_results.proofs.Statuses.{end_below, end_not_two}

larger : (m n : ℕ) → (max m n ≡ m) ⊎ (max m n ≡ n)
larger zero n = inr (omega arith)
larger (suc m) zero = inl (omega arith)
larger (suc m) (suc n) = more (larger m n) where
  more : (max m n ≡ m) ⊎ (max m n ≡ n) → (max (suc m) (suc n) ≡ suc m) ⊎ (max (suc m) (suc n) ≡ suc n)
  more (inl is) = inl (omega (arith, is))
  more (inr is) = inr (omega (arith, is))

module _ {A : Type 0} (P : A → Type 0) where
  any_first : (x : A) (xs : List A) → P x → Any P (x ∷ xs)
  any_first x xs p = (0, x, omega arith, refl, p)

  any_later : (x : A) (xs : List A) → Any P xs → Any P (x ∷ xs)
  any_later x xs (k, y, below, at, p) = (suc k, y, omega (arith, below), at, p)

any_weaker : {A : Type 0} (P Q : A → Type 0) → ((x : A) → P x → Q x) → (xs : List A) → Any P xs → Any Q xs
any_weaker P Q f xs (k, y, below, at, p) = (k, y, below, at, f y p)

-- an element that there is doesn't depend on the default
any_default : {A : Type 0} (xs : List A) (k : ℕ) (d e : A) → k < length xs → slice_index_or xs k d ≡ slice_index_or xs k e
any_default [] k d e below = absurd (omega (arith, below))
any_default (x ∷ xs) zero d e below = refl
any_default (x ∷ xs) (suc k) d e below = any_default xs k d e (omega (arith, below))

module _ {A : Type 0} (s : A → ℕ) where
  -- none is greater than the greatest
  none_greater : (xs : List A) → All (λ x. s x ≤ greatest (map s xs)) xs
  none_greater [] = All-nil (λ x. s x ≤ 0)
  none_greater (x ∷ xs) =
      All-cons (λ y. s y ≤ max (s x) (greatest (map s xs))) x xs (omega arith)
      (All-weaker (λ y. s y ≤ greatest (map s xs)) (λ y. s y ≤ max (s x) (greatest (map s xs))) (λ y few. omega (arith, few)) xs (none_greater xs))

  -- where that isn't 0, one has it
  one_has : (xs : List A) → 1 ≤ greatest (map s xs) → Any (λ x. s x ≡ greatest (map s xs)) xs
  one_has [] some = absurd (omega (arith, some))
  one_has (x ∷ xs) some = by_larger (one_has xs) (larger (s x) (greatest (map s xs))) where
    by_larger : (1 ≤ greatest (map s xs) → Any (λ y. s y ≡ greatest (map s xs)) xs) → (max (s x) (greatest (map s xs)) ≡ s x) ⊎ (max (s x) (greatest (map s xs)) ≡ greatest (map s xs))
        → Any (λ y. s y ≡ max (s x) (greatest (map s xs))) (x ∷ xs)
    by_larger later (inl is) = any_first (λ y. s y ≡ max (s x) (greatest (map s xs))) x xs (sym is)
    by_larger later (inr is) =
        any_later (λ y. s y ≡ max (s x) (greatest (map s xs))) x xs
        (any_weaker (λ y. s y ≡ greatest (map s xs)) (λ y. s y ≡ max (s x) (greatest (map s xs))) (λ y e. e ∙ sym is) xs (later (omega (arith, some, is))))

  greatest_within : (n : ℕ) (xs : List A) → All (λ x. s x ≤ n) xs → greatest (map s xs) ≤ n
  greatest_within n [] few = omega arith
  greatest_within n (x ∷ xs) few = let here = All-head (λ y. s y ≤ n) x xs few in let there = greatest_within n xs (All-tail (λ y. s y ≤ n) x xs few) in omega (arith, here, there)

  -- one that is had, and that none is greater than
  is_greatest : (n : ℕ) (xs : List A) → Any (λ x. s x ≡ n) xs → All (λ x. s x ≤ n) xs → greatest (map s xs) ≡ n
  is_greatest n xs (k, x, below, at, is) few =
      let low : s x ≤ greatest (map s xs) = subst (λ (y : A). s y ≤ greatest (map s xs)) at (none_greater xs k x below) in
      let high = greatest_within n xs few in
      omega (arith, low, high, is)

-- of executions whose sources use slots of their own
module _ (xs : List Execution) (own : All (λ x. UsesOwnSlots x.source) xs) where
  abbrev top : ℕ
  top = greatest (map status_of xs)

  -- one has the status where one has its cause
  one_by : (n : ℕ) (Cause : Execution → Type 0) → DecidesCause n Cause → Any (λ x. status_of x ≡ n) xs → Any Cause xs
  one_by n Cause tell (k, x, below, at, is) = (k, x, below, at, tell.only x (subst (λ (y : Execution). UsesOwnSlots y.source) at (own k x below)) is)

  has_one : (n : ℕ) (Cause : Execution → Type 0) → DecidesCause n Cause → Any Cause xs → Any (λ x. status_of x ≡ n) xs
  has_one n Cause tell (k, x, below, at, cause) = (k, x, below, at, tell.when x (subst (λ (y : Execution). UsesOwnSlots y.source) at (own k x below)) cause)

  -- one has the cause of the greatest
  top_by : (n : ℕ) (Cause : Execution → Type 0) → DecidesCause n Cause → 1 ≤ n → top ≡ n → Any Cause xs
  top_by n Cause tell some is = one_by n Cause tell (any_weaker (λ x. status_of x ≡ top) (λ x. status_of x ≡ n) (λ x e. e ∙ is) xs (one_has status_of xs (omega (arith, some, is))))

  -- and none that of a greater one
  none_by : (n : ℕ) (Cause : Execution → Type 0) → DecidesCause n Cause → suc top ≤ n → Any Cause xs → ⊥
  none_by n Cause tell over cause = above (has_one n Cause tell cause) where
    above : Any (λ x. status_of x ≡ n) xs → ⊥
    above (k, x, below, at, is) = let low : status_of x ≤ top = subst (λ (y : Execution). status_of y ≤ top) at (none_greater status_of xs k x below) in omega (arith, low, over, is)

  -- no one at a place has the status, where no one has its cause
  not_at : (n : ℕ) (Cause : Execution → Type 0) → DecidesCause n Cause → (Any Cause xs → ⊥) → (k : ℕ) (d : Execution) → k < length xs → status_of (slice_index_or xs k d) ≡ n → ⊥
  not_at n Cause tell none k d below is = none (one_by n Cause tell (k, slice_index_or xs k d, below, any_default xs k (slice_index_or xs k d) d below, is))

  pub all_done : (top ≡ 0) ↔ All IsDone xs
  all_done = (
    λ is k d below. let few = none_greater status_of xs k d below in decides_done.only (slice_index_or xs k d) (own k d below) (omega (arith, few, is)),
    λ done. let few = greatest_within status_of 0 xs (λ k d below. let is = decides_done.when (slice_index_or xs k d) (own k d below) (done k d below) in omega (arith, is)) in omega (arith, few),
  )

  few_at : (k : ℕ) (d : Execution) → status_of (slice_index_or xs k d) < 5
  few_at k d = end_below (end_of (slice_index_or xs k d)).outcome

  pub one_spent : (top ≡ 4) ↔ Any IsSpent xs
  one_spent = (
    λ is. top_by 4 IsSpent decides_spent (omega arith) is,
    λ spent. is_greatest status_of 4 xs (has_one 4 IsSpent decides_spent spent) (λ k d below. let few = few_at k d in omega (arith, few)),
  )

  pub one_blocked : (top ≡ 3) ↔ (Any IsBlocked xs × (Any IsSpent xs → ⊥))
  one_blocked = (
    λ is. (top_by 3 IsBlocked decides_blocked (omega arith) is, none_by 4 IsSpent decides_spent (omega (arith, is))),
    λ h. is_greatest status_of 3 xs (has_one 3 IsBlocked decides_blocked h.0)
        (λ k d below. let few = few_at k d in let four = not_at 4 IsSpent decides_spent h.1 k d below in omega (arith, few, four)),
  )

  pub one_failed : (top ≡ 1) ↔ (Any IsFailed xs × (Any IsBlocked xs → ⊥) × (Any IsSpent xs → ⊥))
  one_failed = (
    λ is. (top_by 1 IsFailed decides_failed (omega arith) is, none_by 3 IsBlocked decides_blocked (omega (arith, is)), none_by 4 IsSpent decides_spent (omega (arith, is))),
    λ h. is_greatest status_of 1 xs (has_one 1 IsFailed decides_failed h.0)
        (λ k d below.
        let few = few_at k d in
        let two = end_not_two (end_of (slice_index_or xs k d)).outcome in
        let three = not_at 3 IsBlocked decides_blocked h.1 k d below in
        let four = not_at 4 IsSpent decides_spent h.2 k d below in
        omega (arith, few, two, three, four)),
  )
