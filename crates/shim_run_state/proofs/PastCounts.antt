-- The counts of a block of numbers that goes out of use are kept after the others.
use Rattle.std.proofs.Common.{◌≡◌, ◌≢◌, ◌≤◌, ◌<◌, ◌+◌, ◌-◌, ◌⊎◌, inl, inr, ℕ, zero, suc, Bool, true, false, ◌&&◌, not, ltb, cond, Option, Some, None, List, [], ◌∷◌, ◌++◌, map, length, get_or, refl, sym, ap, ◌∙◌, arith}
use Rattle.std.specs.Prelude.{slice_get}
use Rattle.std.proofs.lemmas.Bool.{lt-ltb, le-ltb}
use Rattle.std.proofs.lemmas.List.{append_assoc}
use Rattle.std.proofs.lemmas.Option.{slice_get-get_or}
use Rattle.shim_base.specs.Paths.{Path}
use Rattle.shim_base.proofs.Facts.{some_same, none_some}
use Rattle.shim_records.proofs.Walked.{less_or_not}
use Rattle.shim_local.specs.Process.{Ops}
use Rattle.shim_laws_table_events.specs.keeping.Tables.{TableView}
use Rattle.shim_process_table.specs.Lookups.{IsInUse}
use Rattle.shim_semantics.specs.Advancing.{steps_taken}
use Rattle.shim_run_log.specs.Counted.{StepCount, counted}
use Rattle.shim_run_log.proofs.Counted.{swapped}
use Rattle.shim_run_state.specs.Fields.{count_in}
use Rattle.shim_run_state.specs.RunStates.{path_at, entry, counts_from}
use Rattle.shim_run_state.specs.declared.run_state.PastSteps.{PastSteps}
use Rattle.shim_run_state.specs.PastCounts.{only_block}
use Rattle.shim_run_state.proofs.Blocks.{in_block_or_not}
use Rattle.shim_run_state.proofs.Counts.{split}
use Rattle.shim_run_state.proofs.Paths.{path_of}

-- ---- item by item

abbrev block_by : ℕ → ℕ → (ℕ → Option Path) → ℕ → Option Path
block_by zero zero f i = None
block_by zero (suc n) f zero = f zero
block_by zero (suc n) f (suc i) = block_by zero n (λ j. f (suc j)) i
block_by (suc g) n f zero = None
block_by (suc g) n f (suc i) = block_by g n (λ j. f (suc j)) i

by_in : (g n i : ℕ) (f : ℕ → Option Path) → g ≤ i → i < g + n → block_by g n f i ≡ f i
by_in zero zero i f from less = absurd (omega (arith, less))
by_in zero (suc n) zero f from less = refl
by_in zero (suc n) (suc i) f from less = by_in zero n i (λ j. f (suc j)) (omega arith) (omega (arith, less))
by_in (suc g) n zero f from less = absurd (omega (arith, from))
by_in (suc g) n (suc i) f from less = by_in g n i (λ j. f (suc j)) (omega (arith, from)) (omega (arith, less))

by_out : (g n i : ℕ) (f : ℕ → Option Path) → (i < g) ⊎ (g + n ≤ i) → block_by g n f i ≡ None
by_out zero zero i f w = refl
by_out zero (suc n) zero f w = elim w [ inl l ↦ absurd (omega (arith, l)) | inr p ↦ absurd (omega (arith, p)) ]
by_out zero (suc n) (suc i) f w = by_out zero n i (λ j. f (suc j)) (elim w [ inl l ↦ absurd (omega (arith, l)) | inr p ↦ inr (omega (arith, p)) ])
by_out (suc g) n zero f w = refl
by_out (suc g) n (suc i) f w = by_out g n i (λ j. f (suc j)) (elim w [ inl l ↦ inl (omega (arith, l)) | inr p ↦ inr (omega (arith, p)) ])

none_from : (ns : List ℕ) → counts_from (λ i. None) ns ≡ []
none_from [] = refl
none_from (n ∷ ns) = none_from ns

by_none : (g : ℕ) (f : ℕ → Option Path) (ns : List ℕ) → counts_from (block_by g zero f) ns ≡ []
by_none g f [] = refl
by_none zero f (n ∷ ns) = none_from ns
by_none (suc g) f (n ∷ ns) = by_none g (λ j. f (suc j)) ns

by_more : (g n i : ℕ) (f : ℕ → Option Path) (ns : List ℕ) (p : Path) (c : ℕ) → i ≡ g + n → f i ≡ Some p → slice_get ns i ≡ Some c
    → counts_from (block_by g (suc n) f) ns ≡ counts_from (block_by g n f) ns ++ record { path = p; count = c } ∷ []
by_more g n i f [] p c at path there = none_some c there
by_more zero zero zero f (m ∷ ms) p c at path there =
    (λ j. entry (path j) (some_same m c there j) ++ none_from ms j) ∙ sym (ap (λ z. z ++ record { path = p; count = c } ∷ []) (none_from ms))
by_more zero zero (suc i) f (m ∷ ms) p c at path there = absurd (omega (arith, at))
by_more zero (suc n) zero f (m ∷ ms) p c at path there = absurd (omega (arith, at))
by_more zero (suc n) (suc i) f (m ∷ ms) p c at path there =
    ap (λ z. entry (f zero) m ++ z) (by_more zero n i (λ j. f (suc j)) ms p c (omega (arith, at)) path there)
    ∙ sym (append_assoc (entry (f zero) m) (counts_from (block_by zero n (λ j. f (suc j))) ms) (record { path = p; count = c } ∷ []))
by_more (suc g) n zero f (m ∷ ms) p c at path there = absurd (omega (arith, at))
by_more (suc g) n (suc i) f (m ∷ ms) p c at path there = by_more g n i (λ j. f (suc j)) ms p c (omega (arith, at)) path there

-- ---- by their bounds

only_in : (g n i : ℕ) (f : ℕ → Option Path) → g ≤ i → i < g + n → only_block g n f i ≡ f i
only_in g n i f from less = ap (λ (b : Bool). cond (not b && ltb i (g + n)) (f i) None) (le-ltb i g from) ∙ ap (λ (b : Bool). cond b (f i) None) (lt-ltb i (g + n) less)

never : {A : Type 0} (b : Bool) (x : Option A) → cond (b && false) x None ≡ None
never true x = refl
never false x = refl

only_out : (g n i : ℕ) (f : ℕ → Option Path) → (i < g) ⊎ (g + n ≤ i) → only_block g n f i ≡ None
only_out g n i f w = elim w [
  | inl l ↦ ap (λ (b : Bool). cond (not b && ltb i (g + n)) (f i) None) (lt-ltb i g l)
  | inr p ↦ ap (λ (b : Bool). cond (not (ltb i g) && b) (f i) None) (le-ltb i (g + n) p) ∙ never (not (ltb i g)) (f i)
]

outside : (first n i : ℕ) → ((b : ℕ) → b < n → i ≢ first + b) → (i < first) ⊎ (first + n ≤ i)
outside first n i out = elim (less_or_not i first) [
  | inl l ↦ inl l
  | inr from ↦ elim (less_or_not i (first + n)) [
    | inl less ↦ absurd (out (i - first) (omega (arith, from, less)) (omega (arith, from)))
    | inr past ↦ inr past
  ]
]

same_block : (g n : ℕ) (f : ℕ → Option Path) (i : ℕ) → only_block g n f i ≡ block_by g n f i
same_block g n f i = elim (in_block_or_not g n i) [
  | inl w ↦
      let e = w.2 in
      let less = w.1 in
      let from : g ≤ i = omega (arith, e) in
      let under : i < g + n = omega (arith, e, less) in
      only_in g n i f from under ∙ sym (by_in g n i f from under)
  | inr out ↦ let away = outside g n i out in only_out g n i f away ∙ sym (by_out g n i f away)
]

same_counts : (g n : ℕ) (f : ℕ → Option Path) (ns : List ℕ) → counts_from (only_block g n f) ns ≡ counts_from (block_by g n f) ns
same_counts g n f ns = let same : only_block g n f ≡ block_by g n f = λ k i. same_block g n f i k in ap (λ (z : ℕ → Option Path). counts_from z ns) same

-- of no numbers there are none
pub no_block : (g : ℕ) (f : ℕ → Option Path) (ns : List ℕ) → counts_from (only_block g zero f) ns ≡ []
no_block g f ns = same_counts g zero f ns ∙ by_none g f ns

-- and one number more comes last
pub block_more : (g n i : ℕ) (f : ℕ → Option Path) (ns : List ℕ) (p : Path) (c : ℕ) → i ≡ g + n → f i ≡ Some p → slice_get ns i ≡ Some c
    → counts_from (only_block g (suc n) f) ns ≡ counts_from (only_block g n f) ns ++ record { path = p; count = c } ∷ []
block_more g n i f ns p c at path there = same_counts g (suc n) f ns ∙ (by_more g n i f ns p c at path there ∙ ap (λ z. z ++ record { path = p; count = c } ∷ []) (sym (same_counts g n f ns)))

front_all : (xs es fs : List StepCount) → counted es ≡ counted fs → counted (xs ++ es) ≡ counted (xs ++ fs)
front_all [] es fs h = h
front_all (x ∷ xs) es fs h = ap (λ z. steps_taken z x.path x.count) (front_all xs es fs h)

-- So where the numbers of a block are used no more and their counts are kept, all is counted as before.
pub taken_out : (f g : ℕ → Option Path) (first n : ℕ) (ns : List ℕ) (past gathered : List StepCount) → ((b : ℕ) → b < n → g (first + b) ≡ None) → ((i : ℕ) → ((b : ℕ) → b < n → i ≢ first + b) → g i ≡ f i)
    → gathered ≡ counts_from (only_block first n f) ns → counted (counts_from g ns ++ (past ++ gathered)) ≡ counted (counts_from f ns ++ past)
taken_out f g first n ns past gathered gone still is =
    front_all (counts_from g ns) (past ++ gathered) (gathered ++ past) (swapped past gathered)
    ∙ (ap (λ z. counted (counts_from g ns ++ (z ++ past))) is ∙ sym (split f g (only_block first n f) ns past each))
  where
    each : (i : ℕ) → ((g i ≡ f i) × (only_block first n f i ≡ None)) ⊎ ((g i ≡ None) × (only_block first n f i ≡ f i))
    each i = elim (in_block_or_not first n i) [
      | inl w ↦ inr (ap g w.2 ∙ gone w.0 w.1, only_in first n i f (let e = w.2 in omega (arith, e)) (let e = w.2 in let less = w.1 in omega (arith, e, less)))
      | inr out ↦ inl (still i out, only_out first n i f (outside first n i out))
    ]

-- ---- as the code gathers them

pub mapped : {A B : Type 0} (f : A → B) (xs ys : List A) → map f (xs ++ ys) ≡ map f xs ++ map f ys
mapped f [] ys = refl
mapped f (x ∷ xs) ys = ap (λ z. f x ∷ z) (mapped f xs ys)

pub one_gathered : {S : Type 0} (o : Ops S) (v : TableView S) (own : List ℕ) (first branch number : ℕ) → number ≡ first + branch → (u : IsInUse v number) → (past now : List PastSteps) (p : Path) (c : ℕ) → p ≡ o.path u.1 → number < length own → c ≡ get_or own number 0
    → now ≡ past ++ record { path = p; count = c } ∷ [] → map count_in past ≡ counts_from (only_block first branch (path_at o v)) own → map count_in now ≡ counts_from (only_block first (branch + 1) (path_at o v)) own
one_gathered {S} o v own first branch number is u past now p c path within count e so =
    ap (map count_in) e ∙ (mapped count_in past (record { path = p; count = c } ∷ [])
    ∙ (ap (λ z. z ++ record { path = p; count = c } ∷ []) so
    ∙ (sym (block_more first branch number (path_at o v) own p c is (path_of o v number u.0 u.1 u.2 u.3 ∙ ap Some (sym path)) (slice_get-get_or own number 0 within ∙ ap Some (sym count)))
    ∙ ap (λ z. counts_from (only_block first z (path_at o v)) own) (next branch))))
  where
    next : (n : ℕ) → suc n ≡ n + 1
    next n = omega arith
