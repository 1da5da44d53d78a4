-- The own steps of all processes, counted by number.
use Rattle.std.proofs.Common.{◌≡◌, ◌⊎◌, inl, inr, ℕ, zero, suc, ◌+◌, Option, Some, None, List, [], ◌∷◌, ◌++◌, refl, sym, ap, ◌∙◌}
use Rattle.std.specs.Prelude.{slice_get, slice_set}
use Rattle.std.proofs.lemmas.List.{append_assoc}
use Rattle.shim_base.specs.Paths.{Path}
use Rattle.shim_base.proofs.Facts.{some_same, none_some}
use Rattle.shim_semantics.specs.Advancing.{steps_taken}
use Rattle.shim_run_log.specs.Counted.{StepCount, counted}
use Rattle.shim_run_log.proofs.Counted.{commute, taken_sum, moved}
use Rattle.shim_run_state.specs.RunStates.{entry, counts_from}

-- an entry of one number in front
pub front : (k : Option Path) (n : ℕ) (es fs : List StepCount) → counted es ≡ counted fs → counted (entry k n ++ es) ≡ counted (entry k n ++ fs)
front None n es fs h = h
front (Some p) n es fs h = ap (λ z. steps_taken z p n) h

front_more : (k : Option Path) (m : ℕ) (es fs : List StepCount) (p : Path) (n : ℕ) → counted es ≡ steps_taken (counted fs) p n → counted (entry k m ++ es) ≡ steps_taken (counted (entry k m ++ fs)) p n
front_more None m es fs p n h = h
front_more (Some q) m es fs p n h = ap (λ z. steps_taken z q m) h ∙ commute n m (counted fs) p q

-- the process of a number does so many steps more
pub more : (f : ℕ → Option Path) (ns : List ℕ) (past : List StepCount) (i : ℕ) (p : Path) (c n : ℕ) → f i ≡ Some p → slice_get ns i ≡ Some c
    → counted (counts_from f (slice_set ns i (c + n)) ++ past) ≡ steps_taken (counted (counts_from f ns ++ past)) p n
more f [] past i p c n e h = none_some c h
more f (m ∷ ns) past zero p c n e h =
    let is : m ≡ c = some_same m c h in
    let rest = counts_from (λ i. f (suc i)) ns ++ past in
    ap (λ k. counted (entry k (c + n) ++ counts_from (λ i. f (suc i)) ns ++ past)) e ∙ (taken_sum c n (counted rest) p
    ∙ sym (λ t. steps_taken (counted (entry (e t) (is t) ++ counts_from (λ i. f (suc i)) ns ++ past)) p n))
more f (m ∷ ns) past (suc i) p c n e h =
    let go = more (λ i. f (suc i)) ns past i p c n e h in
    ap counted (append_assoc (entry (f 0) m) (counts_from (λ i. f (suc i)) (slice_set ns i (c + n))) past)
    ∙ (front_more (f 0) m (counts_from (λ i. f (suc i)) (slice_set ns i (c + n)) ++ past) (counts_from (λ i. f (suc i)) ns ++ past) p n go
    ∙ ap (λ z. steps_taken (counted z) p n) (sym (append_assoc (entry (f 0) m) (counts_from (λ i. f (suc i)) ns) past)))

-- where each number has the same path
pub same : (f g : ℕ → Option Path) (ns : List ℕ) → ((i : ℕ) → f i ≡ g i) → counts_from f ns ≡ counts_from g ns
same f g [] h = refl
same f g (n ∷ ns) h = λ t. entry (h 0 t) n ++ same (λ i. f (suc i)) (λ i. g (suc i)) ns (λ i. h (suc i)) t

-- where a number that isn't in use gets another count
pub unused : (f : ℕ → Option Path) (ns : List ℕ) (i n : ℕ) → f i ≡ None → counts_from f (slice_set ns i n) ≡ counts_from f ns
unused f [] i n e = refl
unused f (m ∷ ns) zero n e = λ t. entry_none (f 0) n m e t ++ counts_from (λ i. f (suc i)) ns
  where
    entry_none : (k : Option Path) (n m : ℕ) → k ≡ None → entry k n ≡ entry k m
    entry_none None n m e = refl
    entry_none (Some p) n m e = none_some p (sym e)
unused f (m ∷ ns) (suc i) n e = ap (λ z. entry (f 0) m ++ z) (unused (λ i. f (suc i)) ns i n e)

-- where numbers come into use whose counts are 0
pub fresh : (f g : ℕ → Option Path) (ns : List ℕ) (past : List StepCount) → ((i : ℕ) → (g i ≡ f i) ⊎ ((f i ≡ None) × (slice_get ns i ≡ Some 0)))
    → counted (counts_from g ns ++ past) ≡ counted (counts_from f ns ++ past)
fresh f g [] past h = refl
fresh f g (n ∷ ns) past h =
    let go = fresh (λ i. f (suc i)) (λ i. g (suc i)) ns past (λ i. h (suc i)) in
    ap counted (append_assoc (entry (g 0) n) (counts_from (λ i. g (suc i)) ns) past)
    ∙ (on (f 0) (g 0) (h 0) (counts_from (λ i. g (suc i)) ns ++ past) (counts_from (λ i. f (suc i)) ns ++ past) go
    ∙ ap counted (sym (append_assoc (entry (f 0) n) (counts_from (λ i. f (suc i)) ns) past)))
  where
    nothing : (k : Option Path) (es : List StepCount) → n ≡ 0 → counted (entry k n ++ es) ≡ counted es
    nothing None es e = refl
    nothing (Some p) es e = ap (steps_taken (counted es) p) e

    on : (a b : Option Path) → (b ≡ a) ⊎ ((a ≡ None) × (Some n ≡ Some 0)) → (es fs : List StepCount) → counted es ≡ counted fs → counted (entry b n ++ es) ≡ counted (entry a n ++ fs)
    on a b (inl e) es fs go = ap (λ k. counted (entry k n ++ es)) e ∙ front a n es fs go
    on a b (inr w) es fs go = nothing b es (some_same n 0 w.1) ∙ (go ∙ sym (ap (λ k. counted (entry k n ++ fs)) w.0))

-- where some numbers go out of use, whose counts are kept after those of the others
pub split : (f g h : ℕ → Option Path) (ns : List ℕ) (past : List StepCount) → ((i : ℕ) → ((g i ≡ f i) × (h i ≡ None)) ⊎ ((g i ≡ None) × (h i ≡ f i)))
    → counted (counts_from f ns ++ past) ≡ counted (counts_from g ns ++ (counts_from h ns ++ past))
split f g h [] past w = refl
split f g h (n ∷ ns) past w =
    let f' = counts_from (λ i. f (suc i)) ns in
    let g' = counts_from (λ i. g (suc i)) ns in
    let h' = counts_from (λ i. h (suc i)) ns in
    let go = split (λ i. f (suc i)) (λ i. g (suc i)) (λ i. h (suc i)) ns past (λ i. w (suc i)) in
    ap counted (append_assoc (entry (f 0) n) f' past)
    ∙ (front (f 0) n (f' ++ past) (g' ++ (h' ++ past)) go
    ∙ (on (f 0) (g 0) (h 0) (w 0) g' (h' ++ past)
    ∙ (ap (λ z. counted (entry (g 0) n ++ (g' ++ z))) (sym (append_assoc (entry (h 0) n) h' past))
    ∙ ap counted (sym (append_assoc (entry (g 0) n) g' ((entry (h 0) n ++ h') ++ past))))))
  where
    put : (k : Option Path) (es fs : List StepCount) → counted (entry k n ++ (es ++ fs)) ≡ counted (es ++ (entry k n ++ fs))
    put None es fs = refl
    put (Some p) es fs = sym (moved es fs (record { path = p; count = n }))

    on : (a b c : Option Path) → ((b ≡ a) × (c ≡ None)) ⊎ ((b ≡ None) × (c ≡ a)) → (es fs : List StepCount) → counted (entry a n ++ (es ++ fs)) ≡ counted (entry b n ++ (es ++ (entry c n ++ fs)))
    on a b c (inl e) es fs = λ t. counted (entry (sym e.0 t) n ++ (es ++ (entry (sym e.1 t) n ++ fs)))
    on a b c (inr e) es fs = put a es fs ∙ (λ t. counted (entry (sym e.0 t) n ++ (es ++ (entry (sym e.1 t) n ++ fs))))
