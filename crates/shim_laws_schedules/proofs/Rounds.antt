-- In a system in which events may change places, a run leads on to what as many rounds give.
use Rattle.std.proofs.Common.{◌≡◌, ℕ, zero, suc, ◌≤◌, Option, Some, None, List, [], ◌∷◌, ◌++◌, length, ◌⊎◌, refl, sym, ap, subst, ◌∙◌, inl, inr, arith}
use Rattle.shim_semantics.specs.Systems.{on_some, run, IsInvariant}
use Rattle.shim_base.specs.Lists.{IsAmong}
use Rattle.shim_semantics.proofs.HowMany.{no_less_than}
use Rattle.shim_laws_schedules.specs.Orders.{IsDiamond, or_same, do_all, rounds_of}
use Rattle.shim_laws_schedules.proofs.Lengths.{went_on}
use Rattle.shim_base.proofs.Facts.{some_same, none_some}

-- each enabled event is listed
abbrev pub ListsAll : {E T : Type 0} → (E → T → Option T) → (T → List E) → Type 0
ListsAll {E} {T} step walk = (t a : T) (e : E) → step e t ≡ Some a → IsAmong e (walk t)

-- where a run of at most n events leads, a further run leads on to what n rounds give
abbrev pub LeadsToRounds : {E T : Type 0} → (E → T → Option T) → (T → Type 0) → (T → List E) → Type 0
LeadsToRounds {E} {T} step sound walk =
    (n : ℕ) (t u : T) (es : List E) → sound t → run step es t ≡ Some u → length es ≤ n → (gs : List E) × (run step gs u ≡ Some (rounds_of step walk n t))

module _ {E T : Type 0} (step : E → T → Option T) where
  -- one run after another
  pub run_on : (es gs : List E) (t u v : T) → run step es t ≡ Some u → run step gs u ≡ Some v → run step (es ++ gs) t ≡ Some v
  run_on [] gs t u v r q = ap (run step gs) (some_same t u r) ∙ q
  run_on (e ∷ es) gs t u v r q =
      let x = went_on (run step es) (step e t) u r in
      ap (on_some (run step (es ++ gs))) x.1 ∙ run_on es gs x.0 u v x.2 q

  pub run_one : (e : E) (t u : T) → step e t ≡ Some u → run step (e ∷ []) t ≡ Some u
  run_one e t u h = ap (on_some (run step [])) h

module _ {E T : Type 0} (step : E → T → Option T) (sound : T → Type 0) (kept : IsInvariant step sound) where
  pub run_kept : (es : List E) (t u : T) → sound t → run step es t ≡ Some u → sound u
  run_kept [] t u s r = subst sound (some_same t u r) s
  run_kept (e ∷ es) t u s r = let x = went_on (run step es) (step e t) u r in run_kept es x.0 u (kept t s e x.0 x.1) x.2

  -- what a round does is a run
  do_all_run : (es : List E) (t : T) → sound t → (gs : List E) × (run step gs t ≡ Some (do_all step es t))
  do_all_run [] t s = ([], refl)
  do_all_run (e ∷ es) t s = by_case (step e t) (λ u h. do_all_run es u h) refl
    where
      by_case : (x : Option T) → ((u : T) → sound u → (gs : List E) × (run step gs u ≡ Some (do_all step es u))) → step e t ≡ x → (gs : List E) × (run step gs t ≡ Some (do_all step es (or_same t x)))
      by_case None later p = later t s
      by_case (Some u) later p = let w = later u (kept t s e u p) in (e ∷ w.0, ap (on_some (run step w.0)) p ∙ w.1)

module _ {E T : Type 0} (step : E → T → Option T) (sound : T → Type 0) (same : (e f : E) → (e ≡ f) ⊎ (e ≡ f → ⊥)) (diamond : IsDiamond step sound) (kept : IsInvariant step sound) where
  -- two runs from one state, after which both are at the same: what the one still does is no longer than the other was
  record Meets (es : List E) (u w : T) : Type 0 where
    end : T
    from_second : List E
    from_first : List E
    second : run step from_second w ≡ Some end
    first : run step from_first u ≡ Some end
    no_longer : length from_second ≤ length es

  within : (g : E) (xs : List E) → length xs ≤ length (g ∷ xs)
  within g xs = omega arith

  both_longer : (g : E) (xs ys : List E) → length xs ≤ length ys → length (g ∷ xs) ≤ length (g ∷ ys)
  both_longer g xs ys h = omega arith

  -- one event against a run
  one_run : (t u b : T) (es : List E) (f : E) → sound t → run step es t ≡ Some u → step f t ≡ Some b → Meets es u b
  one_run t u b [] f s r e = record { end = b; from_second = []; from_first = f ∷ []; second = refl; first = run_one step f u b (ap (step f) (sym (some_same t u r)) ∙ e); no_longer = omega arith }
  one_run t u b (g ∷ es) f s r e =
      let x = went_on (run step es) (step g t) u r in
      elim (same g f) [
        | inl p ↦
            let is : x.0 ≡ b = some_same _ _ (sym x.1 ∙ (ap (λ z. step z t) p ∙ e)) in
            record { end = u; from_second = es; from_first = []; second = subst (λ z. run step es z ≡ Some u) is x.2; first = refl; no_longer = within g es }
        | inr n ↦
            let d = diamond g f t x.0 b s n x.1 e in
            let w = one_run x.0 u d.0 es f (kept t s g x.0 x.1) x.2 d.1 in
            record { end = w.end; from_second = g ∷ w.from_second; from_first = w.from_first; second = ap (on_some (run step w.from_second)) d.2 ∙ w.second; first = w.first; no_longer = both_longer g w.from_second es w.no_longer }
      ]

  two_runs : (t u w : T) (es rs : List E) → sound t → run step es t ≡ Some u → run step rs t ≡ Some w → Meets es u w
  two_runs t u w es [] s r q = record { end = u; from_second = es; from_first = []; second = ap (run step es) (sym (some_same t w q)) ∙ r; first = refl; no_longer = omega arith }
  two_runs t u w es (f ∷ rs) s r q =
      let x = went_on (run step rs) (step f t) w q in
      let a = one_run t u x.0 es f s r x.1 in
      let b = two_runs x.0 a.end w a.from_second rs (kept t s f x.0 x.1) a.second x.2 in
      record {
        end = b.end;
        from_second = b.from_second;
        from_first = a.from_first ++ b.from_first;
        second = b.second;
        first = run_on step a.from_first b.from_first u a.end b.end a.first b.first;
        no_longer = no_less_than (length es) (length a.from_second) (length b.from_second) b.no_longer a.no_longer;
      }

  -- an event that a round does may be done first
  first_in_round : (es : List E) (t a : T) (e : E) → sound t → IsAmong e es → step e t ≡ Some a → (gs : List E) × (run step gs a ≡ Some (do_all step es t))
  first_in_round [] t a e s among p = absurd among
  first_in_round (f ∷ fs) t a e s among p = by_case (step f t) (λ u b h m q. first_in_round fs u b e h m q) refl
    where
      rest : (e ≡ f → ⊥) → IsAmong e fs
      rest n = elim among [ inl q ↦ absurd (n q) | inr z ↦ z ]

      by_case : (x : Option T) → ((u b : T) → sound u → IsAmong e fs → step e u ≡ Some b → (gs : List E) × (run step gs b ≡ Some (do_all step fs u))) → step f t ≡ x → (gs : List E) × (run step gs a ≡ Some (do_all step fs (or_same t x)))
      by_case None later q = later t a s (rest (λ z. none_some a (sym q ∙ (ap (λ y. step y t) (sym z) ∙ p)))) p
      by_case (Some u) later q = elim (same e f) [
        | inl z ↦
            let is : a ≡ u = some_same a u (sym p ∙ (ap (λ y. step y t) z ∙ q)) in
            let w = do_all_run step sound kept fs u (kept t s f u q) in
            (w.0, ap (run step w.0) is ∙ w.1)
        | inr n ↦
            let d = diamond e f t a u s n p q in
            let w = later u d.0 (kept t s f u q) (rest n) d.2 in
            (f ∷ w.0, ap (on_some (run step w.0)) d.1 ∙ w.1)
      ]

  pub leads_to_rounds : (walk : T → List E) → ListsAll step walk → LeadsToRounds step sound walk
  leads_to_rounds walk listed zero t u [] s r h = ([], sym r)
  leads_to_rounds walk listed zero t u (e ∷ es) s r h = absurd (omega arith)
  leads_to_rounds walk listed (suc n) t u [] s r h =
      let after = do_all step (walk t) t in
      let x = do_all_run step sound kept (walk t) t s in
      let w = leads_to_rounds walk listed n after after [] (run_kept step sound kept x.0 t after s x.1) refl (omega arith) in
      (x.0 ++ w.0, run_on step x.0 w.0 u after (rounds_of step walk (suc n) t) (ap (run step x.0) (sym (some_same t u r)) ∙ x.1) w.1)
  leads_to_rounds walk listed (suc n) t u (e ∷ es) s r h =
      let after = do_all step (walk t) t in
      let x = went_on (run step es) (step e t) u r in
      let y = first_in_round (walk t) t x.0 e s (listed t x.0 e x.1) x.1 in
      let next = kept t s e x.0 x.1 in
      let z = two_runs x.0 u after es y.0 next x.2 y.1 in
      let l = z.no_longer in
      let w = leads_to_rounds walk listed n after z.end z.from_second (run_kept step sound kept y.0 x.0 after next y.1) z.second (omega arith) in
      (z.from_first ++ w.0, run_on step z.from_first w.0 u z.end (rounds_of step walk (suc n) t) z.first w.1)
