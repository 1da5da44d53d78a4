-- In a system in which events may change places, all runs that come to rest are as long and end at the same.
use Rattle.std.proofs.Common.{◌≡◌, suc, Option, Some, None, List, [], ◌∷◌, length, ◌⊎◌, refl, sym, ap, subst, ◌∙◌, inl, inr, arith}
use Rattle.shim_semantics.specs.Systems.{on_some, run, IsInvariant}
use Rattle.shim_laws_schedules.specs.Orders.{IsAtRest, IsDiamond, HasOneLength}
use Rattle.shim_base.proofs.Facts.{some_same, none_some}

pub went_on : {T : Type 0} (f : T → Option T) (x : Option T) (u : T) → on_some f x ≡ Some u → (t : T) × (x ≡ Some t) × (f t ≡ Some u)
went_on f None u e = none_some u e
went_on f (Some t) u e = (t, refl, e)

module _ {E T : Type 0} (step : E → T → Option T) (sound : T → Type 0) (same : (e f : E) → (e ≡ f) ⊎ (e ≡ f → ⊥)) (diamond : IsDiamond step sound) (kept : IsInvariant step sound) where
  one_longer : (g : E) (xs : List E) → length (g ∷ xs) ≡ suc (length xs)
  one_longer g xs = omega arith

  -- what is left of a run that ends at rest, where one event was done first
  left : (t u b : T) (es : List E) (f : E) → sound t → run step es t ≡ Some u → IsAtRest step u → step f t ≡ Some b
      → (gs : List E) × (run step gs b ≡ Some u) × (length es ≡ suc (length gs))
  left t u b [] f s r q e = none_some b (sym (q f) ∙ (ap (step f) (sym (some_same t u r)) ∙ e))
  left t u b (g ∷ es) f s r q e =
      let x = went_on (run step es) (step g t) u r in
      elim (same g f) [
        | inl p ↦
            let is : x.0 ≡ b = some_same _ _ (sym x.1 ∙ (ap (λ z. step z t) p ∙ e)) in
            (es, subst (λ z. run step es z ≡ Some u) is x.2, one_longer g es)
        | inr n ↦
            let d = diamond g f t x.0 b s n x.1 e in
            let rest = left x.0 u d.0 es f (kept t s g x.0 x.1) x.2 q d.1 in
            (g ∷ rest.0, ap (on_some (run step rest.0)) d.2 ∙ rest.1, omega (arith, rest.2, one_longer g es, one_longer g rest.0))
      ]

  -- a run of no event that is at rest is the only one
  none_run : (t u w : T) (es : List E) → run step es t ≡ Some u → Some t ≡ Some w → IsAtRest step w → (length {A = E} [] ≡ length es) × (w ≡ u)
  none_run t u w [] r e q = (refl, some_same w t (sym e) ∙ some_same t u r)
  none_run t u w (g ∷ es) r e q =
      let x = went_on (run step es) (step g t) u r in
      none_some x.0 (sym (q g) ∙ (ap (step g) (sym (some_same t w e)) ∙ x.1))

  pub one_length : HasOneLength step sound
  one_length t u es s r q w [] e = (omega arith, λ z. none_run t u w es r e z)
  one_length t u es s r q w (f ∷ fs) e =
      let x = went_on (run step fs) (step f t) w e in
      let rest = left t u x.0 es f s r q x.1 in
      let more = one_length x.0 u rest.0 (kept t s f x.0 x.1) rest.1 q w fs x.2 in
      (omega (arith, more.0, rest.2), λ z. let m = more.1 z in (omega (arith, m.0, rest.2), m.1))
