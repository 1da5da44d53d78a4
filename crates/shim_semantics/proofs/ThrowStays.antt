-- A throw keeps a tree sound, be it that the process dies or stands trapped.
use Rattle.std.proofs.Common.{◌≡◌, ◌<◌, ℕ, ℤ, Option, Some, None, cond, inl, inr, refl, sym, subst, ltb, ltb-true, ltb-false}
use Rattle.shim_local.specs.Process.{Ops, AtThrow}
use Rattle.shim_local.specs.Laws.{LocalLaws, by_label, by_thrown}
use Rattle.shim_semantics.specs.Nodes.{Live, Dead, Death, death_with, handed}
use Rattle.shim_semantics.specs.Acts.{Acted, thrown, throwing, catch_logged, nothing}
use Rattle.shim_semantics.proofs.Follows.{Stays, KeepsOwn, same_stays, stays_keeps_own}
use Rattle.shim_semantics.proofs.CallStays.{call_stays}
use Rattle.shim_semantics.proofs.QuietKeeps.{unwind_keeps}
use Rattle.shim_base.proofs.Facts.{true_or_false}

module _ {S : Type 0} (o : Ops S) where
  pub death_stays : (l : S) (d : Death) → o.sound l → d.label < o.base l → Stays o (Live l) (Dead l d)
  death_stays l d s h = same_stays o (Live l) (Dead l d) (record { below_base = h; sound = s }) refl refl

  pub thrown_keeps : LocalLaws o → (l : S) (d : Death) → o.sound l → d.label < o.handlers l → KeepsOwn o (Live l) (thrown o l d).node
  thrown_keeps law l d s h =
      let x = d.label in
      let v = handed d.given in
      let dies : Acted S = record { node = Dead l d; effects = nothing } in
      let goes_on : Acted S = record { node = Live (o.unwind l x v); effects = catch_logged (o.handler l x) } in
      elim (true_or_false (ltb x (o.base l))) [
        | inl y ↦ subst (λ b. KeepsOwn o (Live l) (cond b dies goes_on).node) (sym y) (stays_keeps_own o (Live l) (Dead l d) (death_stays l d s (ltb-true x (o.base l) y)))
        | inr n ↦ subst (λ b. KeepsOwn o (Live l) (cond b dies goes_on).node) (sym n) (unwind_keeps o law l (o.unwind l x v) s (by_label x v (ltb-false x (o.base l) n) h refl))
      ]

  pub throwing_keeps : LocalLaws o → (l : S) (x : ℕ) (r : Option ℤ) → o.sound l → o.stop l ≡ AtThrow x → KeepsOwn o (Live l) (throwing o l x r).node
  throwing_keeps law l x None s at = stays_keeps_own o (Live l) (Live (o.thrown l)) (call_stays o law l (o.thrown l) s (by_thrown x at refl))
  throwing_keeps law l x (Some v) s at = thrown_keeps law l (death_with x v) s (law.throw_below l x s at)
