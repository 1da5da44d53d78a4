-- Who throws a label below its base dies of it, with its number.
use Rattle.std.proofs.Common.{◌≡◌, ◌<◌, ℕ, ℤ, Some, cond, ltb, sym, subst, lt-ltb}
use Rattle.shim_local.specs.Process.{Ops}
use Rattle.shim_semantics.specs.Nodes.{Live, Dead, Death, handed}
use Rattle.shim_semantics.specs.Acts.{Acted, nothing, catch_logged, thrown}
use Rattle.shim_laws_schedules.proofs.Numbers.{DiedWith}

module _ {S : Type 0} (o : Ops S) where
  pub died_thrown : (l : S) (d : Death) (x : ℕ) (v : ℤ) → d.label < o.base l → d.label ≡ x → d.given ≡ Some v → DiedWith x v (thrown o l d).node
  died_thrown l d x v low label given =
      let dies : Acted S = record { node = Dead l d; effects = nothing } in
      let goes_on : Acted S = record { node = Live (o.unwind l d.label (handed d.given)); effects = catch_logged (o.handler l d.label) } in
      subst (λ b. DiedWith x v (cond b dies goes_on).node) (sym (lt-ltb d.label (o.base l) low)) (label, given)
