-- What a refusal that is passed on says of the rule.
use Rattle.std.proofs.Common.{◌≡◌, Some, None, Result, Ok, Err, IsErr, IsErrAnd, sym, subst}
use Rattle.shim_scopes.specs.declared.form.Form.{Form as Resolved}
use Rattle.shim_units.specs.Rule.{Obeys}
use Rattle.shim_sharing.specs.declared.fault.ShareFault.{ShareFault}
use Rattle.shim_sharing.specs.declared.fault.ShareFault.TheVariants.{TwoWriters, Alias, NoMemory}
use Rattle.shim_sharing.specs.Accepting.{Passes, IfRefused}
use Rattle.shim_sharing.specs.Laws.{IsFirstRefusal}
use Rattle.shim_sharing.specs.Refusals.{refusal}
use Rattle.shim_sharing.proofs.FirstPlace.{first_refusal}
use Rattle.shim_sharing.proofs.Rule.{none_where_obeyed}

-- what holds of a program's refusal holds of the fault that doesn't pass
of_fault : (T : Type 0) (p : Resolved) (P : ShareFault → Type 0) (e : ShareFault) → ((fault : ShareFault) → refusal p ≡ Some fault → P fault) → Passes (Err e) (refusal p) → IfRefused {T = T} (Err e) P
of_fault T p P (TwoWriters line name first second) f passes = f (TwoWriters line name first second) passes
of_fault T p P (Alias line name) f passes = f (Alias line name) passes
of_fault T p P NoMemory f passes = tt

passed_on : {T : Type 0} (p : Resolved) (P : ShareFault → Type 0) (e : ShareFault) (r : Result T ShareFault)
    → ((fault : ShareFault) → refusal p ≡ Some fault → P fault) → IsErr r × IsErrAnd r (λ y. y ≡ e) → Passes (Err e) (refusal p) → IfRefused r P
passed_on p P e (Ok t) f w passes = absurd w.1
passed_on {T = T} p P e (Err y) f w passes = subst (λ u. IfRefused {T = T} (Err u) P) (sym w.1) (of_fault T p P e f passes)

not_obeyed : (p : Resolved) (fault : ShareFault) → refusal p ≡ Some fault → Obeys p → ⊥
not_obeyed p fault is obeys = let none : refusal p ≡ None = none_where_obeyed p obeys in absurd (cc)

pub refused : {T : Type 0} (p : Resolved) (e : ShareFault) (r : Result T ShareFault) → IsErr r × IsErrAnd r (λ y. y ≡ e) → Passes (Err e) (refusal p) → IfRefused r (λ fault. Obeys p → ⊥)
refused p e r w passes = passed_on p (λ fault. Obeys p → ⊥) e r (not_obeyed p) w passes

pub first : {T : Type 0} (p : Resolved) (e : ShareFault) (r : Result T ShareFault) → IsErr r × IsErrAnd r (λ y. y ≡ e) → Passes (Err e) (refusal p) → IfRefused r (IsFirstRefusal p)
first p e r w passes = passed_on p (IsFirstRefusal p) e r (first_refusal p) w passes
