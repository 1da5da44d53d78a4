-- What is accepted: a program that obeys the sharing rule, in its units.
use Rattle.std.specs.Prelude.{◌≡◌, Option, Some, None, Result, Ok, Err}
use Rattle.shim_scopes.specs.declared.form.Form.{Form as Resolved}
use Rattle.shim_units.specs.declared.form.Form.{Form}
use Rattle.shim_sharing.specs.declared.fault.ShareFault.{ShareFault}
use Rattle.shim_sharing.specs.declared.fault.ShareFault.TheVariants.{TwoWriters, Alias, NoMemory}
use Rattle.shim_sharing.specs.Refusals.{refusal}
use Rattle.shim_units.specs.Units.{lifted}

-- the units where there is no fault, and else the fault
abbrev pub unless_refused : Option ShareFault → Form → Result Form ShareFault
unless_refused None form = Ok form
unless_refused (Some fault) form = Err fault

-- the units of a program that obeys the sharing rule; of any other program the fault at the first place that the rule refuses
abbrev pub accepted : Resolved → Result Form ShareFault
accepted p = unless_refused (refusal p) (lifted p)

-- the answer is the one that is meant, and `NoMemory` may come in its place
abbrev pub Gives : {T : Type 0} → Result T ShareFault → Result T ShareFault → Type 0
Gives (Ok t) meant = meant ≡ Ok t
Gives (Err (TwoWriters line name first second)) meant = meant ≡ Err (TwoWriters line name first second)
Gives (Err (Alias line name)) meant = meant ≡ Err (Alias line name)
Gives (Err NoMemory) meant = Unit {0}

-- If the answer is a fault other than `NoMemory`, the fault has the property P.
abbrev pub IfRefused : {T : Type 0} → Result T ShareFault → (ShareFault → Type 0) → Type 0
IfRefused (Ok t) P = Unit {0}
IfRefused (Err (TwoWriters line name first second)) P = P (TwoWriters line name first second)
IfRefused (Err (Alias line name)) P = P (Alias line name)
IfRefused (Err NoMemory) P = Unit {0}

-- the fault is the one that is meant, or `NoMemory` in its place
abbrev pub IsMeantFault : ShareFault → ShareFault → Type 0
IsMeantFault (TwoWriters line name first second) meant = meant ≡ TwoWriters line name first second
IsMeantFault (Alias line name) meant = meant ≡ Alias line name
IsMeantFault NoMemory meant = Unit {0}

-- what passes isn't refused, and a refusal is the one that is meant; `NoMemory` claims nothing
abbrev pub Passes : Result (Unit {0}) ShareFault → Option ShareFault → Type 0
Passes (Ok t) refused = refused ≡ None
Passes (Err (TwoWriters line name first second)) refused = refused ≡ Some (TwoWriters line name first second)
Passes (Err (Alias line name)) refused = refused ≡ Some (Alias line name)
Passes (Err NoMemory) refused = Unit {0}
