-- What is reported of the first place of a program that the sharing rule refuses.
use Rattle.std.specs.Prelude.{ℕ, List, [], ◌∷◌, Option, Some, None}
use Rattle.std.specs.Option.{option_or}
use Rattle.shim_scopes.specs.declared.tree.RFunction.{RFunction}
use Rattle.shim_scopes.specs.declared.form.Form.{Form as Resolved}
use Rattle.shim_sharing.specs.declared.fault.ShareFault.{ShareFault}
use Rattle.shim_sharing.specs.declared.fault.ShareFault.TheVariants as refuses
use Rattle.shim_sharing.specs.declared.found.Offence.{Offence}
use Rattle.shim_sharing.specs.declared.found.Offence.TheVariants.{TwoWriters, Alias}
use Rattle.shim_sharing.specs.Sharing.{first_offence}
use Rattle.shim_units.specs.Lifting.{name_of}
use Rattle.shim_units.specs.PartFold.{places_in}
use Rattle.shim_units.specs.Units.{name_or_mark}

-- an offence in the function `f` as the fault that is reported, with the name of its variable
abbrev pub share_fault : List (List ℕ) → RFunction → Offence → ShareFault
share_fault names f (TwoWriters line i j x) = refuses.TwoWriters line (name_or_mark names (name_of f x)) i j
share_fault names f (Alias line x) = refuses.Alias line (name_or_mark names (name_of f x))

-- the same of an offence that may be absent
abbrev pub fault_for : List (List ℕ) → RFunction → Option Offence → Option ShareFault
fault_for names f None = None
fault_for names f (Some offence) = Some (share_fault names f offence)

-- the fault at the first place of the function f that the sharing rule refuses, if any; `all` are the functions of the program
abbrev pub function_refusal : List (List ℕ) → List RFunction → RFunction → Option ShareFault
function_refusal names all f = fault_for names f (first_offence f.slots (places_in all f.body))

-- of the functions `fs` of a program, the refusal of the first that is refused; `all` are the functions of the program
abbrev pub refusal_in : List (List ℕ) → List RFunction → List RFunction → Option ShareFault
refusal_in names all [] = None
refusal_in names all (f ∷ fs) = option_or (function_refusal names all f) (refusal_in names all fs)

-- the fault at the first place of a program that the sharing rule refuses, if any
abbrev pub refusal : Resolved → Option ShareFault
refusal p = refusal_in p.names p.functions p.functions
