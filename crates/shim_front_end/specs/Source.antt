-- What a source is: the text of a program that is accepted.
use Rattle.std.specs.Prelude.{◌≡◌, ℕ, List, Result, Ok, Err}
use Rattle.shim_syntax.specs.declared.Program.{Program}
use Rattle.shim_syntax.specs.Text.{IsText}
use Rattle.shim_scopes.specs.declared.form.Form.{Form as Resolved}
use Rattle.shim_scopes.specs.declared.ScopeFault.TheVariants.{Refused}
use Rattle.shim_scopes.specs.Refusals.{Refusal}
use Rattle.shim_scopes.specs.Functions.{bind_program}
use Rattle.shim_units.specs.declared.form.Form.{Form}
use Rattle.shim_sharing.specs.declared.ShareFault.{ShareFault}
use Rattle.shim_sharing.specs.Accepting.{accepted}
use Rattle.shim_front_end.specs.declared.fault.SourceFault.{SourceFault}
use Rattle.shim_front_end.specs.declared.fault.SourceFault.TheVariants.{Parse, Scope, Share}

-- what is run: a program in its units
abbrev pub Source : Type 0
Source = Form

-- the answer of the sharing rule, with its fault as a fault of a source
abbrev pub sharing_result : Result Form ShareFault → Result Form SourceFault
sharing_result (Ok form) = Ok form
sharing_result (Err fault) = Err (Share fault)

-- The answer of the sharing rule to a bound program. A refusal of binding is a fault of a source.
abbrev pub bound : Result Resolved Refusal → Result Form SourceFault
bound (Ok resolved) = sharing_result (accepted resolved)
bound (Err r) = Err (Scope (Refused r.line r.kind r.name))

-- the units of a program, or its first fault: binding comes before the sharing rule
abbrev pub checked : Program → Result Form SourceFault
checked program = bound (bind_program program)

-- The bytes are the text of a program that is accepted, and these are its units: each name is bound, its variables are shared by the rule, and nothing of it is refused.
pub record IsSource (bytes : List ℕ) (source : Source) : Type 0 where
  pub program : Program
  pub text : IsText bytes program
  pub units : checked program ≡ Ok source
