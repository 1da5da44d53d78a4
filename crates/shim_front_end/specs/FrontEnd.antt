-- What the front end answers to a source.
use Rattle.std.specs.Prelude.{ℕ, ◌≡◌, List, Result, Ok, Err}
use Rattle.shim_syntax.specs.declared.Program.{Program}
use Rattle.shim_syntax.specs.Text.{IsText}
use Rattle.shim_parser.specs.declared.ParseFault.{ParseFault}
use Rattle.shim_parser.specs.declared.ParseFault.TheVariants as parse
use Rattle.shim_parser.specs.Parsing.{IsFaultOf}
use Rattle.shim_scopes.specs.declared.ScopeFault.TheVariants as scope
use Rattle.shim_sharing.specs.declared.ShareFault.TheVariants as share
use Rattle.shim_units.specs.declared.form.Form.{Form}
use Rattle.shim_front_end.specs.declared.fault.SourceFault.{SourceFault}
use Rattle.shim_front_end.specs.declared.fault.SourceFault.TheVariants.{Parse, Scope, Share}
use Rattle.shim_front_end.specs.Source.{checked}

-- the bytes are the text of this program and of no other, and have no fault
pub record IsOnlyText (bytes : List ℕ) (program : Program) : Type 0 where
  pub text : IsText bytes program
  pub only : (other : Program) → IsText bytes other → other ≡ program
  pub faultless : (fault : ParseFault) → IsFaultOf bytes fault → ⊥

-- the bytes have this fault and no other, and are the text of no program
pub record IsOnlyFault (bytes : List ℕ) (fault : ParseFault) : Type 0 where
  pub faulty : IsFaultOf bytes fault
  pub only : (other : ParseFault) → IsFaultOf bytes other → other ≡ fault
  pub textless : (program : Program) → IsText bytes program → ⊥

-- the bytes are the text of one program alone, and checking it comes to this
abbrev pub ChecksTo : List ℕ → Result Form SourceFault → Type 0
ChecksTo bytes meant = (program : Program) × IsOnlyText bytes program × (checked program ≡ meant)

-- the bytes are the text of one program alone, which is accepted
abbrev pub IsOnlyAccepted : List ℕ → Program → Type 0
IsOnlyAccepted bytes program = IsOnlyText bytes program × (form : Form) × (checked program ≡ Ok form)

-- The fault is the one fault of bytes that are no text of a program, or the first that checking refuses in the program of the text. `NoMemory` claims nothing of the bytes.
abbrev pub IsFirstFault : List ℕ → SourceFault → Type 0
IsFirstFault bytes (Parse parse.NoMemory) = Unit {0}
IsFirstFault bytes (Parse fault) = IsOnlyFault bytes fault
IsFirstFault bytes (Scope scope.NoMemory) = Unit {0}
IsFirstFault bytes (Scope fault) = ChecksTo bytes (Err (Scope fault))
IsFirstFault bytes (Share share.NoMemory) = Unit {0}
IsFirstFault bytes (Share fault) = ChecksTo bytes (Err (Share fault))

-- the answer is the units of the one accepted program whose text the bytes are, or the first fault of the bytes
abbrev pub IsAnswerTo : List ℕ → Result Form SourceFault → Type 0
IsAnswerTo bytes (Ok source) = ChecksTo bytes (Ok source)
IsAnswerTo bytes (Err fault) = IsFirstFault bytes fault

-- the answer is the one accepted program whose text the bytes are, or the first fault of the bytes
abbrev pub IsProgramAnswerTo : List ℕ → Result Program SourceFault → Type 0
IsProgramAnswerTo bytes (Ok program) = IsOnlyAccepted bytes program
IsProgramAnswerTo bytes (Err fault) = IsFirstFault bytes fault
