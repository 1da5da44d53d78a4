-- What each way out of the front end answers.
use Rattle.std.proofs.Common.{◌≡◌, ℕ, List, Result, Ok, Err, IsErr, IsErrAnd, ◌∙◌, ap, sym, subst}
use Rattle.shim_syntax.specs.declared.Program.{Program}
use Rattle.shim_parser.specs.declared.ParseFault.{ParseFault}
use Rattle.shim_parser.specs.declared.ParseFault.TheVariants.{Lex, Unexpected, TooDeep, TooMany, NoMemory}
use Rattle.shim_parser.specs.Parsing.{ParsesAs, IsOnly}
use Rattle.shim_scopes.specs.declared.form.Form.{Form as Resolved}
use Rattle.shim_scopes.specs.declared.ScopeFault.{ScopeFault}
use Rattle.shim_scopes.specs.declared.ScopeFault.TheVariants as scope
use Rattle.shim_scopes.specs.Refusals as binding
use Rattle.shim_scopes.specs.Functions.{bind_program}
use Rattle.shim_units.specs.declared.form.Form.{Form}
use Rattle.shim_sharing.specs.declared.ShareFault.{ShareFault}
use Rattle.shim_sharing.specs.declared.ShareFault.TheVariants as share
use Rattle.shim_sharing.specs.Accepting as sharing
use Rattle.shim_sharing.specs.Accepting.{accepted}
use Rattle.shim_front_end.specs.declared.fault.SourceFault.{SourceFault}
use Rattle.shim_front_end.specs.declared.fault.SourceFault.TheVariants.{Parse, Scope, Share}
use Rattle.shim_front_end.specs.Source.{bound, sharing_result}
use Rattle.shim_front_end.specs.FrontEnd.{IsOnlyText, IsAnswerTo, IsFirstFault, IsOnlyAccepted, IsProgramAnswerTo}
use Rattle.shim_front_end.proofs.Faults.{only_fault}

-- the program that the parser answers is the only one, and the text has no fault
pub only_text : (bytes : List ℕ) (p : Program) → ParsesAs bytes (Ok p) → IsOnly bytes (Ok p) → IsOnlyText bytes p
only_text bytes p text only = record { text = text; only = only.0; faultless = λ fault h. only.1 h.0 h.1 h.2 }

-- the text is of no program
pub of_text : (bytes : List ℕ) (fault : ParseFault) → ParsesAs bytes (Err fault) → IsOnly bytes (Err fault) → IsFirstFault bytes (Parse fault)
of_text bytes (Lex x) is only = only_fault bytes (Lex x) (λ e. cc) is only
of_text bytes (Unexpected at line) is only = only_fault bytes (Unexpected at line) (λ e. cc) is only
of_text bytes (TooDeep line) is only = only_fault bytes (TooDeep line) (λ e. cc) is only
of_text bytes (TooMany what line) is only = only_fault bytes (TooMany what line) (λ e. cc) is only
of_text bytes NoMemory is only = tt

-- a name of the program is refused
pub of_names : (bytes : List ℕ) (p : Program) (fault : ScopeFault) → IsOnlyText bytes p → binding.Gives {T = Resolved} (Err fault) (bind_program p) → IsFirstFault bytes (Scope fault)
of_names bytes p (scope.Refused line kind name) text refused = (p, text, ap bound refused)
of_names bytes p scope.NoMemory text refused = tt

-- its sharing is refused
pub of_sharing : (bytes : List ℕ) (p : Program) (r : Resolved) (fault : ShareFault) → IsOnlyText bytes p → bind_program p ≡ Ok r → sharing.Gives {T = Form} (Err fault) (accepted r) → IsFirstFault bytes (Share fault)
of_sharing bytes p r (share.TwoWriters line name first second) text is refused = (p, text, ap bound is ∙ ap sharing_result refused)
of_sharing bytes p r (share.Alias line name) text is refused = (p, text, ap bound is ∙ ap sharing_result refused)
of_sharing bytes p r share.NoMemory text is refused = tt

-- it is accepted
pub of_units : (bytes : List ℕ) (p : Program) (r : Resolved) (units : Form) → IsOnlyText bytes p → bind_program p ≡ Ok r → accepted r ≡ Ok units → IsAnswerTo bytes (Ok units)
of_units bytes p r units text is accept = (p, text, ap bound is ∙ ap sharing_result accept)

-- an answer that hands a fault on
pub handed_on : (bytes : List ℕ) (fault : SourceFault) (r : Result Form SourceFault) → IsErr r × IsErrAnd r (λ e. e ≡ fault) → IsFirstFault bytes fault → IsAnswerTo bytes r
handed_on bytes fault (Ok units) w is = absurd w.1
handed_on bytes fault (Err e) w is = subst (λ x. IsFirstFault bytes x) (sym w.1) is

pub handed_on_of_program : (bytes : List ℕ) (fault : SourceFault) (r : Result Program SourceFault) → IsErr r × IsErrAnd r (λ e. e ≡ fault) → IsFirstFault bytes fault → IsProgramAnswerTo bytes r
handed_on_of_program bytes fault (Ok program) w is = absurd w.1
handed_on_of_program bytes fault (Err e) w is = subst (λ x. IsFirstFault bytes x) (sym w.1) is

-- the program of an accepted text
pub of_program : (bytes : List ℕ) (p : Program) (r : Resolved) (units : Form) → IsOnlyText bytes p → bind_program p ≡ Ok r → accepted r ≡ Ok units → IsOnlyAccepted bytes p
of_program bytes p r units text is accept = (text, units, ap bound is ∙ ap sharing_result accept)
