-- What a text comes to: its program, or its first fault.
use Rattle.std.specs.Prelude.{ℕ, ◌≡◌, List, Result, Ok, Err}
use Rattle.shim_base.specs.Tokens.{Place}
use Rattle.shim_syntax.specs.declared.tree.Program.{Program}
use Rattle.shim_syntax.specs.Same.{SameButLines}
use Rattle.shim_syntax.specs.Text as text
use Rattle.shim_syntax.specs.Text.{FaultCause, Lexical, IsText, HasFault}
use Rattle.shim_parser.specs.declared.fault.ParseFault.{ParseFault}
use Rattle.shim_parser.specs.declared.fault.ParseFault.TheVariants.{Lex, Unexpected, TooDeep, TooMany, NoMemory}

-- The value reports a fault of that cause at that place. Of nesting and of counts it has the line alone. `NoMemory` reports no fault of a text.
abbrev pub IsReportedAs : ParseFault → FaultCause → Place → Type 0
IsReportedAs (Lex f) fault place = (fault ≡ Lexical f.kind) × (place ≡ record { at = f.at; line = f.line })
IsReportedAs (Unexpected at line) fault place = (fault ≡ text.Unexpected) × (place ≡ record { at = at; line = line })
IsReportedAs (TooDeep line) fault place = (fault ≡ text.TooDeep) × (place.line ≡ line)
IsReportedAs (TooMany what line) fault place = (fault ≡ text.TooMany what) × (place.line ≡ line)
IsReportedAs NoMemory fault place = ⊥

-- a fault of the text
abbrev pub IsFaultOf : List ℕ → ParseFault → Type 0
IsFaultOf bytes fault = (f : FaultCause) × (place : Place) × HasFault bytes f place × IsReportedAs fault f place

-- the program that the text is of, or its fault; `NoMemory` claims nothing of the text
abbrev pub ParsesAs : List ℕ → Result Program ParseFault → Type 0
ParsesAs bytes (Ok program) = IsText bytes program
ParsesAs bytes (Err NoMemory) = Unit {0}
ParsesAs bytes (Err fault) = IsFaultOf bytes fault

-- A program that is answered is the only one of the text, which has no fault. If a fault is answered, the text is of no program, and the value reports each fault of the text. `NoMemory` claims nothing.
abbrev pub IsOnly : List ℕ → Result Program ParseFault → Type 0
IsOnly bytes (Ok program) = ((other : Program) → IsText bytes other → other ≡ program) × ((f : FaultCause) (place : Place) → HasFault bytes f place → ⊥)
IsOnly bytes (Err NoMemory) = Unit {0}
IsOnly bytes (Err fault) = ((other : Program) → IsText bytes other → ⊥) × ((f : FaultCause) (place : Place) → HasFault bytes f place → IsReportedAs fault f place)

-- an answer to the printed text of a program: the same program but for lines, or `NoMemory`
abbrev pub IsReadBack : Program → Result Program ParseFault → Type 0
IsReadBack program (Ok other) = SameButLines program other
IsReadBack program (Err NoMemory) = Unit {0}
IsReadBack program (Err fault) = ⊥
