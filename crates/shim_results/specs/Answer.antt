-- What is answered to a source, from what is done with it.
use Rattle.std.specs.Prelude.{ℕ, ◌≡◌, ◌⊎◌, List, length, Ok, Err}
use Rattle.std.specs.List.{AllZip}
use Rattle.shim_syntax.specs.declared.Program.{Program}
use Rattle.shim_syntax.specs.Text.{IsText}
use Rattle.shim_parser.specs.declared.ParseFault.{ParseFault}
use Rattle.shim_parser.specs.Parsing.{IsFaultOf}
use Rattle.shim_front_end.specs.declared.SourceFault.{SourceFault}
use Rattle.shim_front_end.specs.declared.SourceFault.TheVariants.{Parse}
use Rattle.shim_front_end.specs.FrontEnd.{IsOnlyText, IsOnlyFault}
use Rattle.shim_front_end.specs.Source.{Source, IsSource, checked}
use Rattle.shim_report.specs.Refusal.{refusal_text}
use Rattle.shim_command.specs.declared.job.Job.{Job}
use Rattle.shim_command.specs.declared.mode.Course.{Course}
use Rattle.shim_command.specs.declared.mode.Course.TheVariants.{ByFirstEvents, InSomeOrder}
use Rattle.shim_local.specs.declared.Ended.{Ended}
use Rattle.shim_process.specs.LocalState.{LocalState}
use Rattle.shim_semantics.specs.Trees.{Tree}
use Rattle.shim_laws_replay.specs.Journals.{Entry}
use Rattle.shim_laws_journals.specs.Accepting.{JournalRefusal}
use Rattle.shim_results.specs.RunEnds.{Execution, read_off, report_of, status_of_outcome, IsEnd}
use Rattle.shim_results.specs.Batches.{greatest, on_each, reports_of, statuses_of}
use Rattle.shim_results.specs.Recorded.{IsNoJournal, IsNoRun, IsOnlyJournal, IsRecordOf, IsRunTo, execution_within, malformed_line, refusal_line}
use Rattle.shim_results.specs.SourceActions.{SourceAction, runs, describes, records, replays, runs_each, executed}

-- a status and the text that goes with it
pub record Answer : Type 0 where
  pub status : ℕ
  pub text : List ℕ

-- the answer to a text that is no source: the line of its fault
abbrev pub refused : SourceFault → Answer
refused fault = record { status = 5; text = refusal_text fault }

-- the answer with the line by which a journal is refused
abbrev pub journal_refused : List ℕ → Answer
journal_refused line = record { status = 9; text = line }

-- the report of what was read off a run of a source, with the status for how it ended
abbrev pub reported : Source → Ended → Answer
reported source e = record { status = status_of_outcome e.outcome; text = report_of source e }

-- the bytes are the text of no program that is accepted
abbrev pub IsNoSource : List ℕ → Type 0
IsNoSource bytes = (source : Source) → IsSource bytes source → ⊥

-- why bytes are refused with this line: they are the text of a program that isn't accepted, with this first fault, or they are the text of none, with this fault
abbrev pub IsRefusal : List ℕ → List ℕ → Type 0
IsRefusal bytes line =
    ((program : Program) × IsText bytes program × (fault : SourceFault) × (checked program ≡ Err fault) × (line ≡ refusal_text fault))
    ⊎ ((fault : ParseFault) × IsFaultOf bytes fault × (line ≡ refusal_text (Parse fault)))

-- a run is answered with the status for how it ended, and with this text
abbrev pub AnswersRun : Course → (Execution → Ended → List ℕ) → Execution → Answer → Type 0
AnswersRun course shown x answer = (e : Ended) × IsEnd course x e × (answer ≡ record { status = status_of_outcome e.outcome; text = shown x e })

-- a source that is described is answered with 0 and a text that has this relation to it
abbrev pub AnswersDescription : (Program → Source → List ℕ → Type 0) → Program → Source → Answer → Type 0
AnswersDescription relation program source answer = (answer.status ≡ 0) × relation program source answer.text

-- a run whose journal is printed is answered with that, and with the status for how it ended
abbrev pub AnswersRecord : Execution → Answer → Type 0
AnswersRecord x answer = (t : Tree LocalState) × IsRecordOf x t answer.text × (answer.status ≡ status_of_outcome (read_off x t).outcome)

-- Entries of a journal are answered with the report of the tree to which they lead, where they are a run of the execution that ends there. Else they are answered with the cause and the line: of the first entry that isn't done, or, of a run that hasn't ended, the line after the last entry.
abbrev pub AnswersEntries : Execution → List Entry → Answer → Type 0
AnswersEntries x es answer =
    ((t : Tree LocalState) × IsRunTo x es t × (answer ≡ reported x.source (read_off x t)))
    ⊎ ((r : JournalRefusal) × IsNoRun x es r × (answer ≡ journal_refused (refusal_line r)))

-- a journal is answered as its entries, within its own budget, and a text that is none with its first faulty line
abbrev pub AnswersReplay : Source → List ℕ → List ℕ → Answer → Type 0
AnswersReplay source input journal answer =
    ((b : ℕ) × (es : List Entry) × IsOnlyJournal journal b es × AnswersEntries (execution_within source input b) es answer)
    ⊎ ((n : ℕ) × IsNoJournal journal n × (answer ≡ journal_refused (malformed_line n)))

-- Runs of one source on each of these inputs, of which there is one for each of these names, are answered with what they come to: the greatest of the statuses for how they ended, and their reports in order.
abbrev pub AnswersEach : List (List ℕ) → Execution → List (List ℕ) → Answer → Type 0
AnswersEach names x inputs answer =
    (length inputs ≡ length names) × (es : List Ended) × AllZip (IsEnd InSomeOrder) (on_each x inputs) es
    × (answer ≡ record { status = greatest (statuses_of es); text = reports_of x.source names es })

-- An accepted program is answered by what is done with it: by its run, by a description of it, by the journal of its run, by the replay of a journal, or by its runs on each input.
abbrev pub AnswersProgram : SourceAction → Program → Execution → Answer → Type 0
AnswersProgram (runs course shown) program x answer = AnswersRun course shown x answer
AnswersProgram (describes relation) program x answer = AnswersDescription relation program x.source answer
AnswersProgram records program x answer = AnswersRecord x answer
AnswersProgram (replays journal) program x answer = AnswersReplay x.source x.input journal answer
AnswersProgram (runs_each names inputs) program x answer = AnswersEach names x inputs answer

-- `OfSource` holds of the program, its source and a, where the program is accepted. Else `OfFault` holds of its first fault and a.
abbrev pub OfProgram : {A : Type 0} → (Program → Source → A → Type 0) → (SourceFault → A → Type 0) → Program → A → Type 0
OfProgram OfSource OfFault program a =
    ((source : Source) × (checked program ≡ Ok source) × OfSource program source a)
    ⊎ ((fault : SourceFault) × (checked program ≡ Err fault) × OfFault fault a)

-- `OfProgram` holds of a and the one program whose text the bytes are. Where they are the text of no program, `OfFault` holds of their fault and a.
abbrev pub OfBytes : {A : Type 0} → (Program → Source → A → Type 0) → (SourceFault → A → Type 0) → List ℕ → A → Type 0
OfBytes OfSource OfFault bytes a =
    ((program : Program) × IsOnlyText bytes program × OfProgram OfSource OfFault program a)
    ⊎ ((fault : ParseFault) × IsOnlyFault bytes fault × OfFault (Parse fault) a)

-- a source is answered as its program, and other bytes with the line of their first fault
abbrev pub AnswersSource : SourceAction → (Source → Execution) → List ℕ → Answer → Type 0
AnswersSource action as_run bytes answer = OfBytes (λ program source a. AnswersProgram action program (as_run source) a) (λ fault a. a ≡ refused fault) bytes answer

-- The answer to bytes whose meaning is printed. A source is answered with the text that `shown` gives of its meaning's end, and other bytes with the line of their first fault.
abbrev pub AnswersMeaning : (Execution → Ended → List ℕ) → Job → List ℕ → List ℕ → Answer → Type 0
AnswersMeaning shown job input bytes answer = OfBytes (λ program source a. AnswersRun ByFirstEvents shown (executed job input source) a) (λ fault a. a ≡ refused fault) bytes answer

-- The answer to bytes that are replayed. A source is answered as `AnswersReplay` has it, and other bytes are answered with the line of their first fault.
abbrev pub AnswersReplaySource : List ℕ → List ℕ → List ℕ → Answer → Type 0
AnswersReplaySource input journal bytes answer = OfBytes (λ program source a. AnswersReplay source input journal a) (λ fault a. a ≡ refused fault) bytes answer
