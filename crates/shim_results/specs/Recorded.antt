-- Runs whose journal is printed, and runs that a journal records.
use Rattle.std.specs.Prelude.{ℕ, ◌≡◌, ◌⊎◌, List, ◌++◌, codes, decimal}
use Rattle.shim_process.specs.Forks.{root}
use Rattle.shim_process.specs.LocalState.{LocalState}
use Rattle.shim_process.specs.Ops.{process_ops}
use Rattle.shim_semantics.specs.Trees.{Tree}
use Rattle.shim_laws_replay.specs.Journals.{Entry}
use Rattle.shim_laws_replay.specs.Nets.{NamesNoQuietStep}
use Rattle.shim_laws_journals.specs.Accepting.{IsAcceptedJournal, IsRefusedJournal, JournalRefusal, OverBudget, NotEnabled, Unfinished}
use Rattle.shim_replay.specs.JournalTexts.{IsFaultyLine, IsJournalText}
use Rattle.shim_front_end.specs.Source.{Source}
use Rattle.shim_results.specs.RunEnds.{Execution}

-- the entries are a run of this execution, which ends at the tree: at rest within the budget, or with the budget spent
abbrev pub IsRunTo : Execution → List Entry → Tree LocalState → Type 0
IsRunTo x es t = IsAcceptedJournal process_ops (root x.source x.input) x.budget es t

-- the text is the journal, with the budget of x, of a run of x that ends at the tree
abbrev pub IsJournalOf : Execution → Tree LocalState → List ℕ → Type 0
IsJournalOf x t text = (es : List Entry) × IsJournalText text x.budget es × IsRunTo x es t

-- The text is the journal, with the budget of x, of a run of x that ends at the tree. No entry of one event is a quiet step: quiet steps stand in entries with a count.
abbrev pub IsRecordOf : Execution → Tree LocalState → List ℕ → Type 0
IsRecordOf x t text = (es : List Entry) × IsJournalText text x.budget es × IsRunTo x es t × NamesNoQuietStep process_ops (root x.source x.input) es

-- the text is the journal of this budget and these entries, and of no others
pub record IsOnlyJournal (text : List ℕ) (budget : ℕ) (es : List Entry) : Type 0 where
  pub is : IsJournalText text budget es
  pub only : (b : ℕ) (fs : List Entry) → IsJournalText text b fs → (b ≡ budget) × (fs ≡ es)

-- the text is no journal, and this is the first line with which it is none
pub record IsNoJournal (text : List ℕ) (number : ℕ) : Type 0 where
  pub faulty : IsFaultyLine text number
  pub none : (b : ℕ) (es : List Entry) → IsJournalText text b es → ⊥

-- `journal LINE CAUSE`
unfoldable pub journal_line : ℕ → List ℕ → List ℕ
journal_line line cause = codes "journal " ++ (decimal line ++ (codes " " ++ (cause ++ codes "\n")))

-- `journal LINE malformed`
abbrev pub malformed_line : ℕ → List ℕ
malformed_line line = journal_line line (codes "malformed")

-- `journal LINE CAUSE`, for entries that are no run to an end
abbrev pub refusal_line : JournalRefusal → List ℕ
refusal_line (OverBudget line) = journal_line line (codes "over budget")
refusal_line (NotEnabled line) = journal_line line (codes "not enabled")
refusal_line (Unfinished line) = journal_line line (codes "unfinished")

-- a source with an input, run within the budget of a journal
abbrev pub execution_within : Source → List ℕ → ℕ → Execution
execution_within source input budget = record { source = source; input = input; budget = budget }

-- the entries are no run of this execution to an end, for this cause
abbrev pub IsNoRun : Execution → List Entry → JournalRefusal → Type 0
IsNoRun x es r = IsRefusedJournal process_ops (root x.source x.input) x.budget es r

-- why a journal is refused with this line: its text is none from a line on, or it is no run of the source to an end
abbrev pub IsJournalRefused : Source → List ℕ → List ℕ → List ℕ → Type 0
IsJournalRefused source input text line =
    ((n : ℕ) × IsFaultyLine text n × (line ≡ malformed_line n))
    ⊎ ((b : ℕ) × (es : List Entry) × (r : JournalRefusal) × IsJournalText text b es × IsNoRun (execution_within source input b) es r × (line ≡ refusal_line r))
