-- What reading the text of a journal answers.
use Rattle.std.specs.Prelude.{◌≡◌, ℕ, List, Result, Ok, Err}
use Rattle.shim_laws_replay.specs.Journals.{Entry}
use Rattle.shim_replay.specs.Entries.{entries_of}
use Rattle.shim_replay.specs.JournalTexts.{IsJournalText, IsFaultyLine}
use Rattle.shim_replay.specs.declared.journal.Journal.{Journal}
use Rattle.shim_replay.specs.declared.fault.JournalFault.{JournalFault}
use Rattle.shim_replay.specs.declared.fault.JournalFault.TheVariants as faults

-- The text is that of the answered journal and of no other. Or the line of the fault is the first faulty one, and the text is that of no journal. `NoMemory` says nothing of the text.
abbrev pub ReadAnswers : List ℕ → Result Journal JournalFault → Type 0
ReadAnswers text (Ok j) = IsJournalText text j.budget (entries_of j.entries) × ((b : ℕ) (es : List Entry) → IsJournalText text b es → (b ≡ j.budget) × (es ≡ entries_of j.entries))
ReadAnswers text (Err (faults.Malformed line)) = IsFaultyLine text line × ((b : ℕ) (es : List Entry) → IsJournalText text b es → ⊥)
ReadAnswers text (Err faults.NoMemory) = Unit {0}
