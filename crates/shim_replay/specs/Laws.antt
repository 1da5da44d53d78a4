-- What the laws say of texts and journals.
use Rattle.std.specs.Prelude.{◌≡◌, ◌↔◌, ◌<◌, ℕ, List, ◌++◌, Some, Result, Ok, Err}
use Rattle.shim_laws_replay.specs.Journals.{Entry}
use Rattle.shim_replay.specs.Answers.{ReadAnswers}
use Rattle.shim_replay.specs.Entries.{entries_of}
use Rattle.shim_replay.specs.JournalTexts.{FitsEntry, IsJournalText, entry_words, line_feeds, line}
use Rattle.shim_replay.specs.Scanning.{scan_entry}
use Rattle.shim_replay.specs.declared.journal.Journal.{Journal}
use Rattle.shim_replay.specs.declared.fault.JournalFault.{JournalFault}
use Rattle.shim_replay.specs.declared.fault.JournalFault.TheVariants as faults

-- a text is read as an entry exactly where it begins with the line of that entry and the entry's numbers are in range
abbrev pub EntryLines : Type 0
EntryLines = (bytes : List ℕ) (e : Entry) (rest : List ℕ) → (scan_entry bytes ≡ Some (e, rest)) ↔ ((bytes ≡ line (entry_words e) ++ rest) × FitsEntry e)

-- a text with fewer than 2^32 - 1 line feeds is that of one budget and one list of entries at most
abbrev pub OneJournal : Type 0
OneJournal = (text : List ℕ) (b c : ℕ) (es fs : List Entry) → line_feeds text < 4294967295 → IsJournalText text b es → IsJournalText text c fs → (b ≡ c) × (es ≡ fs)

-- a budget and entries have one text at most
abbrev pub OneText : Type 0
OneText = (text other : List ℕ) (b : ℕ) (es : List Entry) → IsJournalText text b es → IsJournalText other b es → text ≡ other

-- the answer is a journal of this budget and these entries, or out of memory
abbrev pub ComesBack : ℕ → List Entry → Result Journal JournalFault → Type 0
ComesBack b es (Ok j) = (j.budget ≡ b) × (entries_of j.entries ≡ es)
ComesBack b es (Err (faults.Malformed line)) = ⊥
ComesBack b es (Err faults.NoMemory) = Unit {0}

-- reading the text of a budget and of entries answers that budget and those entries, or out of memory
abbrev pub WrittenIsRead : Type 0
WrittenIsRead = (text : List ℕ) (b : ℕ) (es : List Entry) (r : Result Journal JournalFault) → IsJournalText text b es → ReadAnswers text r → ComesBack b es r
