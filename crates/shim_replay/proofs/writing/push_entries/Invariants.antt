use Rattle.std.proofs.Common.{◌≡◌, ◌++◌, drop}
use Rattle.shim_replay.specs.Entries.{entries_of}
use Rattle.shim_replay.specs.JournalTexts.{joined_lines, entry_lines}
use Rattle.shim_replay.proofs.writing.push_entries.Given as goal

abbrev pub invariant-loop-entry : goal.invariant-loop-entry
invariant-loop-entry l = l.text ++ joined_lines (entry_lines (entries_of (drop l.entry-index l.entries))) ≡ l.initial.text ++ joined_lines (entry_lines (entries_of l.entries))
