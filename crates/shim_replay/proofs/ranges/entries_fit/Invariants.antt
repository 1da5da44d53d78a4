use Rattle.std.proofs.Common.{drop}
use Rattle.std.specs.List.{AllByRecursion}
use Rattle.shim_replay.specs.Entries.{entries_of}
use Rattle.shim_replay.specs.JournalTexts.{FitsEntry}
use Rattle.shim_replay.proofs.ranges.entries_fit.Given as goal

abbrev pub invariant-loop-entry : goal.invariant-loop-entry
invariant-loop-entry l = AllByRecursion FitsEntry (entries_of (drop l.entry-index l.entries)) → AllByRecursion FitsEntry (entries_of l.entries)
