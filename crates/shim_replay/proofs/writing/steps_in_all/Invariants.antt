use Rattle.std.proofs.Common.{◌≡◌, ◌≤◌, ◌+◌, ◌*◌, drop}
use Rattle.shim_replay.specs.Entries.{entries_of}
use Rattle.shim_laws_journals.specs.Ranges.{steps_in_all}
use Rattle.shim_replay.proofs.writing.steps_in_all.Given as goal

abbrev pub invariant-loop-entry : goal.invariant-loop-entry
invariant-loop-entry l = (l.steps + steps_in_all (entries_of (drop l.entry-index l.entries)) ≡ steps_in_all (entries_of l.entries)) × (l.steps ≤ l.entry-index * 4000000)
