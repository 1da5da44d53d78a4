use Rattle.std.proofs.Common.{◌≡◌, ◌≤◌, ◌+◌, Some, take}
use Rattle.shim_semantics.specs.Trees.{steps}
use Rattle.shim_laws_replay.specs.Journals.{replay}
use Rattle.shim_replay.specs.Entries.{entries_of}
use Rattle.shim_replay.proofs.replaying.replay_entries.Given as goal

abbrev pub invariant-loop-entry : goal.invariant-loop-entry
invariant-loop-entry g l = record {
  replays : replay g.L.Local.ops l.fn.root (entries_of (take l.entry-index l.entries)) ≡ Some l.tree;
  counted : l.done ≡ steps l.tree;
  within : l.done ≤ l.budget;
  number : l.line ≡ l.entry-index + 2;
}
