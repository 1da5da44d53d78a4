use Rattle.std.proofs.Common.{drop}
use Rattle.shim_replay.specs.JournalTexts.{FitsPath}
use Rattle.shim_replay.proofs.ranges.pairs_fit.Given as goal

abbrev pub invariant-loop-pair : goal.invariant-loop-pair
invariant-loop-pair l = FitsPath (drop l.pair-index l.pairs) → FitsPath l.pairs
