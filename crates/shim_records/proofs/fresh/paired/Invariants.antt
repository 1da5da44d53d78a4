use Rattle.shim_records.specs.Fresh.{channels}
use Rattle.shim_records.proofs.Gathering.{SoFar}
use Rattle.shim_records.proofs.fresh.paired.Given as goal

abbrev pub invariant-loop-chan : goal.invariant-loop-chan
invariant-loop-chan g l = SoFar g.L.Local.ops l.children (channels l.fn.chans.items) l.pairs.items (channels l.chan-iterator.rest.items)
