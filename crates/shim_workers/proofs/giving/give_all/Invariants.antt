use Rattle.std.proofs.Common.{◌≡◌, ◌<◌, ◌+◌, ◌-◌, ◌⊎◌, length}
use Rattle.shim_semantics.specs.Trees.{steps}
use Rattle.shim_net.specs.Progress.{GoesOn}
use Rattle.shim_workers.specs.Progress.{HaveSteps, HaveSlotsBelow}
use Rattle.shim_workers.proofs.giving.give_all.Given as goal

abbrev pub invariant-loop-slot : goal.invariant-loop-slot
invariant-loop-slot g l = record {
  goes_on : GoesOn g.L.Local.ops l.fn.net l.net;
  below : HaveSlotsBelow l.slot l.net.grants;
  have : HaveSteps g.L.Local.ops l.net.grants;
  more : ((l.slot ≡ 0) × (l.net ≡ l.fn.net)) ⊎ (steps l.fn.net.tree + length l.fn.net.grants < steps l.net.tree + length l.net.grants);
}

abbrev pub decreases-loop-slot : goal.decreases-loop-slot
decreases-loop-slot g l = 18446744073709551615 - l.slot
