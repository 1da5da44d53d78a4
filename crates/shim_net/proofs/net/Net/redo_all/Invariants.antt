use Rattle.std.proofs.Common.{length}
use Rattle.shim_net.specs.Absorbing.{RedoesSome}
use Rattle.shim_net.specs.Progress.{GoesOn, AreAmong}
use Rattle.shim_net.proofs.net.Net.redo_all.Given as goal

abbrev pub invariant-loop : goal.invariant-loop
invariant-loop g l = record {
  redoes : RedoesSome g.L.Local.ops l.fn.self l.self;
  goes_on : GoesOn g.L.Local.ops l.fn.self l.self;
  left : AreAmong l.self.grants l.fn.self.grants;
}

abbrev pub decreases-loop : goal.decreases-loop
decreases-loop g l = length l.self.grants
