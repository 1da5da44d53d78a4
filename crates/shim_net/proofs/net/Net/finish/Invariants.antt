use Rattle.std.proofs.Common.{◌≡◌, ◌-◌, []}
use Rattle.shim_semantics.specs.Trees.{steps}
use Rattle.shim_net.specs.Progress.{GoesOn, HasSettled}
use Rattle.shim_net.proofs.net.Net.finish.Given as goal

abbrev pub invariant-loop-self : goal.invariant-loop-self
invariant-loop-self g l = record {
  goes_on : GoesOn g.L.Local.ops l.fn.self l.self;
  home : l.self.grants ≡ [];
  settled : HasSettled g.L.Local.ops l.self;
}

abbrev pub decreases-loop-self : goal.decreases-loop-self
decreases-loop-self g l = l.self.budget - steps l.self.tree
