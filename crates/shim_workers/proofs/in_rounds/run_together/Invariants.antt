use Rattle.std.proofs.Common.{◌≡◌, ◌≤◌, ◌-◌, []}
use Rattle.shim_semantics.specs.Trees.{steps}
use Rattle.shim_net.specs.Progress.{GoesOn, HasSettled}
use Rattle.shim_workers.proofs.in_rounds.run_together.Given as goal

abbrev pub invariant-loop-alloc : goal.invariant-loop-alloc
invariant-loop-alloc g l = record {
  goes_on : GoesOn g.L.Local.ops l.fn.net l.net;
  home : l.net.grants ≡ [];
  settled : HasSettled g.L.Local.ops l.net;
  most : (1 ≤ l.most) × (l.most ≤ 10000);
}

abbrev pub decreases-loop-alloc : goal.decreases-loop-alloc
decreases-loop-alloc g l = l.net.budget - steps l.net.tree
