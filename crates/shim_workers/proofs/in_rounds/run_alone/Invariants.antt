use Rattle.std.proofs.Common.{◌≡◌, ◌≤◌, ◌-◌, []}
use Rattle.shim_semantics.specs.Trees.{steps}
use Rattle.shim_net.specs.Progress.{GoesOn, HasSettled}
use Rattle.shim_workers.proofs.in_rounds.run_alone.Given as goal

abbrev pub invariant-loop-net : goal.invariant-loop-net
invariant-loop-net g l = record {
  goes_on : GoesOn g.L.Local.ops l.fn.net l.net;
  home : l.net.grants ≡ [];
  settled : HasSettled g.L.Local.ops l.net;
  most : (1 ≤ l.most) × (l.most ≤ 10000);
}

abbrev pub decreases-loop-net : goal.decreases-loop-net
decreases-loop-net g l = l.net.budget - steps l.net.tree
