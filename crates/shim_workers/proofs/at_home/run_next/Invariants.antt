use Rattle.std.proofs.Common.{◌≤◌, ◌-◌}
use Rattle.shim_workers.specs.Workers.{SameName}
use Rattle.shim_workers.proofs.at_home.run_next.Given as goal

abbrev pub invariant-loop-done : goal.invariant-loop-done
invariant-loop-done g l = SameName l.fn.net l.net × (1 ≤ l.most)

abbrev pub decreases-loop-done : goal.decreases-loop-done
decreases-loop-done g l = l.limit - l.done
