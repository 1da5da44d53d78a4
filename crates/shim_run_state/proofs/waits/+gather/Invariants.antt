use Rattle.std.proofs.Common.{◌-◌}
use Rattle.shim_run_state.proofs.Gathering.{Gathered}
use Rattle.shim_run_state.proofs.waits.+gather.Given as goal

abbrev pub decreases-gather : goal.decreases-gather
decreases-gather g l = l.levels

-- so many children were gathered
abbrev pub invariant-loop-branch : goal.invariant-loop-branch
invariant-loop-branch g l = Gathered g.L.Local.ops l.table (l.levels - 1) l.first l.count l.branch l.fn.waits l.waits
