use Rattle.std.proofs.Common.{◌≡◌, map}
use Rattle.shim_run_state.specs.Fields.{count_in}
use Rattle.shim_run_state.specs.RunStates.{path_at, counts_from}
use Rattle.shim_run_state.specs.PastCounts.{only_block}
use Rattle.shim_run_state.proofs.closing.past_of.Given as goal

abbrev pub invariant-loop-branch : goal.invariant-loop-branch
invariant-loop-branch g l = map count_in l.past.items ≡ counts_from (only_block l.first l.branch (path_at g.L.Local.ops l.table)) l.own
