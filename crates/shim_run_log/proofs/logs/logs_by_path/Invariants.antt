use Rattle.std.proofs.Common.{◌≡◌, drop}
use Rattle.shim_run_log.specs.Logged.{with_each, logged}
use Rattle.shim_run_log.proofs.logs.logs_by_path.Given as goal

-- what is left, logged after what was gathered, is all
abbrev pub invariant-loop-log : goal.invariant-loop-log
invariant-loop-log l = with_each l.by_path (drop l.log-index l.fn.logs) ≡ logged l.fn.logs
