use Rattle.std.proofs.Common.{◌≡◌, ◌++◌}
use Rattle.std.specs.FinMap as finite
use Rattle.shim_semantics.specs.Endings.{all_logs}
use Rattle.shim_run_log.proofs.logs.Logs.list.Lts.Given as given

-- what is listed, and then what is left, is the whole
abbrev pub invariant-loop-path : given.Live-loop-path → Type 0
invariant-loop-path l = l.list ++ all_logs l.path-iterator ≡ all_logs (finite.entries l.self)
