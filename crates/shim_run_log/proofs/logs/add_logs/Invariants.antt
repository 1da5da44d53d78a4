use Rattle.std.proofs.Common.{◌≡◌, ◌++◌, map, drop}
use Rattle.shim_semantics.specs.Endings.{log_at}
use Rattle.shim_run_log.proofs.logs.add_logs.Lts.Given as given

-- what is listed, and then what is left, is the whole
abbrev pub invariant-loop-what : given.Live-loop-what → Type 0
invariant-loop-what l = l.list ++ map (log_at l.path) (drop l.what-index l.logged) ≡ l.initial.list ++ map (log_at l.path) l.logged
