use Rattle.std.proofs.Common.{◌≡◌, ◌++◌, map}
use Rattle.std.specs.FinMap as finite
use Rattle.shim_semantics.specs.Endings.{wait_at}
use Rattle.shim_run_log.proofs.waits.Waits.list.Lts.Given as given

-- what is listed, and then what is left, is the whole
abbrev pub invariant-loop-path : given.Live-loop-path → Type 0
invariant-loop-path l = l.list ++ map wait_at l.path-iterator ≡ map wait_at (finite.entries l.self)
