use Rattle.std.proofs.Common.{◌≡◌, ◌++◌, map}
use Rattle.shim_workers.proofs.start.starts.Given as goal

abbrev pub invariant-loop-chair : goal.invariant-loop-chair
invariant-loop-chair g l = map (λ s. s.0) l.starts.items ++ l.chair-iterator.rest.items ≡ l.fn.chairs.items
