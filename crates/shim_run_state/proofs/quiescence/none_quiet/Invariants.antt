use Rattle.std.proofs.Common.{false}
use Rattle.shim_process_table.specs.Stepping.{IsBeforeQuiet}
use Rattle.shim_run_state.proofs.Quiescent.{Before}
use Rattle.shim_run_state.proofs.quiescence.none_quiet.Given as goal

-- so far none is before a quiet step
abbrev pub invariant-loop-at : goal.invariant-loop-at
invariant-loop-at g l = Before (λ n. IsBeforeQuiet g.L.Local.ops n l.table false) l.numbers l.at
