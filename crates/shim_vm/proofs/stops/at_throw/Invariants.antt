use Rattle.std.proofs.Common.{◌≡◌, drop}
use Rattle.shim_machine.specs.MarkStops.{at_throw}
use Rattle.shim_walk.specs.StatementContexts.{context_view}
use Rattle.shim_vm.proofs.stops.at_throw.Given as goal

abbrev pub invariant-loop-place : goal.invariant-loop-place
invariant-loop-place l = at_throw (drop l.place l.behind) (context_view l.context) ≡ at_throw l.behind (context_view l.context)
