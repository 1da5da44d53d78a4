use Rattle.std.proofs.Common.{◌≡◌, drop}
use Rattle.shim_process.specs.Locations.{Locations}
use Rattle.shim_process.specs.Forks.{lent_by}
use Rattle.shim_locations.specs.Given.{arguments_of}
use Rattle.shim_locations.specs.Lendings.{lent_at}
use Rattle.shim_locations.proofs.remainder.lend_arguments.Given as goal

abbrev pub invariant-loop-argument : goal.invariant-loop-argument
invariant-loop-argument l = (locations : Locations) → lent_by (arguments_of (drop l.argument-index l.given)) (lent_at l.taken locations) ≡ lent_by (arguments_of l.given) (lent_at l.initial.taken locations)
