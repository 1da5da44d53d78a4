use Rattle.std.proofs.Common.{◌≡◌, drop}
use Rattle.shim_process.specs.Locations.{Locations}
use Rattle.shim_process.specs.Forks.{lent}
use Rattle.shim_locations.specs.Lendings.{lent_at}
use Rattle.shim_locations.proofs.remainder.lend_args.Given as goal

abbrev pub invariant-loop-param : goal.invariant-loop-param
invariant-loop-param l = (locations : Locations) → lent l.slots (drop l._param-index l.params) l.rest (lent_at l.taken locations) ≡ lent l.slots l.params l.args (lent_at l.initial.taken locations)
