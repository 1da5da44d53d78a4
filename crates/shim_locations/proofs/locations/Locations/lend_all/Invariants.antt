use Rattle.std.proofs.Common.{◌≡◌, drop}
use Rattle.shim_locations.specs.Lendings.{lent_at}
use Rattle.shim_locations.proofs.locations.Locations.lend_all.Given as goal

abbrev pub invariant-loop-number : goal.invariant-loop-number
invariant-loop-number l = lent_at (drop l.number-index l.numbers) l.self ≡ lent_at l.numbers l.initial.self
