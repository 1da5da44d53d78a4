use Rattle.std.proofs.Common.{◌≡◌, drop}
use Rattle.shim_locations.specs.Lendings.{is_lent_out}
use Rattle.shim_locations.proofs.remainder.is_lent_out.Given as goal

abbrev pub invariant-loop-one : goal.invariant-loop-one
invariant-loop-one l = is_lent_out l.number (drop l.one-index l.taken) ≡ is_lent_out l.number l.taken
