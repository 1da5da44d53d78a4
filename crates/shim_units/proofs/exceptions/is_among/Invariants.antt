use Rattle.std.proofs.Common.{◌≡◌, drop}
use Rattle.shim_units.specs.Lifting.{is_among}
use Rattle.shim_units.proofs.exceptions.is_among.Given as goal

abbrev pub invariant-loop-other : goal.invariant-loop-other
invariant-loop-other l = is_among (drop l.other-index l.some) l.one ≡ is_among l.some l.one
