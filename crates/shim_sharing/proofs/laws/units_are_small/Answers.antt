use Rattle.shim_sharing.proofs.UnitSizes.{accepted_small}
use Rattle.shim_sharing.proofs.laws.units_are_small.Goals as goal

pub returns : goal.returns
returns c = accepted_small
