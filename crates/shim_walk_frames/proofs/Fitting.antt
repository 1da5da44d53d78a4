-- The numbers of the statements of each unit fit.
use Rattle.std.proofs.Common.{List, [], ◌∷◌, arith}
use Rattle.shim_units.specs.declared.unit.Unit.{Unit as UnitOf}
use Rattle.shim_units.specs.Sizes.{AreFit}
use Rattle.shim_walk_frames.specs.Depths.{AllFit}
use Rattle.shim_walk_frames.proofs.Goes.{sizes_agree}

pub all_fit : (us : List UnitOf) → AreFit us → AllFit us
all_fit [] h = tt
all_fit (u ∷ us) h = (omega (arith, sizes_agree u.body, h.0), all_fit us h.1)
