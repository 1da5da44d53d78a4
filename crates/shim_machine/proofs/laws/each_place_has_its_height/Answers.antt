use Rattle.shim_machine.proofs.Heights.{has_height}
use Rattle.shim_machine.proofs.laws.each_place_has_its_height.Goals as goal

pub returns : goal.returns
returns c = has_height
