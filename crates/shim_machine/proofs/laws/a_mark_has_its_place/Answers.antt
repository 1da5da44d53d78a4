use Rattle.shim_machine.proofs.Marks.{mark_place}
use Rattle.shim_machine.proofs.laws.a_mark_has_its_place.Goals as goal

pub returns : goal.returns
returns c = mark_place
