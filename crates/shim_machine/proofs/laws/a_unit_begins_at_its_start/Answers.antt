use Rattle.shim_machine.proofs.UnitStarts.{unit_begins}
use Rattle.shim_machine.proofs.laws.a_unit_begins_at_its_start.Goals as goal

pub returns : goal.returns
returns c = unit_begins
