use Rattle.shim_machine.proofs.Marks.{end_number}
use Rattle.shim_machine.proofs.laws.an_end_has_the_last_number.Goals as goal

pub returns : goal.returns
returns c = end_number
