use Rattle.shim_machine.proofs.Joining.{joins}
use Rattle.shim_machine.proofs.laws.join.Goals as goal

pub returns : goal.returns
returns c = joins
