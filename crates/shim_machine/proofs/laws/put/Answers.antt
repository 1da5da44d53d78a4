use Rattle.shim_machine.proofs.Waits.{does_put}
use Rattle.shim_machine.proofs.laws.put.Goals as goal

pub returns : goal.returns
returns c = does_put
