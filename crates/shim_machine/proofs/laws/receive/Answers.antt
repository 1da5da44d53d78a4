use Rattle.shim_machine.proofs.Waits.{does_meet}
use Rattle.shim_machine.proofs.laws.receive.Goals as goal

pub returns : goal.returns
returns c = does_meet
