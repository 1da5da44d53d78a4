use Rattle.shim_machine.proofs.Waits.{does_throw}
use Rattle.shim_machine.proofs.laws.throw.Goals as goal

pub returns : goal.returns
returns c = does_throw
