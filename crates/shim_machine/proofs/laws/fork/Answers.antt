use Rattle.shim_machine.proofs.Forking.{does_fork}
use Rattle.shim_machine.proofs.laws.fork.Goals as goal

pub returns : goal.returns
returns c = does_fork
