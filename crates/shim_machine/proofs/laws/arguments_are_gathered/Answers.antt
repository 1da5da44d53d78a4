use Rattle.shim_machine.proofs.Calls.{args_run}
use Rattle.shim_machine.proofs.laws.arguments_are_gathered.Goals as goal

pub returns : goal.returns
returns c = args_run
