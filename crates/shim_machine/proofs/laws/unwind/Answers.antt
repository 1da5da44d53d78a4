use Rattle.shim_machine.proofs.Unwinding.{unwinds_to}
use Rattle.shim_machine.proofs.laws.unwind.Goals as goal

pub returns : goal.returns
returns c = unwinds_to
