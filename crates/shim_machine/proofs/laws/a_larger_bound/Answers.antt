use Rattle.shim_machine.proofs.Longer.{longer}
use Rattle.shim_machine.proofs.laws.a_larger_bound.Goals as goal

pub returns : goal.returns
returns c = longer
