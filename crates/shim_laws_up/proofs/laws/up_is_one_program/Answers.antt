use Rattle.shim_laws_up.proofs.OneProgram.{one_program}
use Rattle.shim_laws_up.proofs.laws.up_is_one_program.Goals as goal

pub returns : goal.returns
returns c = one_program
