use Rattle.shim_laws_up.proofs.SomeProgram.{some_program}
use Rattle.shim_laws_up.proofs.laws.some_program_in_version_2.Goals as goal

pub returns : goal.returns
returns c = some_program
