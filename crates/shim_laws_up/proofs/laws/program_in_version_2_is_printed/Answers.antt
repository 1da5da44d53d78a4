use Rattle.shim_laws_up.proofs.SomeProgram.{printed_again}
use Rattle.shim_laws_up.proofs.laws.program_in_version_2_is_printed.Goals as goal

pub returns : goal.returns
returns c = printed_again
