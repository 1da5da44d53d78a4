use Rattle.shim_process.proofs.AllLaws.{process_laws}
use Rattle.shim_process.proofs.laws.process_obeys_the_laws.Goals as goal

pub returns : goal.returns
returns c = process_laws
