use Rattle.shim_machine.proofs.Enters.{enters_list}
use Rattle.shim_machine.proofs.laws.entering.Goals as goal

pub returns : goal.returns
returns c = λ u ss pc n k has st. enters_list u ss pc n k has st
