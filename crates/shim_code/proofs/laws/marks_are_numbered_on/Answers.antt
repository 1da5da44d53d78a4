use Rattle.shim_code.proofs.StatementNumbers.{numbered_on}
use Rattle.shim_code.proofs.laws.marks_are_numbered_on.Goals as goal

pub returns : goal.returns
returns c = numbered_on
