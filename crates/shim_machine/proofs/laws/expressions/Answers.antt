use Rattle.shim_machine.proofs.Exprs as lemmas
use Rattle.shim_machine.proofs.laws.expressions.Goals as goal

pub returns : goal.returns
returns c = lemmas.runs
