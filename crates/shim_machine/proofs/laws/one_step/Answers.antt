use Rattle.shim_machine.proofs.OneStep as lemmas
use Rattle.shim_machine.proofs.laws.one_step.Goals as goal

pub returns : goal.returns
returns c = lemmas.one_step
