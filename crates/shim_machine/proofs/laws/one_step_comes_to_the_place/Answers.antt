use Rattle.shim_machine.proofs.SamePlaces as lemmas
use Rattle.shim_machine.proofs.laws.one_step_comes_to_the_place.Goals as goal

pub returns : goal.returns
returns c = lemmas.one_step_to
