use Rattle.shim_machine.proofs.SamePlaces as lemmas
use Rattle.shim_machine.proofs.laws.the_machine_comes_to_the_place.Goals as goal

pub returns : goal.returns
returns c = lemmas.comes_to
