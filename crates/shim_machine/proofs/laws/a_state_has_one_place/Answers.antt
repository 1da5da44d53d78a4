use Rattle.shim_machine.proofs.SamePlaces as lemmas
use Rattle.shim_machine.proofs.laws.a_state_has_one_place.Goals as goal

pub returns : goal.returns
returns c = lemmas.go_on_alike
