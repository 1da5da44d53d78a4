use Rattle.shim_laws_binding.proofs.NamedFunctions.{calls_hand_on_what_is_thrown}
use Rattle.shim_laws_binding.proofs.laws.calls_hand_on_what_is_thrown.Goals as goal

pub returns : goal.returns
returns c = calls_hand_on_what_is_thrown
