use Rattle.shim_process.proofs.PlaceRoot.{root_sound}
use Rattle.shim_process.proofs.laws.root_is_sound.Goals as goal

pub returns : goal.returns
returns c = root_sound
