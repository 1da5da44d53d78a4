use Rattle.shim_machine.proofs.Room.{room_is}
use Rattle.shim_machine.proofs.laws.room_is_a_product.Goals as goal

pub returns : goal.returns
returns c = room_is
