use Rattle.shim_board.proofs.Fixed.{same_slots}
use Rattle.shim_board.proofs.laws.left_slots.Goals as goal

pub returns : goal.returns
returns g c = λ board chairs net other left others a b. same_slots board chairs net other left others a b
