use Rattle.std.proofs.Common.{inl, refl}
use Rattle.shim_board.proofs.laws.one_round.Goals as goal

pub returns : goal.returns
returns g c = λ net y z. inl refl
