use Rattle.shim_board.proofs.RuleHolds.{opened}
use Rattle.shim_board.proofs.laws.opening.Goals as goal

pub returns : goal.returns
returns g c = λ key table kept new. opened g.N.Named.name (g.N.Named.name key.value) table kept new
