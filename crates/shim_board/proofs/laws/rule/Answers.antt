use Rattle.shim_board.proofs.RuleHolds.{holds}
use Rattle.shim_board.proofs.laws.rule.Goals as goal

pub returns : goal.returns
returns g c = λ key table kept. holds g.N.Named.name (g.N.Named.name key.value) table kept
