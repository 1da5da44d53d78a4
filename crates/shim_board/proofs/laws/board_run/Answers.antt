use Rattle.shim_board.proofs.Runs.{keeps_all, once, nothing_lost}
use Rattle.shim_board.proofs.laws.board_run.Goals as goal

pub returns-clause-once : goal.returns-clause-once
returns-clause-once g c = λ net slots steps. once _ (keeps_all g.N.Named.name net slots steps)

pub returns-clause-lost : goal.returns-clause-lost
returns-clause-lost g c = λ net slots steps. nothing_lost _ (keeps_all g.N.Named.name net slots steps)
