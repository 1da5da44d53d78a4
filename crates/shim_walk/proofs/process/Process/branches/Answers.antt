use Rattle.std.proofs.Common.{ap, ◌∙◌}
use Rattle.shim_process.specs.Forks.{stmt_branches}
use Rattle.shim_walk.proofs.process.Process.branches.Goals as goal

pub returns : goal.returns
returns c = c.branches_of.ensures ∙ ap stmt_branches c.stmt.ensures
