use Rattle.std.proofs.Common.{ap, ◌∙◌}
use Rattle.shim_process.specs.Steps.{stmt_line}
use Rattle.shim_walk.proofs.process.Process.line.Goals as goal

pub returns : goal.returns
returns c = c.line_of.ensures ∙ ap stmt_line c.stmt.ensures
