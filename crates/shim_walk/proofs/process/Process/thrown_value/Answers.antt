use Rattle.std.proofs.Common.{ap, ◌∙◌}
use Rattle.shim_process.specs.Stops.{stmt_thrown}
use Rattle.shim_walk.specs.StatementContexts.{context_view}
use Rattle.shim_walk.proofs.process.Process.thrown_value.Goals as goal

pub returns : goal.returns
returns c = c.stmt_thrown.ensures ∙ ap (λ o. stmt_thrown o (context_view c.context.result)) c.stmt.ensures ∙ ap (stmt_thrown _) c.context.ensures.value
