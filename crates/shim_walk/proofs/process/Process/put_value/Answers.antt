use Rattle.std.proofs.Common.{ap, ◌∙◌}
use Rattle.shim_process.specs.Stops.{stmt_put}
use Rattle.shim_walk.specs.StatementContexts.{context_view}
use Rattle.shim_walk.proofs.process.Process.put_value.Goals as goal

pub returns : goal.returns
returns c = c.stmt_put.ensures ∙ ap (λ o. stmt_put o (context_view c.context.result)) c.stmt.ensures ∙ ap (stmt_put _) c.context.ensures.value
