use Rattle.std.proofs.Common.{◌≡◌, ap, ◌∙◌, subst, IfOk}
use Rattle.shim_process.specs.Steps.{Action as ActionOf, stmt_action, next_action}
use Rattle.shim_walk.specs.Actions.{action_of}
use Rattle.shim_walk.specs.StatementContexts.{context_view}
use Rattle.shim_walk.proofs.process.Process.action.Goals as goal

pub returns : goal.returns
unfolding next_action
returns c =
    let e = ap (λ o. stmt_action o (context_view c.context.result)) c.stmt.ensures ∙ ap (stmt_action _) c.context.ensures.value in
    subst (λ (x : ActionOf). IfOk c.next_action.result (λ d. action_of d ≡ x)) e c.next_action.ensures
