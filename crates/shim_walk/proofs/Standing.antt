-- At what a process stands, by its trap and by what its next statement sees.
use Rattle.std.proofs.Common.{◌≡◌, Some, None, sym, ap, ◌∙◌}
use Rattle.shim_local.specs.Process.{StopView, AtTrap}
use Rattle.shim_process.specs.LocalState.{LocalState, TrappedAt}
use Rattle.shim_process.specs.StatementViews.{statement_view}
use Rattle.shim_process.specs.Todo.{next_stmt}
use Rattle.shim_process.specs.Stops.{stmt_stop, stop, stop_or}

-- where it isn't trapped
pub stops_at : (l : LocalState) (s : StopView) → l.trap ≡ None → s ≡ stmt_stop (next_stmt l.frame.todo) (statement_view l) → s ≡ stop l
unfolding stop
stops_at l s e f = f ∙ sym (ap (λ t. stop_or t (stmt_stop (next_stmt l.frame.todo) (statement_view l))) e)

pub stops_trapped : (l : LocalState) (t : TrappedAt) → l.trap ≡ Some t → AtTrap t.kind t.line ≡ stop l
unfolding stop
stops_trapped l t e = sym (ap (λ t. stop_or t (stmt_stop (next_stmt l.frame.todo) (statement_view l))) e)
