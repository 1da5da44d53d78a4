use Rattle.std.proofs.Common.{sym, ap, ◌∙◌}
use Rattle.shim_semantics.specs.Trees.{with_logs}
use Rattle.shim_run_log.specs.Logged.{logged}
use Rattle.shim_process_table.specs.Closing.{close_effects}
use Rattle.shim_run_state.proofs.closing.log_close.Goals as goal

pub returns-in-Threw : goal.returns-in-Threw
returns-in-Threw c = c.log_catch.ensures ∙ ap (λ z. with_logs (logged c.args.logs.now.items) c.args.path (close_effects z).logs) (sym c.in-Threw.is)
