use Rattle.std.proofs.Common.{sym, ap, ◌∙◌}
use Rattle.std.specs.FinMap as finite
use Rattle.shim_semantics.specs.Trees.{with_logs}
use Rattle.shim_run_log.specs.Logged.{logged}
use Rattle.shim_run_log.proofs.Logged.{with_one_more}
use Rattle.shim_process_table.specs.Acting.{throw_effects}
use Rattle.shim_run_state.proofs.acting.log_catch.Goals as goal

pub returns-in-Caught : goal.returns-in-Caught
returns-in-Caught c = ap logged c.push_reserved.ensures.items ∙ (with_one_more finite.empty c.args.logs.now.items _ ∙ ap (λ z. with_logs (logged c.args.logs.now.items) c.args.path (throw_effects z).logs) (sym c.in-Caught.is))
