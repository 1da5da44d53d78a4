use Rattle.std.proofs.Common.{ap, ◌∙◌}
use Rattle.shim_command.specs.declared.mode.Course.{Course}
use Rattle.shim_command.specs.declared.mode.Task.TheVariants.{Runs}
use Rattle.shim_tool.specs.PreparedView.{prepared_view}
use Rattle.shim_results.proofs.ExecuteLemmas.{if_ok_weaker}
use Rattle.shim_tool.proofs.Preparing.{meaning_prepared, run_prepared}
use Rattle.shim_tool.proofs.prepared.prepare_run.Goals as goal

pub returns-in_ok-answer_meaning-in-ByFirstEvents : goal.returns-in_ok-answer_meaning-in-ByFirstEvents
returns-in_ok-answer_meaning-in-ByFirstEvents c beside same =
    meaning_prepared c.args.job beside c.args.bytes.now c.args.input c.args.showing _ same (c.requires.runs ∙ ap (λ (k : Course). Runs k c.args.showing) c.in-ByFirstEvents.is)
    c.in_ok-answer_meaning-in-ByFirstEvents.ensures

pub returns-in-InSomeOrder : goal.returns-in-InSomeOrder
returns-in-InSomeOrder c = if_ok_weaker c.leave_to_workers.result _ _
    (λ p h beside same. run_prepared c.args.job beside c.args.bytes.now c.args.input c.args.showing (prepared_view p) same (c.requires.runs ∙ ap (λ (k : Course). Runs k c.args.showing) c.in-InSomeOrder.is) h)
    c.leave_to_workers.ensures
