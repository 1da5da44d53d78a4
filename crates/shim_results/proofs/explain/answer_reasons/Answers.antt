use Rattle.std.proofs.Common.{◌≡◌}
use Rattle.shim_command.specs.declared.mode.Course.TheVariants.{ByFirstEvents}
use Rattle.shim_results.specs.Answer.{AnswersRun, refused}
use Rattle.shim_results.specs.SourceActions.{executed}
use Rattle.shim_results.specs.Reasons.{report_with_reasons}
use Rattle.shim_results.specs.Views.{answer_view}
use Rattle.shim_results.proofs.ExecuteLemmas.{if_ok_weaker, of_accepted, of_refused}
use Rattle.shim_results.proofs.explain.answer_reasons.Goals as goal

pub returns-in-Ok : goal.returns-in-Ok
returns-in-Ok c = if_ok_weaker c.explain_source.result _ _
    (λ a h. of_accepted (λ program source b. AnswersRun ByFirstEvents report_with_reasons (executed c.args.job.now c.args.input source) b) (λ fault b. b ≡ refused fault)
    c.args.bytes.now c.in-Ok.source (answer_view a) c.in-Ok.ensures (λ program. h)) c.explain_source.ensures

pub returns-in-Err : goal.returns-in-Err
returns-in-Err c = if_ok_weaker c.refused.result _ _
    (λ a is. of_refused (λ program source b. AnswersRun ByFirstEvents report_with_reasons (executed c.args.job.now c.args.input source) b) (λ fault b. b ≡ refused fault)
    c.args.bytes.now c.in-Err.fault (answer_view a) is.0 is.1 is.2 c.in-Err.ensures is.3) c.refused.ensures
