use Rattle.std.proofs.Common.{refl}
use Rattle.shim_command.specs.declared.mode.Course.TheVariants.{InSomeOrder}
use Rattle.shim_results.specs.SourceActions.{shown_of}
use Rattle.shim_results.proofs.ExecuteLemmas.{answers_run}
use Rattle.shim_answers.proofs.execute.answer_run.Goals as goal

pub returns : goal.returns
returns g c = answers_run InSomeOrder (shown_of c.args.run.showing c.args.run.job) _ _ _ _ c.in_ok-end.end _ _ refl c.in_ok-end.ensures c.of.ensures c.in_ok-shown.ensures
