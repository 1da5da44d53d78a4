use Rattle.std.proofs.Common.{ap, ◌∙◌}
use Rattle.shim_command.specs.declared.mode.Course.TheVariants.{ByFirstEvents}
use Rattle.shim_front_end.specs.Source.{Source}
use Rattle.shim_results.specs.SourceActions.{showing_of, shown_of}
use Rattle.shim_results.proofs.ExecuteLemmas.{answers_run}
use Rattle.shim_results.proofs.meaning.answer_reference.Goals as goal

pub returns : goal.returns
returns c = answers_run ByFirstEvents (shown_of c.args.showing c.args.job.now) _ _ _ _ c.in_ok-end.end _ _ c.in_ok-source.ensures c.in_ok-end.ensures c.of.ensures
    (c.in_ok-shown.ensures ∙ ap (λ (s : Source). showing_of c.args.showing c.args.job.now s c.in_ok-end.end) c.deref.ensures)
