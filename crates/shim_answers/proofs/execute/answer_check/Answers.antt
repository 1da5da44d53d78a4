use Rattle.std.proofs.Common.{◌≡◌, refl, sym, subst}
use Rattle.shim_command.specs.declared.mode.Description.TheVariants.{Functions}
use Rattle.shim_results.specs.Answer.{Answer, AnswersDescription, refused}
use Rattle.shim_answers.specs.Tasks.{AnswersDescribedSource, description_of}
use Rattle.shim_results.specs.Views.{answer_view}
use Rattle.shim_results.proofs.ExecuteLemmas.{if_ok_weaker, of_accepted, of_refused}
use Rattle.shim_answers.proofs.execute.answer_check.Goals as goal

pub returns-in_ok-count_line-in-Ok : goal.returns-in_ok-count_line-in-Ok
returns-in_ok-count_line-in-Ok c =
    subst (λ (a : Answer). AnswersDescribedSource Functions c.args.bytes.now a) (sym c.described.ensures)
    (of_accepted (AnswersDescription (description_of Functions)) (λ fault a. a ≡ refused fault) c.args.bytes.now c.in-Ok.source _ c.in-Ok.ensures (λ program. (refl, c.in_ok-count_line-in-Ok.ensures)))

pub returns-in-Err : goal.returns-in-Err
returns-in-Err c = if_ok_weaker c.refused.result _ _
    (λ a is. of_refused (AnswersDescription (description_of Functions)) (λ fault b. b ≡ refused fault) c.args.bytes.now c.in-Err.fault (answer_view a) is.0 is.1 is.2 c.in-Err.ensures is.3) c.refused.ensures
