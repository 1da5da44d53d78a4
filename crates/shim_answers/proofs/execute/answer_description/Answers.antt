use Rattle.std.proofs.Common.{IfOk, subst, sym}
use Rattle.shim_command.specs.declared.mode.Description.{Description}
use Rattle.shim_answers.specs.Tasks.{AnswersDescribedSource}
use Rattle.shim_results.specs.Views.{answer_view}
use Rattle.shim_answers.proofs.execute.answer_description.Goals as goal

pub returns-in-Version2 : goal.returns-in-Version2
returns-in-Version2 c = subst (λ (t : Description). IfOk c.answer_up.result (λ a. AnswersDescribedSource t c.args.bytes.now (answer_view a))) (sym c.in-Version2.is) c.answer_up.ensures
