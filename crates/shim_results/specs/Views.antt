-- Answers that were made, as the definitions name them.
use Rattle.shim_results.specs.declared.answer.Answer.{Answer as CodeAnswer}
use Rattle.shim_results.specs.AnswerView.{exit_code}
use Rattle.shim_results.specs.Answer.{Answer}

-- the answer that the code made, with its exit status as a number
abbrev pub answer_view : CodeAnswer → Answer
answer_view made = record { status = exit_code made.status; text = made.text }
