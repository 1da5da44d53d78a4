use Rattle.std.proofs.Common.{◌≡◌}
use Rattle.shim_results.specs.Answer.{AnswersReplay, refused}
use Rattle.shim_results.specs.Views.{answer_view}
use Rattle.shim_results.proofs.ExecuteLemmas.{if_ok_weaker, of_accepted, of_refused}
use Rattle.shim_answers.proofs.replayed.answer_replay.Goals as goal

pub returns-in-Ok : goal.returns-in-Ok
returns-in-Ok c = if_ok_weaker c.replay_text.result _ _
    (λ a h. of_accepted (λ program source b. AnswersReplay source c.args.input c.args.journal.now b) (λ fault b. b ≡ refused fault)
    c.args.bytes.now c.in-Ok.source (answer_view a) c.in-Ok.ensures (λ program. h)) c.replay_text.ensures

pub returns-in-Err : goal.returns-in-Err
returns-in-Err c = if_ok_weaker c.refused.result _ _
    (λ a is. of_refused (λ program source b. AnswersReplay source c.args.input c.args.journal.now b) (λ fault b. b ≡ refused fault)
    c.args.bytes.now c.in-Err.fault (answer_view a) is.0 is.1 is.2 c.in-Err.ensures is.3) c.refused.ensures
