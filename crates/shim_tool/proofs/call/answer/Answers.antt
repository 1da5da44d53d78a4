use Rattle.std.proofs.lemmas.Result.{IfOk-weaker}
use Rattle.shim_command.specs.Jobs.{job, texts_of}
use Rattle.shim_results.specs.Views.{answer_view}
use Rattle.shim_tool.specs.Moments.{files_at}
use Rattle.shim_tool.specs.PreparedView.{prepared_view}
use Rattle.shim_tool.proofs.Preparing.{answered_done, completed, each_done, each_within, left_done, record_done}
use Rattle.shim_tool.proofs.call.answer.Goals as goal

pub returns-in-Answered-clause-answers : goal.returns-in-Answered-clause-answers
returns-in-Answered-clause-answers g c =
    let before = files_at g.F.Files.held g.F.Files.sound g.F.Files.failed c.args.files.now in
    let now = files_at g.F.Files.held g.F.Files.sound g.F.Files.failed c.prepare.new.files in
    completed (job (texts_of c.args.words.now)) before now (prepared_view c.in_ok-answer.field-0) (answer_view c.in-Answered.answer) c.in_ok-answer.ensures.prepared
    (answered_done c.in_ok-answer.field-0 c.in-Answered.answer c.in-Answered.is)

pub returns-in-ToRun-clause-answers : goal.returns-in-ToRun-clause-answers
returns-in-ToRun-clause-answers g c =
    let before = files_at g.F.Files.held g.F.Files.sound g.F.Files.failed c.args.files.now in
    let now = files_at g.F.Files.held g.F.Files.sound g.F.Files.failed c.prepare.new.files in
    IfOk-weaker c.answer_run.result _ _
    (λ a h. completed (job (texts_of c.args.words.now)) before now (prepared_view c.in_ok-answer.field-0) (answer_view a) c.in_ok-answer.ensures.prepared
    (left_done c.in_ok-answer.field-0 c.in-ToRun.run' (answer_view a) c.in-ToRun.is h)) c.answer_run.ensures

pub returns-in-ToRecord-clause-answers : goal.returns-in-ToRecord-clause-answers
returns-in-ToRecord-clause-answers g c =
    let before = files_at g.F.Files.held g.F.Files.sound g.F.Files.failed c.args.files.now in
    let now = files_at g.F.Files.held g.F.Files.sound g.F.Files.failed c.prepare.new.files in
    IfOk-weaker c.answer_record.result _ _
    (λ a h. completed (job (texts_of c.args.words.now)) before now (prepared_view c.in_ok-answer.field-0) (answer_view a) c.in_ok-answer.ensures.prepared
    (record_done c.in_ok-answer.field-0 c.in-ToRecord.run' (answer_view a) c.in-ToRecord.is h)) c.answer_record.ensures

pub answer_each-requires-clause-within : goal.answer_each-requires-clause-within
answer_each-requires-clause-within g c κs within = (each_within c.in_ok-answer.field-0 c.in-ToRunEach.run' c.in-ToRunEach.is c.in_ok-answer.ensures.within).0

pub answer_each-requires-clause-few : goal.answer_each-requires-clause-few
answer_each-requires-clause-few g c κs within = (each_within c.in_ok-answer.field-0 c.in-ToRunEach.run' c.in-ToRunEach.is c.in_ok-answer.ensures.within).1

pub answer_each-requires-clause-named : goal.answer_each-requires-clause-named
answer_each-requires-clause-named g c κs within = (each_within c.in_ok-answer.field-0 c.in-ToRunEach.run' c.in-ToRunEach.is c.in_ok-answer.ensures.within).2

pub returns-in-ToRunEach-clause-answers : goal.returns-in-ToRunEach-clause-answers
returns-in-ToRunEach-clause-answers g c =
    let before = files_at g.F.Files.held g.F.Files.sound g.F.Files.failed c.args.files.now in
    let now = files_at g.F.Files.held g.F.Files.sound g.F.Files.failed c.prepare.new.files in
    IfOk-weaker c.answer_each.result _ _
    (λ a h. completed (job (texts_of c.args.words.now)) before now (prepared_view c.in_ok-answer.field-0) (answer_view a) c.in_ok-answer.ensures.prepared
    (each_done c.in_ok-answer.field-0 c.in-ToRunEach.run' (answer_view a) c.in-ToRunEach.is h)) c.answer_each.ensures
