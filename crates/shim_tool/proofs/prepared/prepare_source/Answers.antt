use Rattle.std.proofs.Common.{ap, refl, sym, ◌∙◌}
use Rattle.shim_command.specs.Modes.{ModeRow}
use Rattle.shim_results.proofs.ExecuteLemmas.{if_ok_weaker}
use Rattle.shim_tool.specs.PreparedView.{prepared_view}
use Rattle.shim_tool.specs.Views.{beside_view}
use Rattle.shim_tool.proofs.Preparing.{each_prepared, reasons_prepared, record_prepared, replay_prepared, described_prepared}
use Rattle.shim_tool.proofs.prepared.prepare_source.Goals as goal

pub returns-in_ok-answer_description-in-Describes : goal.returns-in_ok-answer_description-in-Describes
returns-in_ok-answer_description-in-Describes c =
    described_prepared c.args.job (beside_view c.args.beside) c.args.bytes.now c.in-Describes.description _ (sym (ap (λ (r : ModeRow). r.task) c.row.ensures) ∙ c.in-Describes.is) c.in_ok-answer_description-in-Describes.ensures

pub prepare_run-requires-clause-runs : goal.prepare_run-requires-clause-runs
prepare_run-requires-clause-runs c = sym (ap (λ (r : ModeRow). r.task) c.row.ensures) ∙ c.in-Runs.is

pub returns-in-Runs : goal.returns-in-Runs
returns-in-Runs c = if_ok_weaker c.prepare_run.result _ _ (λ p h. h (beside_view c.args.beside) refl) c.prepare_run.ensures

pub returns-in-Records : goal.returns-in-Records
returns-in-Records c = if_ok_weaker c.leave_to_record.result _ _
    (λ p h. record_prepared c.args.job (beside_view c.args.beside) c.args.bytes.now (prepared_view p) (sym (ap (λ (r : ModeRow). r.task) c.row.ensures) ∙ c.in-Records.is) h) c.leave_to_record.ensures

pub returns-in_ok-answer_replay-in-Replays : goal.returns-in_ok-answer_replay-in-Replays
returns-in_ok-answer_replay-in-Replays c =
    replay_prepared c.args.job (beside_view c.args.beside) c.args.bytes.now c.as_slice.result.now _ (sym c.as_slice.ensures) (sym (ap (λ (r : ModeRow). r.task) c.row.ensures) ∙ c.in-Replays.is)
    c.in_ok-answer_replay-in-Replays.ensures

pub returns-in_ok-answer_reasons-in-Explains : goal.returns-in_ok-answer_reasons-in-Explains
returns-in_ok-answer_reasons-in-Explains c =
    reasons_prepared c.args.job (beside_view c.args.beside) c.args.bytes.now _ (sym (ap (λ (r : ModeRow). r.task) c.row.ensures) ∙ c.in-Explains.is) c.in_ok-answer_reasons-in-Explains.ensures

pub returns-in-RunsEach : goal.returns-in-RunsEach
returns-in-RunsEach c = if_ok_weaker c.leave_to_run_each.result _ _
    (λ p h. each_prepared c.args.job (beside_view c.args.beside) c.args.bytes.now (prepared_view p) (sym (ap (λ (r : ModeRow). r.task) c.row.ensures) ∙ c.in-RunsEach.is) h) c.leave_to_run_each.ensures
