use Rattle.std.proofs.lemmas.Result.{IfOk-weaker}
use Rattle.shim_tool.specs.Moments.{files_at}
use Rattle.shim_tool.specs.PreparedView.{prepared_view}
use Rattle.shim_tool.proofs.Preparing.{each_row_asked, prepared_within, record_row_asked, run_row_asked}
use Rattle.shim_tool.proofs.prepared.prepare.Goals as goal

pub returns-in-Ok-clause-run : goal.returns-in-Ok-clause-run
returns-in-Ok-clause-run g c = IfOk-weaker c.prepare_job.result _ _ (λ p h. run_row_asked _ c.in-Ok.job _ _ (prepared_view p) c.in-Ok.ensures.job h) c.prepare_job.ensures.prepared

pub returns-in-Ok-clause-recorded : goal.returns-in-Ok-clause-recorded
returns-in-Ok-clause-recorded g c = IfOk-weaker c.prepare_job.result _ _ (λ p h. record_row_asked _ c.in-Ok.job _ _ (prepared_view p) c.in-Ok.ensures.job h) c.prepare_job.ensures.prepared

pub returns-in-Ok-clause-each : goal.returns-in-Ok-clause-each
returns-in-Ok-clause-each g c = IfOk-weaker c.prepare_job.result _ _ (λ p h. each_row_asked _ c.in-Ok.job _ _ (prepared_view p) c.in-Ok.ensures.job h) c.prepare_job.ensures.prepared

pub returns-in-Ok-clause-within : goal.returns-in-Ok-clause-within
returns-in-Ok-clause-within g c =
    let before = files_at g.F.Files.held g.F.Files.sound g.F.Files.failed c.args.files.now in
    let now = files_at g.F.Files.held g.F.Files.sound g.F.Files.failed c.prepare_job.new.files in
    IfOk-weaker c.prepare_job.result _ _ (λ p h. prepared_within c.in-Ok.job before now (prepared_view p) c.in-Ok.ensures.within h) c.prepare_job.ensures.prepared
