use Rattle.std.proofs.Common.{◌≡◌, [], List, ap, ◌∙◌, arith}
use Rattle.std.proofs.lemmas.Slice.Zip.{AllZip-long}
use denote.Param.Send.{sendable}
use Rattle.shim_local.specs.declared.Ended.{Ended}
use Rattle.shim_process.specs.Forks.{root}
use Rattle.shim_net.specs.Nets.{started}
use Rattle.shim_vm.proofs.Sends.{body_send}
use Rattle.shim_results.specs.Batches.{greatest, reports_of, statuses_of}
use Rattle.shim_results.specs.SourceActions.{executed}
use Rattle.shim_answers.proofs.BatchNets.{each_answered, have_stopped}
use Rattle.shim_answers.proofs.batched.answer_each.Goals as goal

pub batch-requires-send-L : goal.batch-requires-send-L
batch-requires-send-L g c κs = search (body_send, sendable)

pub batch-requires-clause-nets : goal.batch-requires-clause-nets
batch-requires-clause-nets g c κs = λ lives.
    let long = AllZip-long (λ input net. net ≡ started (root c.args.run.source input) c.args.run.job.budget) c.args.run.inputs c.in_ok-nets.nets c.in_ok-nets.ensures in
    let few = c.requires.few in
    (omega (arith, long, few.0), omega (arith, long, few.1))

pub ends_of-requires : goal.ends_of-requires
ends_of-requires g c = have_stopped c.in_ok-nets.nets c.in_ok-done.done c.in_ok-done.ensures.runs

pub returns : goal.returns
returns g c =
    let job = c.args.run.job in
    let source = c.args.run.source in
    each_answered job.inputs (executed job [] source) c.args.run.inputs c.in_ok-nets.nets c.in_ok-done.done c.in_ok-ends.ends _ _ c.requires.named c.in_ok-nets.ensures c.in_ok-done.ensures.runs c.in_ok-ends.ensures
    (c.greatest_status.ensures ∙ ap (λ (es : List Ended). greatest (statuses_of es)) c.as_slice.ensures)
    (c.in_ok-reports.ensures ∙ (λ i. reports_of source (c.as_slice-2.ensures i) (c.as_slice-3.ensures i)))
