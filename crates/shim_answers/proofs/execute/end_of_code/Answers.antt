use denote.Param.Send.{sendable}
use Rattle.std.proofs.Common.{◌∙◌}
use Rattle.shim_reference.specs.Naming.{named}
use Rattle.shim_vm.proofs.Sends.{body_send}
use Rattle.shim_results.specs.SourceActions.{executed}
use Rattle.shim_answers.proofs.NetEnds.{net_ended}
use Rattle.shim_answers.proofs.execute.end_of_code.Goals as goal

pub ended-requires-send-L : goal.ended-requires-send-L
ended-requires-send-L g c κs = search (body_send, sendable)

pub returns : goal.returns
returns g c =
    net_ended (executed c.args.job.now c.args.input c.args.source.now) c.in_ok-net.net c.named.result c.in_ok-net.ensures
    c.in_ok-ended.ensures.agrees c.in_ok-ended.ensures.read_off
    (c.named.ensures ∙ (λ i. named (c.main_throws.ensures.value i) (c.in_ok-ended.ensures.ended i)))
