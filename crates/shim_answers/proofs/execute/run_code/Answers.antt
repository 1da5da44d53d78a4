use denote.Param.Send.{sendable}
use Rattle.std.proofs.Common.{◌∙◌}
use Rattle.shim_process.specs.Forks.{root}
use Rattle.shim_reference.proofs.RootChannels.{main_shares_its_own}
use Rattle.shim_vm.proofs.Sends.{body_send}
use Rattle.shim_results.specs.SourceActions.{executed}
use Rattle.shim_answers.proofs.NetEnds.{net_was, root_path}
use Rattle.shim_answers.proofs.execute.run_code.Goals as goal

pub start-requires-send-L : goal.start-requires-send-L
start-requires-send-L g c κs = search (body_send, sendable)

pub start-requires-clause-path : goal.start-requires-clause-path
start-requires-clause-path g c κs = root_path _ _ _ c.in_ok-main.ensures.value

pub start-requires-clause-own : goal.start-requires-clause-own
start-requires-clause-own g c κs = main_shares_its_own _ _ _ c.in_ok-main.ensures.value

pub run_net-requires-send-L : goal.run_net-requires-send-L
run_net-requires-send-L g c κs = search (body_send, sendable)

pub returns : goal.returns
returns g c =
    let code = c.in_ok-code.ensures ∙ c.in_ok-compile.ensures in
    net_was c.run_net.result (executed c.args.job.now c.args.input c.args.source.now) c.in_ok-main.main c.in_ok-begun.begun
    (c.in_ok-main.ensures.value ∙ (λ i. root (code i) (c.in_ok-input.ensures i)))
    c.in_ok-begun.ensures c.run_net.ensures.root c.run_net.ensures.budget c.run_net.ensures.keeps c.run_net.ensures.quiescent_or_spent
