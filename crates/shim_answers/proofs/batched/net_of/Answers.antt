use denote.Param.Send.{sendable}
use Rattle.std.proofs.Common.{ap, ◌∙◌}
use Rattle.shim_process.specs.Forks.{root}
use Rattle.shim_process.specs.LocalState.{LocalState}
use Rattle.shim_net.specs.Nets.{started}
use Rattle.shim_reference.proofs.RootChannels.{main_shares_its_own}
use Rattle.shim_vm.proofs.Sends.{body_send}
use Rattle.shim_results.proofs.ExecuteLemmas.{if_ok_weaker}
use Rattle.shim_answers.proofs.NetEnds.{root_path}
use Rattle.shim_answers.proofs.batched.net_of.Goals as goal

pub start-requires-send-L : goal.start-requires-send-L
start-requires-send-L c κs = search (body_send, sendable)

pub start-requires-clause-path : goal.start-requires-clause-path
start-requires-clause-path c κs = root_path _ _ _ c.in_ok-main.ensures.value

pub start-requires-clause-own : goal.start-requires-clause-own
start-requires-clause-own c κs = main_shares_its_own _ _ _ c.in_ok-main.ensures.value

pub returns : goal.returns
returns c =
    if_ok_weaker c.start.result _ _
    (λ net is. is ∙ ap (λ (m : LocalState). started m c.args.budget) (c.in_ok-main.ensures.value ∙ ap (root c.args.code) c.in_ok-input.ensures)) c.start.ensures
