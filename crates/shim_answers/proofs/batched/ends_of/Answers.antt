use Rattle.std.proofs.Common.{[], ◌∷◌, ◌++◌, ap, sym, ◌∙◌}
use denote.Param.Send.{sendable}
use Rattle.shim_base.proofs.Facts.{no_items}
use Rattle.shim_local.specs.declared.Ended.{Ended}
use Rattle.shim_reference.specs.Naming.{named}
use Rattle.shim_vm.proofs.Sends.{body_send}
use Rattle.shim_answers.specs.EndedNets.{end_of_net}
use Rattle.shim_answers.proofs.BatchNets.{maps_none, maps_one, rest_stopped, stopped_first}
use Rattle.shim_answers.proofs.batched.ends_of.Goals as goal

pub ended-requires-send-L : goal.ended-requires-send-L
ended-requires-send-L c κs = search (body_send, sendable)

pub ended-requires-after_bounds : goal.ended-requires-after_bounds
ended-requires-after_bounds c κs = stopped_first c.loop-net.net-iterator.rest.items c.next.new.self.rest.items c.in-Some.net c.in-Some.ensures.steps.0 c.loop-net.invariant.1

pub loop-net-preserved : goal.loop-net-preserved
loop-net-preserved c =
    let read = c.named.ensures ∙ (λ i. named (c.main_throws.ensures.value i) (c.in_ok-ended.ensures.ended i)) in (
      maps_one (λ net. end_of_net c.args.source.now net) c.args.done c.loop-net.ends c.push.new.self c.in-Some.net c.loop-net.net-iterator.rest.items c.next.new.self.rest.items c.in-Some.ensures.steps.0
          (c.in_ok-push.ensures.ok ∙ ap (λ (e : Ended). c.loop-net.ends ++ e ∷ []) read) c.loop-net.invariant.0,
      rest_stopped c.loop-net.net-iterator.rest.items c.next.new.self.rest.items c.in-Some.net c.in-Some.ensures.steps.0 c.loop-net.invariant.1,
    )

pub returns : goal.returns
returns c =
    let rest = c.loop-net.net-iterator.rest in
    maps_none (λ net. end_of_net c.args.source.now net) c.args.done c.loop-net.ends rest.items (no_items rest.items (sym rest.ok.0 ∙ c.in-None.ensures.steps.0)) c.loop-net.invariant.0
