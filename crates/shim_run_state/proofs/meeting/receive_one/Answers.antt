use Rattle.std.proofs.Common.{refl, subst, w64, to_z, of_z, FitsSigned, rules}
use Rattle.std.proofs.lemmas.Int.{to_z-of_z}
use Rattle.shim_laws_table.specs.NodeStatus.{lives}
use Rattle.shim_laws_table_events.specs.meetings.Meetings.{ReceivesOne}
use Rattle.shim_run_state.proofs.OneMoved.{was_used}
use Rattle.shim_run_state.proofs.Passing.{passes_none, one_passes}
use Rattle.shim_run_state.proofs.meeting.receive_one.Goals as goal

pub requeue-requires-clause-used : goal.requeue-requires-clause-used
requeue-requires-clause-used g c κs within = let h = c.in-Some.ensures.here in (h.becomes.first, _, lives, h.becomes.mine)

pub requeue-requires-clause-serves : goal.requeue-requires-clause-serves
requeue-requires-clause-serves g c κs within i u =
    let h = c.in-Some.ensures.here in
    c.requires.serves i (was_used c.args.table.now c.receive.new.self c.args.number h.first h.process _ lives lives h.has h.becomes i u)

pub requeue-requires-clause-queue : goal.requeue-requires-clause-queue
requeue-requires-clause-queue g c κs within = c.in-Some.ensures.here.queue

pub returns-in-None-clause-receives : goal.returns-in-None-clause-receives
returns-in-None-clause-receives g c =
    let fits : FitsSigned w64 c.args.value = search rules in
    subst (λ z. ReceivesOne g.L.Local.ops c.args.c.now.channel z c.args.number c.args.table.now c.receive.new.self) (to_z-of_z w64 c.args.value fits) c.receive.ensures.receives

pub returns-in-Some-clause-receives : goal.returns-in-Some-clause-receives
returns-in-Some-clause-receives g c =
    let fits : FitsSigned w64 c.args.value = search rules in
    subst (λ z. ReceivesOne g.L.Local.ops c.args.c.now.channel z c.args.number c.args.table.now c.receive.new.self) (to_z-of_z w64 c.args.value fits) c.receive.ensures.receives

pub returns-in-None-clause-passes : goal.returns-in-None-clause-passes
returns-in-None-clause-passes g c = passes_none g.L.Local.ops c.args.table.now c.receive.new.self c.args.process_lists.now c.args.process_lists.now c.in-None.ensures.here.0 refl

pub returns-in-Some-clause-passes : goal.returns-in-Some-clause-passes
returns-in-Some-clause-passes g c =
    let o = g.L.Local.ops in
    let law = (g.met.L.Local g.world.𝓛 g.world.𝓜 g.world.𝓡 ((λ s x. x), (λ x. x), (λ x. x), λ x. x)).laws in
    one_passes o law c.args.c.now.channel (to_z w64 (of_z w64 c.args.value)) c.args.number c.in-Some.to_requeue c.args.table.now c.receive.new.self c.args.process_lists.now c.requeue.new.self c.receive.ensures.receives c.in-Some.ensures.here c.requeue.ensures.own c.requeue.ensures.requeues
