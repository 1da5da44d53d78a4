use Rattle.std.proofs.Common.{true, refl, sym, subst, ap, ◌∙◌, slice_set, w64, FitsSigned, rules}
use Rattle.std.proofs.lemmas.Int.{to_z-of_z}
use Rattle.shim_process_table.specs.Meeting.{WaitsAt, HasReceived}
use Rattle.shim_laws_table_events.specs.meetings.Meetings.{ReceivesOne}
use Rattle.shim_process_table.proofs.HereMeets.{receives_one, still_kept}
use Rattle.shim_process_table.proofs.Received.{has_received}
use Rattle.shim_process_table.proofs.process_table.ProcessTable.receive.Goals as goal

pub returns-clause-receives : goal.returns-clause-receives
returns-clause-receives g c =
    let o = g.L.Local.ops in
    let law = (g.met.L.Local g.world.𝓛 g.world.𝓜 g.world.𝓡 ((λ s x. x), (λ x. x), (λ x. x), λ x. x)).laws in
    let v = c.self.inside in
    let fits : FitsSigned w64 c.args.v = search rules in
    let ch = c.args.c.now.channel in
    let before = subst (λ z. WaitsAt o ch c.args.number z true) (sym c.self.view_is) c.if-not-waits_at.ensures in
    subst (λ z. ReceivesOne o ch c.args.v c.args.number z (record { states = slice_set v.states.items c.args.number c.receive.new.self; records = c.move_on-to_requeue.new.records.items })) c.self.view_is
    (receives_one o ch law c.args.v v.states.items v.records.items c.move_on-to_requeue.new.records.items c.args.number c.index_mut.result.now c.receive.new.self c.index.result.now before c.index_mut.ensures.value (c.receive.ensures ∙ ap (o.receive c.index_mut.result.now) (to_z-of_z w64 c.args.v fits)) c.index.ensures c.move_on-to_requeue.ensures.moves)

pub returns-clause-here : goal.returns-clause-here
returns-clause-here g c =
    let o = g.L.Local.ops in
    let law = (g.met.L.Local g.world.𝓛 g.world.𝓜 g.world.𝓡 ((λ s x. x), (λ x. x), (λ x. x), λ x. x)).laws in
    let v = c.self.inside in
    let fits : FitsSigned w64 c.args.v = search rules in
    let ch = c.args.c.now.channel in
    let before = subst (λ z. WaitsAt o ch c.args.number z true) (sym c.self.view_is) c.if-not-waits_at.ensures in
    subst (λ z. HasReceived o ch c.args.v c.args.number c.move_on-to_requeue.result z (record { states = slice_set v.states.items c.args.number c.receive.new.self; records = c.move_on-to_requeue.new.records.items })) c.self.view_is
    (has_received o ch law c.args.v v.states.items v.records.items c.move_on-to_requeue.new.records.items c.args.number c.index_mut.result.now c.receive.new.self c.index.result.now before c.index_mut.ensures.value (c.receive.ensures ∙ ap (o.receive c.index_mut.result.now) (to_z-of_z w64 c.args.v fits)) c.index.ensures c.move_on-to_requeue.ensures.moves
    c.self.invariant c.move_on-to_requeue.result c.move_on-to_requeue.ensures.newly_ready c.move_on-to_requeue.ensures.queue)

pub invariant_of-self : goal.invariant_of-self
invariant_of-self g c =
    let o = g.L.Local.ops in
    let law = (g.met.L.Local g.world.𝓛 g.world.𝓜 g.world.𝓡 ((λ s x. x), (λ x. x), (λ x. x), λ x. x)).laws in
    let v = c.self.inside in
    let fits : FitsSigned w64 c.args.v = search rules in
    let ch = c.args.c.now.channel in
    let before = subst (λ z. WaitsAt o ch c.args.number z true) (sym c.self.view_is) c.if-not-waits_at.ensures in
    still_kept o ch law c.args.v v.states.items v.records.items c.move_on-to_requeue.new.records.items c.args.number c.index_mut.result.now c.receive.new.self c.index.result.now before c.index_mut.ensures.value (c.receive.ensures ∙ ap (o.receive c.index_mut.result.now) (to_z-of_z w64 c.args.v fits)) c.index.ensures c.move_on-to_requeue.ensures.moves c.self.invariant

pub returns-then-not-waits_at-clause-here : goal.returns-then-not-waits_at-clause-here
returns-then-not-waits_at-clause-here g c = (refl, c.if-not-waits_at.ensures)
