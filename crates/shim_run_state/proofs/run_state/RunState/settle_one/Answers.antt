use Rattle.std.proofs.Common.{sym, subst}
use Rattle.shim_run_log.specs.Events.{event_of}
use Rattle.shim_base.proofs.Facts.{at_fault}
use Rattle.shim_run_log.specs.Logged.{logged}
use Rattle.shim_run_state.specs.Fields.{view_of}
use Rattle.shim_run_state.specs.RunStates.{CountedInvariant}
use Rattle.shim_run_state.specs.CheckingOut.{HappensIn, RestsIn}
use Rattle.shim_run_state.specs.Settling.{StaysAs}
use Rattle.shim_run_state.proofs.CheckedOut.{with_process_lists}
use Rattle.shim_run_state.proofs.NextDue.{events_kept, rests, happens_from, stays_from}
use Rattle.shim_run_state.proofs.run_state.RunState.settle_one.Goals as goal

pub invariant_of-self : goal.invariant_of-self
invariant_of-self g c =
    let o = g.L.Local.ops in
    let law = (g.met.L.Local g.world.𝓛 g.world.𝓜 g.world.𝓡 ((λ s x. x), (λ x. x), (λ x. x), λ x. x)).laws in
    let w = c.self.inside in
    let v = view_of w.begun.value w.table w.output.items w.histories (logged w.logs.items) w.process_lists w.past.items w.events in
    let flags = c.next_due.new.self.event_queue in
    let still = c.next_due.ensures.still in
    subst (λ z. CountedInvariant o (with_process_lists v z) w.taken) (sym c.next_due.ensures.rest) (events_kept o law v c.self.invariant.0 flags still, c.self.invariant.1)

pub invariant_of-self-in-Some : goal.invariant_of-self-in-Some
invariant_of-self-in-Some g c =
    let o = g.L.Local.ops in
    let law = (g.met.L.Local g.world.𝓛 g.world.𝓜 g.world.𝓡 ((λ s x. x), (λ x. x), (λ x. x), λ x. x)).laws in
    let w = c.self.inside in
    let v = view_of w.begun.value w.table w.output.items w.histories (logged w.logs.items) w.process_lists w.past.items w.events in
    let flags = c.next_due.new.self.event_queue in
    let still = c.next_due.ensures.still in
    subst (λ z. CountedInvariant o (with_process_lists v z) w.taken) (sym c.next_due.ensures.rest) (events_kept o law v c.self.invariant.0 flags still, c.self.invariant.1)

pub returns-in_err-happen-in-Some-clause-err : goal.returns-in_err-happen-in-Some-clause-err
returns-in_err-happen-in-Some-clause-err g c =
    let o = g.L.Local.ops in
    let law = (g.met.L.Local g.world.𝓛 g.world.𝓜 g.world.𝓡 ((λ s x. x), (λ x. x), (λ x. x), λ x. x)).laws in
    let w = c.self.inside in
    let v = view_of w.begun.value w.table w.output.items w.histories (logged w.logs.items) w.process_lists w.past.items w.events in
    let flags = c.next_due.new.self.event_queue in
    let still = c.next_due.ensures.still in
    at_fault c.from_residual.result (StaysAs o c.args.self.now c.happen.new.self) (subst (λ z. StaysAs o z c.happen.new.self) c.self.view_is (stays_from o law v c.self.invariant.0 flags still c.happen.new.self (subst (λ z. StaysAs o (with_process_lists v z) c.happen.new.self) c.next_due.ensures.rest c.in_err-happen-in-Some.ensures.err)))

pub returns-in-None-clause-ok : goal.returns-in-None-clause-ok
returns-in-None-clause-ok g c =
    let o = g.L.Local.ops in
    let law = (g.met.L.Local g.world.𝓛 g.world.𝓜 g.world.𝓡 ((λ s x. x), (λ x. x), (λ x. x), λ x. x)).laws in
    let w = c.self.inside in
    let v = view_of w.begun.value w.table w.output.items w.histories (logged w.logs.items) w.process_lists w.past.items w.events in
    let flags = c.next_due.new.self.event_queue in
    let still = c.next_due.ensures.still in
    subst (λ z. RestsIn o z (with_process_lists v c.next_due.new.self)) c.self.view_is
    (subst (λ z. RestsIn o v (with_process_lists v z)) (sym c.next_due.ensures.rest) (rests o law v c.self.invariant.0 flags still c.in-None.ensures.due))

pub returns-in_ok-happen-in-Some-clause-ok : goal.returns-in_ok-happen-in-Some-clause-ok
returns-in_ok-happen-in-Some-clause-ok g c =
    let o = g.L.Local.ops in
    let law = (g.met.L.Local g.world.𝓛 g.world.𝓜 g.world.𝓡 ((λ s x. x), (λ x. x), (λ x. x), λ x. x)).laws in
    let w = c.self.inside in
    let v = view_of w.begun.value w.table w.output.items w.histories (logged w.logs.items) w.process_lists w.past.items w.events in
    let flags = c.next_due.new.self.event_queue in
    let still = c.next_due.ensures.still in
    subst (λ z. HappensIn o z c.happen.new.self (event_of c.in_ok-happen-in-Some.field-0)) c.self.view_is
    (happens_from o law v c.self.invariant.0 flags still c.happen.new.self (event_of c.in_ok-happen-in-Some.field-0) (subst (λ z. HappensIn o (with_process_lists v z) c.happen.new.self (event_of c.in_ok-happen-in-Some.field-0)) c.next_due.ensures.rest c.in_ok-happen-in-Some.ensures.ok))
