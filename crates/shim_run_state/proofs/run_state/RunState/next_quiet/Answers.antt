use Rattle.std.proofs.Common.{sym, subst}
use Rattle.shim_run_log.specs.Logged.{logged}
use Rattle.shim_run_state.specs.Fields.{view_of}
use Rattle.shim_run_state.specs.RunStates.{CountedInvariant}
use Rattle.shim_run_state.specs.CheckingOut.{IsNextQuiet}
use Rattle.shim_run_state.proofs.CheckedOut.{quiet_kept, next_is, with_process_lists}
use Rattle.shim_run_state.proofs.run_state.RunState.next_quiet.Goals as goal

pub next_at_home-requires-after_bounds : goal.next_at_home-requires-after_bounds
next_at_home-requires-after_bounds g c κs within = c.self.invariant.0.serves

pub invariant_of-self : goal.invariant_of-self
invariant_of-self g c =
    let o = g.L.Local.ops in
    let w = c.self.inside in
    let v = view_of w.begun.value w.table w.output.items w.histories (logged w.logs.items) w.process_lists w.past.items w.events in
    subst (λ z. CountedInvariant o (with_process_lists v z) w.taken) (sym c.next_at_home.ensures.rest) (quiet_kept o v c.self.invariant.0 c.next_at_home.new.self.ready_queue c.next_at_home.ensures.still, c.self.invariant.1)

pub returns : goal.returns
returns g c =
    let o = g.L.Local.ops in
    let w = c.self.inside in
    let v = view_of w.begun.value w.table w.output.items w.histories (logged w.logs.items) w.process_lists w.past.items w.events in
    let r = c.next_at_home.result in
    subst (λ z. IsNextQuiet o z (with_process_lists v c.next_at_home.new.self) r) c.self.view_is
    (subst (λ z. IsNextQuiet o v (with_process_lists v z) r) (sym c.next_at_home.ensures.rest) (next_is o v c.self.invariant.0 c.next_at_home.new.self.ready_queue r c.next_at_home.ensures.still c.next_at_home.ensures.first))
