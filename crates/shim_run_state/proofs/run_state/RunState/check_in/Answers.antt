use Rattle.std.proofs.Common.{◌≡◌, ◌≢◌, ◌≤◌, ◌+◌, ℕ, false, slice_set, refl, sym, ap, subst, ◌∙◌, arith}
use Rattle.std.specs.Prelude.{slice_get}
use Rattle.shim_semantics.specs.Trees.{steps}
use Rattle.shim_laws_table_events.specs.queues.EventQueue.{is_listed}
use Rattle.shim_run_log.specs.Logged.{logged}
use Rattle.shim_process_table.specs.Stepping.{QuietlyReaches}
use Rattle.shim_run_state.specs.Fields.{view_of}
use Rattle.shim_run_state.specs.RunStates.{tree_in}
use Rattle.shim_run_state.specs.CheckingOut.{CheckedOutReaches, ChecksIn}
use Rattle.shim_run_state.specs.ProcessLists.{ProcessListsView, Serves}
use Rattle.shim_run_state.specs.Enqueueing.{HasCounted, ListsInEventQueue, ListsInReadyQueue}
use Rattle.shim_run_state.proofs.Flags.{far_flag, flag_put}
use Rattle.shim_run_state.proofs.Stepped.{SameEffects, does_steps, few_counted, still_used, still_serves, advanced_by, steps_keep, checks_in}
use Rattle.shim_run_state.proofs.run_state.RunState.check_in.Goals as goal

pub acted-requires-clause-few : goal.acted-requires-clause-few
acted-requires-clause-few g c κs within count e =
    let o = g.L.Local.ops in
    let w = c.self.inside in
    let v = view_of w.begun.value w.table w.output.items w.histories (logged w.logs.items) w.process_lists w.past.items w.events in
    let n = c.args.number in
    let l = c.requires.did.0 in
    let checked_out = subst (λ z. CheckedOutReaches o z n c.args.taken l c.args.last) (sym c.self.view_is) c.requires.did.1 in
    let few = subst (λ z. steps (tree_in o z) + c.args.taken ≤ 4000000) (sym c.self.view_is) c.requires.few in
    few_counted o v n c.args.taken c.args.taken l checked_out.checked_out.at_quiet (omega arith) few count (ap (λ z. slice_get z n) (ap (λ (z : ProcessListsView). z.own) (sym c.set_out.ensures.is)) ∙ e)

pub set_out-requires-clause-used : goal.set_out-requires-clause-used
set_out-requires-clause-used g c κs within =
    let o = g.L.Local.ops in
    let w = c.self.inside in
    let v = view_of w.begun.value w.table w.output.items w.histories (logged w.logs.items) w.process_lists w.past.items w.events in
    let n = c.args.number in
    let l = c.requires.did.0 in
    let checked_out = subst (λ z. CheckedOutReaches o z n c.args.taken l c.args.last) (sym c.self.view_is) c.requires.did.1 in
    let taken = c.args.taken in
    let table = c.advance-to_requeue.new.self in
    let comes : QuietlyReaches o w.table n taken c.args.last = record { first = checked_out.checked_out.at_quiet.first; process = l; has = checked_out.checked_out.at_quiet.has; stop_is = checked_out.checked_out.at_quiet.stop_is; chain = checked_out.chain } in
    let d = does_steps o w.table table n taken l checked_out.checked_out.at_quiet (c.advance-to_requeue.ensures.steps taken comes) in
    still_used o v table n taken l checked_out.checked_out.at_quiet d

pub acted-requires-clause-used : goal.acted-requires-clause-used
acted-requires-clause-used g c κs within =
    let o = g.L.Local.ops in
    let w = c.self.inside in
    let v = view_of w.begun.value w.table w.output.items w.histories (logged w.logs.items) w.process_lists w.past.items w.events in
    let n = c.args.number in
    let l = c.requires.did.0 in
    let checked_out = subst (λ z. CheckedOutReaches o z n c.args.taken l c.args.last) (sym c.self.view_is) c.requires.did.1 in
    let taken = c.args.taken in
    let table = c.advance-to_requeue.new.self in
    let comes : QuietlyReaches o w.table n taken c.args.last = record { first = checked_out.checked_out.at_quiet.first; process = l; has = checked_out.checked_out.at_quiet.has; stop_is = checked_out.checked_out.at_quiet.stop_is; chain = checked_out.chain } in
    let d = does_steps o w.table table n taken l checked_out.checked_out.at_quiet (c.advance-to_requeue.ensures.steps taken comes) in
    still_used o v table n taken l checked_out.checked_out.at_quiet d

pub set_out-requires-clause-serves : goal.set_out-requires-clause-serves
set_out-requires-clause-serves g c κs within =
    let o = g.L.Local.ops in
    let w = c.self.inside in
    let v = view_of w.begun.value w.table w.output.items w.histories (logged w.logs.items) w.process_lists w.past.items w.events in
    let n = c.args.number in
    let l = c.requires.did.0 in
    let checked_out = subst (λ z. CheckedOutReaches o z n c.args.taken l c.args.last) (sym c.self.view_is) c.requires.did.1 in
    let taken = c.args.taken in
    let table = c.advance-to_requeue.new.self in
    let comes : QuietlyReaches o w.table n taken c.args.last = record { first = checked_out.checked_out.at_quiet.first; process = l; has = checked_out.checked_out.at_quiet.has; stop_is = checked_out.checked_out.at_quiet.stop_is; chain = checked_out.chain } in
    let d = does_steps o w.table table n taken l checked_out.checked_out.at_quiet (c.advance-to_requeue.ensures.steps taken comes) in
    still_serves o v table n taken l checked_out.checked_out.at_quiet d w.process_lists c.self.invariant.0.serves

pub acted-requires-clause-serves : goal.acted-requires-clause-serves
acted-requires-clause-serves g c κs within =
    let o = g.L.Local.ops in
    let w = c.self.inside in
    let v = view_of w.begun.value w.table w.output.items w.histories (logged w.logs.items) w.process_lists w.past.items w.events in
    let n = c.args.number in
    let l = c.requires.did.0 in
    let checked_out = subst (λ z. CheckedOutReaches o z n c.args.taken l c.args.last) (sym c.self.view_is) c.requires.did.1 in
    let taken = c.args.taken in
    let table = c.advance-to_requeue.new.self in
    let comes : QuietlyReaches o w.table n taken c.args.last = record { first = checked_out.checked_out.at_quiet.first; process = l; has = checked_out.checked_out.at_quiet.has; stop_is = checked_out.checked_out.at_quiet.stop_is; chain = checked_out.chain } in
    let d = does_steps o w.table table n taken l checked_out.checked_out.at_quiet (c.advance-to_requeue.ensures.steps taken comes) in
    subst (Serves table) (sym c.set_out.ensures.is) (still_serves o v table n taken l checked_out.checked_out.at_quiet d w.process_lists c.self.invariant.0.serves)

pub invariant_of-self : goal.invariant_of-self
invariant_of-self g c =
    let o = g.L.Local.ops in
    let law = (g.met.L.Local g.world.𝓛 g.world.𝓜 g.world.𝓡 ((λ s x. x), (λ x. x), (λ x. x), λ x. x)).laws in
    let w = c.self.inside in
    let v = view_of w.begun.value w.table w.output.items w.histories (logged w.logs.items) w.process_lists w.past.items w.events in
    let n = c.args.number in
    let l = c.requires.did.0 in
    let checked_out = subst (λ z. CheckedOutReaches o z n c.args.taken l c.args.last) (sym c.self.view_is) c.requires.did.1 in
    let few = subst (λ z. steps (tree_in o z) + c.args.taken ≤ 4000000) (sym c.self.view_is) c.requires.few in
    let taken = c.args.taken in
    let table = c.advance-to_requeue.new.self in
    let comes : QuietlyReaches o w.table n taken c.args.last = record { first = checked_out.checked_out.at_quiet.first; process = l; has = checked_out.checked_out.at_quiet.has; stop_is = checked_out.checked_out.at_quiet.stop_is; chain = checked_out.chain } in
    let d = does_steps o w.table table n taken l checked_out.checked_out.at_quiet (c.advance-to_requeue.ensures.steps taken comes) in
    let mid = c.set_out.ensures.is in
    let counted : HasCounted n taken w.process_lists.own c.acted.new.self.own = subst (λ (z : ProcessListsView). HasCounted n taken z.own c.acted.new.self.own) mid c.acted.ensures.counted in
    let out_is : c.acted.new.self.checked_out ≡ slice_set w.process_lists.checked_out n false = c.acted.ensures.requeues.checked_out ∙ ap (λ (z : ProcessListsView). z.checked_out) mid in
    let u = view_of w.begun.value table w.output.items w.histories (logged w.logs.items) c.acted.new.self w.past.items w.events in
    let unchanged : SameEffects v u = record { output = refl; histories = refl; logs = refl; past = refl; events = refl } in
    let far : (i : ℕ) → i ≢ n → is_listed c.acted.new.self.checked_out i ≡ is_listed w.process_lists.checked_out i = λ i apart. ap (λ z. is_listed z i) out_is ∙ far_flag w.process_lists.checked_out i n false apart in
    let free = ap (λ z. is_listed z n) out_is ∙ flag_put w.process_lists.checked_out n false c.set_out.ensures.within in
    let a = advanced_by o law v u c.self.invariant.0 n taken l checked_out.checked_out.at_quiet d far free unchanged counted in (
      steps_keep o law v u c.self.invariant.0 n taken l checked_out.checked_out.at_quiet d far free unchanged counted c.advance-to_requeue.result.forks few c.advance-to_requeue.ensures.newly_ready (subst (λ (z : ProcessListsView). ListsInEventQueue o table c.advance-to_requeue.result.forks n z.event_queue c.acted.new.self.event_queue) mid c.acted.ensures.requeues.event_queue)
          (subst (λ (z : ProcessListsView). ListsInReadyQueue o table n z.ready_queue c.acted.new.self.ready_queue) mid c.acted.ensures.requeues.ready_queue),
      ap (λ z. z + taken) c.self.invariant.1 ∙ sym a.counts,
    )

pub returns : goal.returns
returns g c l h =
    let o = g.L.Local.ops in
    let law = (g.met.L.Local g.world.𝓛 g.world.𝓜 g.world.𝓡 ((λ s x. x), (λ x. x), (λ x. x), λ x. x)).laws in
    let w = c.self.inside in
    let v = view_of w.begun.value w.table w.output.items w.histories (logged w.logs.items) w.process_lists w.past.items w.events in
    let n = c.args.number in
    let checked_out = subst (λ z. CheckedOutReaches o z n c.args.taken l c.args.last) (sym c.self.view_is) h in
    let taken = c.args.taken in
    let table = c.advance-to_requeue.new.self in
    let comes : QuietlyReaches o w.table n taken c.args.last = record { first = checked_out.checked_out.at_quiet.first; process = l; has = checked_out.checked_out.at_quiet.has; stop_is = checked_out.checked_out.at_quiet.stop_is; chain = checked_out.chain } in
    let d = does_steps o w.table table n taken l checked_out.checked_out.at_quiet (c.advance-to_requeue.ensures.steps taken comes) in
    let mid = c.set_out.ensures.is in
    let counted : HasCounted n taken w.process_lists.own c.acted.new.self.own = subst (λ (z : ProcessListsView). HasCounted n taken z.own c.acted.new.self.own) mid c.acted.ensures.counted in
    let out_is : c.acted.new.self.checked_out ≡ slice_set w.process_lists.checked_out n false = c.acted.ensures.requeues.checked_out ∙ ap (λ (z : ProcessListsView). z.checked_out) mid in
    let u = view_of w.begun.value table w.output.items w.histories (logged w.logs.items) c.acted.new.self w.past.items w.events in
    let unchanged : SameEffects v u = record { output = refl; histories = refl; logs = refl; past = refl; events = refl } in
    let far : (i : ℕ) → i ≢ n → is_listed c.acted.new.self.checked_out i ≡ is_listed w.process_lists.checked_out i = λ i apart. ap (λ z. is_listed z i) out_is ∙ far_flag w.process_lists.checked_out i n false apart in
    let free = ap (λ z. is_listed z n) out_is ∙ flag_put w.process_lists.checked_out n false c.set_out.ensures.within in
    subst (λ z. ChecksIn o z u n taken l c.args.last) c.self.view_is
    (checks_in o law v u c.self.invariant.0 n taken l checked_out.checked_out.at_quiet d far free unchanged counted checked_out.checked_out c.args.last checked_out.chain)
