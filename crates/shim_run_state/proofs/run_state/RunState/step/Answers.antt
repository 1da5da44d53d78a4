use Rattle.std.proofs.Common.{◌≤◌, ◌+◌, refl, sym, ap, subst, ◌∙◌, arith}
use Rattle.shim_semantics.specs.Trees.{steps}
use Rattle.shim_laws_table_events.specs.queues.EventQueue.{is_listed}
use Rattle.shim_run_log.specs.Logged.{logged}
use Rattle.shim_run_state.specs.Fields.{view_of}
use Rattle.shim_run_state.specs.RunStates.{tree_in}
use Rattle.shim_run_state.specs.CheckingOut.{IsHomeAt, StepsIn}
use Rattle.shim_run_state.proofs.Stepped.{SameEffects, does_steps, few_counted, still_used, still_serves, advanced_by, steps_keep, steps_in}
use Rattle.shim_run_state.proofs.run_state.RunState.step.Goals as goal

pub step-requires-after_bounds : goal.step-requires-after_bounds
step-requires-after_bounds g c κs within =
    let l = c.requires.home.0 in
    let home = subst (λ z. IsHomeAt g.L.Local.ops z c.args.number l) (sym c.self.view_is) c.requires.home.1 in
    (home.at_quiet.first, l, home.at_quiet.has, home.at_quiet.stop_is)

pub acted-requires-clause-few : goal.acted-requires-clause-few
acted-requires-clause-few g c κs within count e =
    let o = g.L.Local.ops in
    let w = c.self.inside in
    let v = view_of w.begun.value w.table w.output.items w.histories (logged w.logs.items) w.process_lists w.past.items w.events in
    let n = c.args.number in
    let l = c.requires.home.0 in
    let home = subst (λ z. IsHomeAt o z n l) (sym c.self.view_is) c.requires.home.1 in
    let few = subst (λ z. steps (tree_in o z) + c.args.most ≤ 4000000) (sym c.self.view_is) c.requires.few in
    few_counted o v n c.step.result.0.taken c.args.most l home.at_quiet c.step.ensures.most few count e

pub acted-requires-clause-used : goal.acted-requires-clause-used
acted-requires-clause-used g c κs within =
    let o = g.L.Local.ops in
    let w = c.self.inside in
    let v = view_of w.begun.value w.table w.output.items w.histories (logged w.logs.items) w.process_lists w.past.items w.events in
    let n = c.args.number in
    let l = c.requires.home.0 in
    let home = subst (λ z. IsHomeAt o z n l) (sym c.self.view_is) c.requires.home.1 in
    let taken = c.step.result.0.taken in
    let table = c.step.new.self in
    let d = does_steps o w.table table n taken l home.at_quiet c.step.ensures.steps in
    still_used o v table n taken l home.at_quiet d

pub acted-requires-clause-serves : goal.acted-requires-clause-serves
acted-requires-clause-serves g c κs within =
    let o = g.L.Local.ops in
    let w = c.self.inside in
    let v = view_of w.begun.value w.table w.output.items w.histories (logged w.logs.items) w.process_lists w.past.items w.events in
    let n = c.args.number in
    let l = c.requires.home.0 in
    let home = subst (λ z. IsHomeAt o z n l) (sym c.self.view_is) c.requires.home.1 in
    let taken = c.step.result.0.taken in
    let table = c.step.new.self in
    let d = does_steps o w.table table n taken l home.at_quiet c.step.ensures.steps in
    still_serves o v table n taken l home.at_quiet d w.process_lists c.self.invariant.0.serves

pub invariant_of-self : goal.invariant_of-self
invariant_of-self g c =
    let o = g.L.Local.ops in
    let law = (g.met.L.Local g.world.𝓛 g.world.𝓜 g.world.𝓡 ((λ s x. x), (λ x. x), (λ x. x), λ x. x)).laws in
    let w = c.self.inside in
    let v = view_of w.begun.value w.table w.output.items w.histories (logged w.logs.items) w.process_lists w.past.items w.events in
    let n = c.args.number in
    let l = c.requires.home.0 in
    let home = subst (λ z. IsHomeAt o z n l) (sym c.self.view_is) c.requires.home.1 in
    let few = subst (λ z. steps (tree_in o z) + c.args.most ≤ 4000000) (sym c.self.view_is) c.requires.few in
    let taken = c.step.result.0.taken in
    let table = c.step.new.self in
    let d = does_steps o w.table table n taken l home.at_quiet c.step.ensures.steps in
    let u = view_of w.begun.value table w.output.items w.histories (logged w.logs.items) c.acted.new.self w.past.items w.events in
    let unchanged : SameEffects v u = record { output = refl; histories = refl; logs = refl; past = refl; events = refl } in
    let most = c.step.ensures.most in
    let a = advanced_by o law v u c.self.invariant.0 n taken l home.at_quiet d (λ i far. ap (λ z. is_listed z i) c.acted.ensures.requeues.checked_out) (ap (λ z. is_listed z n) c.acted.ensures.requeues.checked_out ∙ home.free) unchanged c.acted.ensures.counted in (
      steps_keep o law v u c.self.invariant.0 n taken l home.at_quiet d (λ i far. ap (λ z. is_listed z i) c.acted.ensures.requeues.checked_out) (ap (λ z. is_listed z n) c.acted.ensures.requeues.checked_out ∙ home.free) unchanged c.acted.ensures.counted c.step.result.1.forks (omega (arith, few, most)) c.step.ensures.newly_ready c.acted.ensures.requeues.event_queue c.acted.ensures.requeues.ready_queue,
      ap (λ z. z + taken) c.self.invariant.1 ∙ sym a.counts,
    )

pub returns : goal.returns
returns g c l h =
    let o = g.L.Local.ops in
    let law = (g.met.L.Local g.world.𝓛 g.world.𝓜 g.world.𝓡 ((λ s x. x), (λ x. x), (λ x. x), λ x. x)).laws in
    let w = c.self.inside in
    let v = view_of w.begun.value w.table w.output.items w.histories (logged w.logs.items) w.process_lists w.past.items w.events in
    let n = c.args.number in
    let home = subst (λ z. IsHomeAt o z n l) (sym c.self.view_is) h in
    let taken = c.step.result.0.taken in
    let table = c.step.new.self in
    let d = does_steps o w.table table n taken l home.at_quiet c.step.ensures.steps in
    let u = view_of w.begun.value table w.output.items w.histories (logged w.logs.items) c.acted.new.self w.past.items w.events in
    let unchanged : SameEffects v u = record { output = refl; histories = refl; logs = refl; past = refl; events = refl } in
    subst (λ z. StepsIn o z u n c.args.most c.step.result.0 l) c.self.view_is
    (steps_in o law v u c.self.invariant.0 n taken l home.at_quiet d (λ i far. ap (λ z. is_listed z i) c.acted.ensures.requeues.checked_out) (ap (λ z. is_listed z n) c.acted.ensures.requeues.checked_out ∙ home.free) unchanged c.acted.ensures.counted c.args.most c.step.result.0 refl c.step.ensures.most c.step.ensures.fewer home.free)
