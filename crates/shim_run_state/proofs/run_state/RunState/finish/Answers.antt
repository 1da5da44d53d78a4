use Rattle.std.proofs.Common.{◌<◌, ◌+◌, refl, sym, ap, subst, ◌∙◌}
use Rattle.std.proofs.lemmas.List.{append-nil}
use Rattle.shim_local.specs.Process.{AtFinish}
use Rattle.shim_semantics.specs.Acts.{nothing}
use Rattle.shim_semantics.specs.Trees.{End, steps}
use Rattle.shim_laws_table.specs.NodeStatus.{ends}
use Rattle.shim_run_log.specs.Logged.{logged}
use Rattle.shim_run_state.specs.Fields.{view_of}
use Rattle.shim_run_state.specs.RunStates.{tree_in}
use Rattle.shim_run_state.specs.CheckingOut.{HappensIn}
use Rattle.shim_run_state.proofs.Acted.{AddsEffects, end_done, still_serves}
use Rattle.shim_run_state.proofs.Enqueued.{ended_nowhere}
use Rattle.shim_run_state.proofs.run_state.RunState.finish.Goals as goal

pub requeue-requires-clause-queue : goal.requeue-requires-clause-queue
requeue-requires-clause-queue g c κs within =
    let a = c.end_process-forks.ensures in
    ended_nowhere g.L.Local.ops c.end_process-forks.new.self c.args.number a.becomes.first _ a.becomes.mine

pub requeue-requires-clause-serves : goal.requeue-requires-clause-serves
requeue-requires-clause-serves g c κs within =
    let o = g.L.Local.ops in
    let law = (g.met.L.Local g.world.𝓛 g.world.𝓜 g.world.𝓡 ((λ s x. x), (λ x. x), (λ x. x), λ x. x)).laws in
    let w = c.self.inside in
    let v = view_of w.begun.value w.table w.output.items w.histories (logged w.logs.items) w.process_lists w.past.items w.events in
    let n = c.args.number in
    let a = c.end_process-forks.ensures in
    let x = view_of w.begun.value c.end_process-forks.new.self w.output.items w.histories (logged w.logs.items) w.process_lists w.past.items w.events in
    still_serves o law v x c.self.invariant.0 (c.end_process-forks.result + 1) n AtFinish ends nothing a w.process_lists c.self.invariant.0.serves

pub invariant_of-self : goal.invariant_of-self
invariant_of-self g c =
    let o = g.L.Local.ops in
    let law = (g.met.L.Local g.world.𝓛 g.world.𝓜 g.world.𝓡 ((λ s x. x), (λ x. x), (λ x. x), λ x. x)).laws in
    let w = c.self.inside in
    let v = view_of w.begun.value w.table w.output.items w.histories (logged w.logs.items) w.process_lists w.past.items w.events in
    let n = c.args.number in
    let few = subst (λ z. steps (tree_in o z) < 4000000) (sym c.self.view_is) c.requires.few in
    let a = c.end_process-forks.ensures in
    let u = view_of w.begun.value c.end_process-forks.new.self w.output.items w.histories (logged w.logs.items) c.requeue.new.self w.past.items (w.events + 1) in
    let added : AddsEffects o law v u c.self.invariant.0 (c.end_process-forks.result + 1) n AtFinish ends nothing a = record {
      output = sym (append-nil w.output.items);
      histories = refl;
      logs = refl;
      past = refl;
    } in
    let r = end_done o law v u c.self.invariant.0 (c.end_process-forks.result + 1) n AtFinish ends nothing a refl (λ e. absurd cc) added c.requeue.ensures.own c.requeue.ensures.requeues refl few in
    (r.0, ap (λ z. z + 1) c.self.invariant.1 ∙ sym r.2)

pub returns-clause-ok : goal.returns-clause-ok
returns-clause-ok g c =
    let o = g.L.Local.ops in
    let law = (g.met.L.Local g.world.𝓛 g.world.𝓜 g.world.𝓡 ((λ s x. x), (λ x. x), (λ x. x), λ x. x)).laws in
    let w = c.self.inside in
    let v = view_of w.begun.value w.table w.output.items w.histories (logged w.logs.items) w.process_lists w.past.items w.events in
    let n = c.args.number in
    let few = subst (λ z. steps (tree_in o z) < 4000000) (sym c.self.view_is) c.requires.few in
    let a = c.end_process-forks.ensures in
    let u = view_of w.begun.value c.end_process-forks.new.self w.output.items w.histories (logged w.logs.items) c.requeue.new.self w.past.items (w.events + 1) in
    let added : AddsEffects o law v u c.self.invariant.0 (c.end_process-forks.result + 1) n AtFinish ends nothing a = record {
      output = sym (append-nil w.output.items);
      histories = refl;
      logs = refl;
      past = refl;
    } in
    let r = end_done o law v u c.self.invariant.0 (c.end_process-forks.result + 1) n AtFinish ends nothing a refl (λ e. absurd cc) added c.requeue.ensures.own c.requeue.ensures.requeues refl few in
    let path = c.in_ok-copy.ensures ∙ c.path.ensures a.process a.has.state_is in
    subst (λ z. HappensIn o z u (End c.in_ok-copy.field-0)) c.self.view_is (subst (λ z. HappensIn o v u (End z)) (sym path) r.1)
