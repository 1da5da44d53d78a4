use Rattle.std.proofs.Common.{◌<◌, ◌+◌, refl, sym, ap, subst, ◌∙◌}
use Rattle.shim_local.specs.Process.{AtThrow}
use Rattle.shim_semantics.specs.Trees.{Own, steps, with_logs}
use Rattle.shim_laws_table.specs.NodeStatus.{lives}
use Rattle.shim_run_log.specs.Logged.{logged}
use Rattle.shim_process_table.specs.Acting.{status_by_throw, throw_effects}
use Rattle.shim_run_state.specs.Fields.{view_of}
use Rattle.shim_run_state.specs.RunStates.{tree_in}
use Rattle.shim_run_state.specs.CheckingOut.{HappensIn}
use Rattle.shim_run_state.proofs.Acted.{AddsEffects, throw_puts_none, one_may_be_counted, own_done, still_serves}
use Rattle.shim_run_state.proofs.run_state.RunState.throw.Goals as goal

pub acted-requires-clause-few : goal.acted-requires-clause-few
acted-requires-clause-few g c κs within count e =
    let o = g.L.Local.ops in
    let law = (g.met.L.Local g.world.𝓛 g.world.𝓜 g.world.𝓡 ((λ s x. x), (λ x. x), (λ x. x), λ x. x)).laws in
    let w = c.self.inside in
    let v = view_of w.begun.value w.table w.output.items w.histories (logged w.logs.items) w.process_lists w.past.items w.events in
    let n = c.args.number in
    let few = subst (λ z. steps (tree_in o z) < 4000000) (sym c.self.view_is) c.requires.few in
    let a = c.throw-thrown.ensures.acts in
    one_may_be_counted o law v n a.first a.process lives a.has few count e

pub acted-requires-clause-serves : goal.acted-requires-clause-serves
acted-requires-clause-serves g c κs within =
    let o = g.L.Local.ops in
    let law = (g.met.L.Local g.world.𝓛 g.world.𝓜 g.world.𝓡 ((λ s x. x), (λ x. x), (λ x. x), λ x. x)).laws in
    let w = c.self.inside in
    let v = view_of w.begun.value w.table w.output.items w.histories (logged w.logs.items) w.process_lists w.past.items w.events in
    let n = c.args.number in
    let a = c.throw-thrown.ensures.acts in
    let x = view_of w.begun.value c.throw-thrown.new.self w.output.items w.histories (logged w.logs.items) w.process_lists w.past.items w.events in
    still_serves o law v x c.self.invariant.0 c.throw-thrown.result.1.forks n (AtThrow c.args.label) (status_by_throw c.throw-thrown.result.0) (throw_effects c.throw-thrown.result.0) a w.process_lists c.self.invariant.0.serves

pub invariant_of-self-2 : goal.invariant_of-self-2
invariant_of-self-2 g c =
    let o = g.L.Local.ops in
    let law = (g.met.L.Local g.world.𝓛 g.world.𝓜 g.world.𝓡 ((λ s x. x), (λ x. x), (λ x. x), λ x. x)).laws in
    let w = c.self.inside in
    let v = view_of w.begun.value w.table w.output.items w.histories (logged w.logs.items) w.process_lists w.past.items w.events in
    let n = c.args.number in
    let few = subst (λ z. steps (tree_in o z) < 4000000) (sym c.self.view_is) c.requires.few in
    let a = c.throw-thrown.ensures.acts in
    let u = view_of w.begun.value c.throw-thrown.new.self w.output.items w.histories (logged c.log_catch.new.logs.items) c.acted.new.self w.past.items w.events in
    let at_path = c.in_ok-path.ensures ∙ c.path.ensures a.process a.has.state_is in
    let added : AddsEffects o law v u c.self.invariant.0 c.throw-thrown.result.1.forks n (AtThrow c.args.label) (status_by_throw c.throw-thrown.result.0) (throw_effects c.throw-thrown.result.0) a = record {
      output = throw_puts_none w.output.items c.throw-thrown.result.0;
      histories = refl;
      logs = c.log_catch.ensures ∙ (λ j. with_logs (logged (c.in_ok-reserve.ensures.items j)) (at_path j) (throw_effects c.throw-thrown.result.0).logs);
      past = refl;
    } in
    let r = own_done o law v u c.self.invariant.0 c.throw-thrown.result.1.forks n (AtThrow c.args.label) (status_by_throw c.throw-thrown.result.0) (throw_effects c.throw-thrown.result.0) a refl (λ e. absurd cc) added c.acted.ensures.counted c.acted.ensures.requeues refl few in
    (r.0, ap (λ z. z + 1) c.self.invariant.1 ∙ sym r.2)

pub returns-clause-ok : goal.returns-clause-ok
returns-clause-ok g c =
    let o = g.L.Local.ops in
    let law = (g.met.L.Local g.world.𝓛 g.world.𝓜 g.world.𝓡 ((λ s x. x), (λ x. x), (λ x. x), λ x. x)).laws in
    let w = c.self.inside in
    let v = view_of w.begun.value w.table w.output.items w.histories (logged w.logs.items) w.process_lists w.past.items w.events in
    let n = c.args.number in
    let few = subst (λ z. steps (tree_in o z) < 4000000) (sym c.self.view_is) c.requires.few in
    let a = c.throw-thrown.ensures.acts in
    let u = view_of w.begun.value c.throw-thrown.new.self w.output.items w.histories (logged c.log_catch.new.logs.items) c.acted.new.self w.past.items w.events in
    let at_path = c.in_ok-path.ensures ∙ c.path.ensures a.process a.has.state_is in
    let added : AddsEffects o law v u c.self.invariant.0 c.throw-thrown.result.1.forks n (AtThrow c.args.label) (status_by_throw c.throw-thrown.result.0) (throw_effects c.throw-thrown.result.0) a = record {
      output = throw_puts_none w.output.items c.throw-thrown.result.0;
      histories = refl;
      logs = c.log_catch.ensures ∙ (λ j. with_logs (logged (c.in_ok-reserve.ensures.items j)) (at_path j) (throw_effects c.throw-thrown.result.0).logs);
      past = refl;
    } in
    let r = own_done o law v u c.self.invariant.0 c.throw-thrown.result.1.forks n (AtThrow c.args.label) (status_by_throw c.throw-thrown.result.0) (throw_effects c.throw-thrown.result.0) a refl (λ e. absurd cc) added c.acted.ensures.counted c.acted.ensures.requeues refl few in
    let path = c.in_ok-copy.ensures ∙ at_path in
    subst (λ z. HappensIn o z u (Own c.in_ok-copy.field-0)) c.self.view_is (subst (λ z. HappensIn o v u (Own z)) (sym path) r.1)
