use Rattle.std.proofs.Common.{◌<◌, ◌+◌, refl, sym, ap, subst, ◌∙◌, ◌++◌}
use Rattle.shim_local.specs.Process.{AtPut}
use Rattle.shim_semantics.specs.Acts.{putting}
use Rattle.shim_semantics.specs.Trees.{Own, steps}
use Rattle.shim_laws_table.specs.NodeStatus.{lives}
use Rattle.shim_run_log.specs.Logged.{logged}
use Rattle.shim_run_state.specs.Fields.{view_of}
use Rattle.shim_run_state.specs.RunStates.{tree_in}
use Rattle.shim_run_state.specs.CheckingOut.{HappensIn}
use Rattle.shim_run_state.proofs.Acted.{AddsEffects, put_logs_none, one_may_be_counted, own_done, still_serves}
use Rattle.shim_run_state.proofs.run_state.RunState.put.Goals as goal

pub acted-requires-clause-few : goal.acted-requires-clause-few
acted-requires-clause-few g c κs within count e =
    let o = g.L.Local.ops in
    let law = (g.met.L.Local g.world.𝓛 g.world.𝓜 g.world.𝓡 ((λ s x. x), (λ x. x), (λ x. x), λ x. x)).laws in
    let w = c.self.inside in
    let v = view_of w.begun.value w.table w.output.items w.histories (logged w.logs.items) w.process_lists w.past.items w.events in
    let n = c.args.number in
    let few = subst (λ z. steps (tree_in o z) < 4000000) (sym c.self.view_is) c.requires.few in
    let a = c.put-byte.ensures.acts in
    one_may_be_counted o law v n a.first a.process lives a.has few count e

pub acted-requires-clause-serves : goal.acted-requires-clause-serves
acted-requires-clause-serves g c κs within =
    let o = g.L.Local.ops in
    let law = (g.met.L.Local g.world.𝓛 g.world.𝓜 g.world.𝓡 ((λ s x. x), (λ x. x), (λ x. x), λ x. x)).laws in
    let w = c.self.inside in
    let v = view_of w.begun.value w.table w.output.items w.histories (logged w.logs.items) w.process_lists w.past.items w.events in
    let n = c.args.number in
    let a = c.put-byte.ensures.acts in
    let x = view_of w.begun.value c.put-byte.new.self w.output.items w.histories (logged w.logs.items) w.process_lists w.past.items w.events in
    still_serves o law v x c.self.invariant.0 c.put-byte.result.1.forks n AtPut lives (putting c.put-byte.result.0) a w.process_lists c.self.invariant.0.serves

pub invariant_of-self-2 : goal.invariant_of-self-2
invariant_of-self-2 g c =
    let o = g.L.Local.ops in
    let law = (g.met.L.Local g.world.𝓛 g.world.𝓜 g.world.𝓡 ((λ s x. x), (λ x. x), (λ x. x), λ x. x)).laws in
    let w = c.self.inside in
    let v = view_of w.begun.value w.table w.output.items w.histories (logged w.logs.items) w.process_lists w.past.items w.events in
    let n = c.args.number in
    let few = subst (λ z. steps (tree_in o z) < 4000000) (sym c.self.view_is) c.requires.few in
    let a = c.put-byte.ensures.acts in
    let u = view_of w.begun.value c.put-byte.new.self c.append_byte.new.output.items w.histories (logged w.logs.items) c.acted.new.self w.past.items w.events in
    let added : AddsEffects o law v u c.self.invariant.0 c.put-byte.result.1.forks n AtPut lives (putting c.put-byte.result.0) a = record {
      output = c.append_byte.ensures ∙ ap (λ z. z ++ (putting c.put-byte.result.0).bytes) c.in_ok-reserve.ensures.items;
      histories = refl;
      logs = put_logs_none (logged w.logs.items) (o.path a.process) c.put-byte.result.0;
      past = refl;
    } in
    let r = own_done o law v u c.self.invariant.0 c.put-byte.result.1.forks n AtPut lives (putting c.put-byte.result.0) a refl (λ e. absurd cc) added c.acted.ensures.counted c.acted.ensures.requeues refl few in
    (r.0, ap (λ z. z + 1) c.self.invariant.1 ∙ sym r.2)

pub returns-clause-ok : goal.returns-clause-ok
returns-clause-ok g c =
    let o = g.L.Local.ops in
    let law = (g.met.L.Local g.world.𝓛 g.world.𝓜 g.world.𝓡 ((λ s x. x), (λ x. x), (λ x. x), λ x. x)).laws in
    let w = c.self.inside in
    let v = view_of w.begun.value w.table w.output.items w.histories (logged w.logs.items) w.process_lists w.past.items w.events in
    let n = c.args.number in
    let few = subst (λ z. steps (tree_in o z) < 4000000) (sym c.self.view_is) c.requires.few in
    let a = c.put-byte.ensures.acts in
    let u = view_of w.begun.value c.put-byte.new.self c.append_byte.new.output.items w.histories (logged w.logs.items) c.acted.new.self w.past.items w.events in
    let added : AddsEffects o law v u c.self.invariant.0 c.put-byte.result.1.forks n AtPut lives (putting c.put-byte.result.0) a = record {
      output = c.append_byte.ensures ∙ ap (λ z. z ++ (putting c.put-byte.result.0).bytes) c.in_ok-reserve.ensures.items;
      histories = refl;
      logs = put_logs_none (logged w.logs.items) (o.path a.process) c.put-byte.result.0;
      past = refl;
    } in
    let r = own_done o law v u c.self.invariant.0 c.put-byte.result.1.forks n AtPut lives (putting c.put-byte.result.0) a refl (λ e. absurd cc) added c.acted.ensures.counted c.acted.ensures.requeues refl few in
    let path = c.in_ok-copy.ensures ∙ c.path.ensures a.process a.has.state_is in
    subst (λ z. HappensIn o z u (Own c.in_ok-copy.field-0)) c.self.view_is (subst (λ z. HappensIn o v u (Own z)) (sym path) r.1)
