use Rattle.std.proofs.Common.{◌<◌, ◌+◌, pos, refl, sym, ap, subst, ◌∙◌, [], ◌∷◌}
use Rattle.std.specs.FinMap as finite
use Rattle.std.proofs.lemmas.List.{append-nil}
use Rattle.shim_local.specs.Process.{AtTrap}
use Rattle.shim_local.specs.declared.Log.{Log}
use Rattle.shim_local.specs.declared.LogWhat.TheVariants.{Trap as LoggedTrap}
use Rattle.shim_semantics.specs.Nodes.{death_with, state}
use Rattle.shim_semantics.specs.Acts.{trapping}
use Rattle.shim_semantics.specs.Trees.{Own, steps, with_logs}
use Rattle.shim_laws_table.specs.NodeStatus.{lives, dies}
use Rattle.shim_run_log.specs.Logged.{logged}
use Rattle.shim_run_log.proofs.Logged.{with_one_more}
use Rattle.shim_process_table.specs.Stepping.{LivesAt}
use Rattle.shim_run_state.specs.Fields.{view_of}
use Rattle.shim_run_state.specs.RunStates.{tree_in}
use Rattle.shim_run_state.specs.CheckingOut.{HappensIn}
use Rattle.shim_run_state.proofs.Acted.{AddsEffects, one_may_be_counted, own_done, still_serves}
use Rattle.shim_run_state.proofs.run_state.RunState.trap.Goals as goal

pub trap-requires-after_bounds : goal.trap-requires-after_bounds
trap-requires-after_bounds g c κs within = (c.args.kind, c.args.line, subst (λ z. LivesAt g.L.Local.ops z.table c.args.number (AtTrap c.args.kind c.args.line)) (sym c.self.view_is) c.requires.lives_at)

pub acted-requires-clause-few : goal.acted-requires-clause-few
acted-requires-clause-few g c κs within count e =
    let o = g.L.Local.ops in
    let law = (g.met.L.Local g.world.𝓛 g.world.𝓜 g.world.𝓡 ((λ s x. x), (λ x. x), (λ x. x), λ x. x)).laws in
    let w = c.self.inside in
    let v = view_of w.begun.value w.table w.output.items w.histories (logged w.logs.items) w.process_lists w.past.items w.events in
    let n = c.args.number in
    let few = subst (λ z. steps (tree_in o z) < 4000000) (sym c.self.view_is) c.requires.few in
    let lives_at = subst (λ z. LivesAt o z.table n (AtTrap c.args.kind c.args.line)) (sym c.self.view_is) c.requires.lives_at in
    let a = c.trap.ensures c.args.kind c.args.line lives_at in
    one_may_be_counted o law v n a.first a.process lives a.has few count e

pub queue-requires-after_bounds : goal.queue-requires-after_bounds
queue-requires-after_bounds g c κs within =
    let o = g.L.Local.ops in
    let n = c.args.number in
    let lives_at = subst (λ z. LivesAt o z.table n (AtTrap c.args.kind c.args.line)) (sym c.self.view_is) c.requires.lives_at in
    let a = c.trap.ensures c.args.kind c.args.line lives_at in
    (a.becomes.first, state a.left, dies (death_with 0 (pos 0)), a.becomes.mine)

pub acted-requires-clause-used : goal.acted-requires-clause-used
acted-requires-clause-used g c κs within =
    let o = g.L.Local.ops in
    let n = c.args.number in
    let lives_at = subst (λ z. LivesAt o z.table n (AtTrap c.args.kind c.args.line)) (sym c.self.view_is) c.requires.lives_at in
    let a = c.trap.ensures c.args.kind c.args.line lives_at in
    (a.becomes.first, state a.left, dies (death_with 0 (pos 0)), a.becomes.mine)

pub acted-requires-clause-serves : goal.acted-requires-clause-serves
acted-requires-clause-serves g c κs within =
    let o = g.L.Local.ops in
    let law = (g.met.L.Local g.world.𝓛 g.world.𝓜 g.world.𝓡 ((λ s x. x), (λ x. x), (λ x. x), λ x. x)).laws in
    let w = c.self.inside in
    let v = view_of w.begun.value w.table w.output.items w.histories (logged w.logs.items) w.process_lists w.past.items w.events in
    let n = c.args.number in
    let lives_at = subst (λ z. LivesAt o z.table n (AtTrap c.args.kind c.args.line)) (sym c.self.view_is) c.requires.lives_at in
    let a = c.trap.ensures c.args.kind c.args.line lives_at in
    let x = view_of w.begun.value c.trap.new.self w.output.items w.histories (logged w.logs.items) w.process_lists w.past.items w.events in
    still_serves o law v x c.self.invariant.0 (4294967295 + 1) n (AtTrap c.args.kind c.args.line) (dies (death_with 0 (pos 0))) (trapping c.args.kind c.args.line) a w.process_lists c.self.invariant.0.serves

pub invariant_of-self-2 : goal.invariant_of-self-2
invariant_of-self-2 g c =
    let o = g.L.Local.ops in
    let law = (g.met.L.Local g.world.𝓛 g.world.𝓜 g.world.𝓡 ((λ s x. x), (λ x. x), (λ x. x), λ x. x)).laws in
    let w = c.self.inside in
    let v = view_of w.begun.value w.table w.output.items w.histories (logged w.logs.items) w.process_lists w.past.items w.events in
    let n = c.args.number in
    let few = subst (λ z. steps (tree_in o z) < 4000000) (sym c.self.view_is) c.requires.few in
    let lives_at = subst (λ z. LivesAt o z.table n (AtTrap c.args.kind c.args.line)) (sym c.self.view_is) c.requires.lives_at in
    let a = c.trap.ensures c.args.kind c.args.line lives_at in
    let u = view_of w.begun.value c.trap.new.self w.output.items w.histories (logged c.push_reserved.new.self.items) c.acted.new.self w.past.items w.events in
    let at_path = c.in_ok-path.ensures ∙ c.path.ensures a.process a.has.state_is in
    let entry : Log = record { path = c.in_ok-path.path; what = LoggedTrap c.args.kind c.args.line } in
    let added : AddsEffects o law v u c.self.invariant.0 (4294967295 + 1) n (AtTrap c.args.kind c.args.line) (dies (death_with 0 (pos 0))) (trapping c.args.kind c.args.line) a = record {
      output = sym (append-nil w.output.items);
      histories = refl;
      logs = ap logged c.push_reserved.ensures.items ∙ (with_one_more finite.empty c.reserve.new.self.items entry ∙ (λ j. with_logs (logged (c.in_ok-reserve.ensures.items j)) (at_path j) (LoggedTrap c.args.kind c.args.line ∷ [])));
      past = refl;
    } in
    let r = own_done o law v u c.self.invariant.0 (4294967295 + 1) n (AtTrap c.args.kind c.args.line) (dies (death_with 0 (pos 0))) (trapping c.args.kind c.args.line) a refl (λ e. absurd cc) added c.acted.ensures.counted c.acted.ensures.requeues refl few in
    (r.0, ap (λ z. z + 1) c.self.invariant.1 ∙ sym r.2)

pub returns-clause-ok : goal.returns-clause-ok
returns-clause-ok g c =
    let o = g.L.Local.ops in
    let law = (g.met.L.Local g.world.𝓛 g.world.𝓜 g.world.𝓡 ((λ s x. x), (λ x. x), (λ x. x), λ x. x)).laws in
    let w = c.self.inside in
    let v = view_of w.begun.value w.table w.output.items w.histories (logged w.logs.items) w.process_lists w.past.items w.events in
    let n = c.args.number in
    let few = subst (λ z. steps (tree_in o z) < 4000000) (sym c.self.view_is) c.requires.few in
    let lives_at = subst (λ z. LivesAt o z.table n (AtTrap c.args.kind c.args.line)) (sym c.self.view_is) c.requires.lives_at in
    let a = c.trap.ensures c.args.kind c.args.line lives_at in
    let u = view_of w.begun.value c.trap.new.self w.output.items w.histories (logged c.push_reserved.new.self.items) c.acted.new.self w.past.items w.events in
    let at_path = c.in_ok-path.ensures ∙ c.path.ensures a.process a.has.state_is in
    let entry : Log = record { path = c.in_ok-path.path; what = LoggedTrap c.args.kind c.args.line } in
    let added : AddsEffects o law v u c.self.invariant.0 (4294967295 + 1) n (AtTrap c.args.kind c.args.line) (dies (death_with 0 (pos 0))) (trapping c.args.kind c.args.line) a = record {
      output = sym (append-nil w.output.items);
      histories = refl;
      logs = ap logged c.push_reserved.ensures.items ∙ (with_one_more finite.empty c.reserve.new.self.items entry ∙ (λ j. with_logs (logged (c.in_ok-reserve.ensures.items j)) (at_path j) (LoggedTrap c.args.kind c.args.line ∷ [])));
      past = refl;
    } in
    let r = own_done o law v u c.self.invariant.0 (4294967295 + 1) n (AtTrap c.args.kind c.args.line) (dies (death_with 0 (pos 0))) (trapping c.args.kind c.args.line) a refl (λ e. absurd cc) added c.acted.ensures.counted c.acted.ensures.requeues refl few in
    let path = c.in_ok-copy.ensures ∙ at_path in
    subst (λ z. HappensIn o z u (Own c.in_ok-copy.field-0)) c.self.view_is (subst (λ z. HappensIn o v u (Own z)) (sym path) r.1)
