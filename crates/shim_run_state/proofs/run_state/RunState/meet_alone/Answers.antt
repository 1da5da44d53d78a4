use Rattle.std.proofs.Common.{◌≡◌, Some, sym, ap, subst, ◌∙◌}
use Rattle.std.specs.Prelude.{slice_get}
use Rattle.shim_base.proofs.Facts.{none_some, some_same}
use Rattle.shim_semantics.specs.Nodes.{next_channel}
use Rattle.shim_semantics.specs.Trees.{Meet}
use Rattle.shim_laws_table_events.specs.meetings.Meetings.{IsEnabled}
use Rattle.shim_process_table.proofs.DueEvents.{due_alone, due_enabled}
use Rattle.shim_run_state.proofs.run_state.RunState.meet_alone.Goals as goal

pub unreachable-requires : goal.unreachable-requires
unreachable-requires g c =
    let o = g.L.Local.ops in
    let w = c.requires.alone in
    let process : c.process.result.now ≡ w.process = some_same c.process.result.now w.process (sym c.process.ensures ∙ (ap (λ z. slice_get z.table.states c.args.number) c.self.view_is ∙ w.has.state_is)) in
    none_some w.chan (c.in-None.ensures ∙ (ap (λ z. next_channel (o.stop z)) process ∙ ap next_channel w.stop_is))

pub meet_on-requires-clause-enabled : goal.meet_on-requires-clause-enabled
meet_on-requires-clause-enabled g c κs within =
    let o = g.L.Local.ops in
    let law = (g.met.L.Local g.world.𝓛 g.world.𝓜 g.world.𝓡 ((λ s x. x), (λ x. x), (λ x. x), λ x. x)).laws in
    let v = c.args.self.now.table in
    let w = c.requires.alone in
    let process : c.process.result.now ≡ w.process = some_same c.process.result.now w.process (sym c.process.ensures ∙ (ap (λ z. slice_get z.table.states c.args.number) c.self.view_is ∙ w.has.state_is)) in
    let next : Some c.in-Some.chan.now ≡ Some w.chan = c.in-Some.ensures ∙ (ap (λ z. next_channel (o.stop z)) process ∙ ap next_channel w.stop_is) in
    let is : w.chan ≡ c.in_ok-chan-in-Some.chan = sym (c.in_ok-chan-in-Some.ensures ∙ some_same c.in-Some.chan.now w.chan next) in
    subst (λ z. IsEnabled o (Meet z.channel) v) is (due_enabled o v c.args.number law (Meet w.chan.channel) (due_alone o v c.args.number w))
