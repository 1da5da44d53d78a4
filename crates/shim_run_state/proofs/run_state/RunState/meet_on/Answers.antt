use Rattle.std.proofs.Common.{◌<◌, ◌+◌, sym, ap, subst, ◌∙◌, rules, w64, FitsSigned}
use Rattle.std.proofs.lemmas.Int.{to_z-of_z}
use Rattle.shim_semantics.specs.Trees.{Meet, steps}
use Rattle.shim_run_log.specs.Logged.{logged}
use Rattle.shim_laws_table_events.specs.meetings.Meetings.{IsEnabled, ReceiveAll}
use Rattle.shim_laws_table_events.proofs.meetings.Meets.{meeting_preserves}
use Rattle.shim_process_table.proofs.ChangingEach.{all_receive_changed}
use Rattle.shim_run_state.specs.Fields.{view_of}
use Rattle.shim_run_state.specs.RunStates.{tree_in}
use Rattle.shim_run_state.specs.CheckingOut.{HappensIn}
use Rattle.shim_run_state.specs.Receiving.{RecordsValue}
use Rattle.shim_run_state.proofs.Meets.{met_goes}
use Rattle.shim_run_state.proofs.run_state.RunState.meet_on.Goals as goal

pub invariant_of-self-2 : goal.invariant_of-self-2
invariant_of-self-2 g c =
    let o = g.L.Local.ops in
    let law = (g.met.L.Local g.world.𝓛 g.world.𝓜 g.world.𝓡 ((λ s x. x), (λ x. x), (λ x. x), λ x. x)).laws in
    let w = c.self.inside in
    let ch = c.args.chan.channel in
    let sharers = c.record.new.sharers in
    let now = c.receive_each.new.table in
    let x = c.in_ok-value.value in
    let before = view_of w.begun.value w.table w.output.items w.histories (logged w.logs.items) w.process_lists w.past.items w.events in
    let few = subst (λ z. steps (tree_in o z) < 4000000) (sym c.self.view_is) c.requires.few in
    let fits : FitsSigned w64 x = search rules in
    let all : ReceiveAll o ch x sharers w.table now = subst (λ z. ReceiveAll o ch x z w.table now) c.numbers.ensures (subst (λ z. ReceiveAll o ch z c.numbers.result.now w.table now) (to_z-of_z w64 x fits) c.receive_each.ensures.receive) in
    let enabled = subst (λ z. IsEnabled o (Meet ch) z.table) (sym c.self.view_is) c.requires.enabled in
    let moves = (meeting_preserves o law w.table now ch sharers x enabled (c.in_ok-record.ensures.receivers c.in_ok-value.ensures.lists) c.in_ok-value.ensures.value all).0 in
    let changes = all_receive_changed o law ch x sharers w.table now all in
    let recorded_value : RecordsValue o w.table ch x w.histories c.record.new.histories = subst (λ z. RecordsValue o w.table ch z w.histories c.record.new.histories) (to_z-of_z w64 x fits) c.in_ok-record.ensures.ok in
    let passes = c.receive_each.ensures.passes in
    let went = met_goes o law before c.self.invariant.0 few ch x sharers now c.receive_each.new.process_lists c.record.new.histories (passes.keeps before c.self.invariant.0) passes.own passes.checked_out moves changes c.in_ok-value.ensures.value recorded_value in
    (went.keeps, ap (λ z. z + 1) c.self.invariant.1 ∙ sym went.steps_are)

pub returns-clause-ok : goal.returns-clause-ok
returns-clause-ok g c =
    let o = g.L.Local.ops in
    let law = (g.met.L.Local g.world.𝓛 g.world.𝓜 g.world.𝓡 ((λ s x. x), (λ x. x), (λ x. x), λ x. x)).laws in
    let w = c.self.inside in
    let ch = c.args.chan.channel in
    let sharers = c.record.new.sharers in
    let now = c.receive_each.new.table in
    let x = c.in_ok-value.value in
    let before = view_of w.begun.value w.table w.output.items w.histories (logged w.logs.items) w.process_lists w.past.items w.events in
    let few = subst (λ z. steps (tree_in o z) < 4000000) (sym c.self.view_is) c.requires.few in
    let fits : FitsSigned w64 x = search rules in
    let all : ReceiveAll o ch x sharers w.table now = subst (λ z. ReceiveAll o ch x z w.table now) c.numbers.ensures (subst (λ z. ReceiveAll o ch z c.numbers.result.now w.table now) (to_z-of_z w64 x fits) c.receive_each.ensures.receive) in
    let enabled = subst (λ z. IsEnabled o (Meet ch) z.table) (sym c.self.view_is) c.requires.enabled in
    let moves = (meeting_preserves o law w.table now ch sharers x enabled (c.in_ok-record.ensures.receivers c.in_ok-value.ensures.lists) c.in_ok-value.ensures.value all).0 in
    let changes = all_receive_changed o law ch x sharers w.table now all in
    let recorded_value : RecordsValue o w.table ch x w.histories c.record.new.histories = subst (λ z. RecordsValue o w.table ch z w.histories c.record.new.histories) (to_z-of_z w64 x fits) c.in_ok-record.ensures.ok in
    let passes = c.receive_each.ensures.passes in
    let went = met_goes o law before c.self.invariant.0 few ch x sharers now c.receive_each.new.process_lists c.record.new.histories (passes.keeps before c.self.invariant.0) passes.own passes.checked_out moves changes c.in_ok-value.ensures.value recorded_value in
    let behind = view_of w.begun.value now w.output.items c.record.new.histories (logged w.logs.items) c.receive_each.new.process_lists w.past.items (w.events + 1) in
    subst (λ z. HappensIn o z behind (Meet ch)) c.self.view_is went.happens
