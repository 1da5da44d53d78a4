use Rattle.std.proofs.Common.{◌≡◌, ◌<◌, ◌+◌, ◌-◌, Some, refl, sym, ap, subst, ◌∙◌, rules}
use Rattle.std.specs.Prelude.{slice_get}
use Rattle.shim_base.proofs.Facts.{some_same}
use Rattle.shim_semantics.specs.Trees.{Poison, steps}
use Rattle.shim_run_log.specs.Logged.{logged}
use Rattle.shim_laws_table_events.specs.keeping.Tables.{HasProcessState}
use Rattle.shim_laws_table_events.specs.keeping.Moves.{Performs}
use Rattle.shim_process_table.specs.Due.{IsDoomed}
use Rattle.shim_process_table.specs.Poisoning.{CanPoison}
use Rattle.shim_process_table.specs.Lookups.{AreInUse}
use Rattle.shim_process_table.proofs.DueEvents.{doomed_can}
use Rattle.shim_run_state.specs.Fields.{view_of}
use Rattle.shim_run_state.specs.RunStates.{tree_in}
use Rattle.shim_run_state.specs.CheckingOut.{HappensIn}
use Rattle.shim_run_state.specs.Several.{RequeuesEach}
use Rattle.shim_run_state.proofs.Several.{used_behind, room_behind}
use Rattle.shim_run_state.proofs.Telling.{OneEvent, poison_goes}
use Rattle.shim_run_state.proofs.run_state.RunState.poison.Goals as goal

pub poison-requires-clause-can : goal.poison-requires-clause-can
poison-requires-clause-can g c κs within =
    let o = g.L.Local.ops in
    let law = (g.met.L.Local g.world.𝓛 g.world.𝓜 g.world.𝓡 ((λ s x. x), (λ x. x), (λ x. x), λ x. x)).laws in
    let w = c.self.inside in
    let d = subst (λ z. IsDoomed o z c.args.number c.args.pair c.args.child) (sym (ap (λ z. z.table) c.self.view_is)) c.requires.doomed in
    let child : c.args.child ≡ c.in_ok-child.child = search rules in
    let copied : c.in_ok-chan.chan ≡ c.channel.result.now = search rules in
    let chan : d.pair_is.chan ≡ c.in_ok-chan.chan = sym (copied ∙ c.channel.ensures d.first d.many d.process d.pair_is d.has) in
    let process : c.process.result.now ≡ d.process = some_same c.process.result.now d.process (sym c.process.ensures ∙ d.has.forked.state_is) in
    let label : o.handlers d.process - 1 ≡ c.saturating_sub-label.result = sym (c.saturating_sub-label.ensures ∙ ap (λ z. z - 1) (c.handlers.ensures ∙ ap o.handlers process)) in
    subst (λ z. CanPoison o c.in_ok-chan.chan.channel c.saturating_sub-label.result z w.table) child
    (subst (λ z. CanPoison o c.in_ok-chan.chan.channel z c.args.child w.table) label
    (subst (λ z. CanPoison o z.channel (o.handlers d.process - 1) c.args.child w.table) chan (doomed_can o w.table c.args.number law c.args.pair c.args.child d)))

pub requeue_each-requires-clause-used : goal.requeue_each-requires-clause-used
requeue_each-requires-clause-used g c κs within =
    let o = g.L.Local.ops in
    let now = c.poison.new.self in
    subst (AreInUse now) (sym c.numbers-sharers.ensures) (used_behind o c.sharers.new.sharers c.self.inside.table now c.poison.ensures.changes c.in_ok-sharers.ensures.used)

pub requeue_each-requires-clause-serves : goal.requeue_each-requires-clause-serves
requeue_each-requires-clause-serves g c κs within = room_behind g.L.Local.ops c.sharers.new.sharers c.self.inside.table c.poison.new.self c.poison.ensures.changes c.self.inside.process_lists c.self.invariant.0.serves

pub invariant_of-self-2 : goal.invariant_of-self-2
invariant_of-self-2 g c =
    let o = g.L.Local.ops in
    let law = (g.met.L.Local g.world.𝓛 g.world.𝓜 g.world.𝓡 ((λ s x. x), (λ x. x), (λ x. x), λ x. x)).laws in
    let w = c.self.inside in
    let d = subst (λ z. IsDoomed o z c.args.number c.args.pair c.args.child) (sym (ap (λ z. z.table) c.self.view_is)) c.requires.doomed in
    let child : c.args.child ≡ c.in_ok-child.child = search rules in
    let copied_path : c.in_ok-path.path ≡ c.path.result.now = search rules in
    let path : c.in_ok-path.path ≡ o.path d.child = copied_path ∙ c.path.ensures d.child (subst (λ z. slice_get w.table.states z ≡ Some d.child) child d.its.state_is) in
    let sharers = c.sharers.new.sharers in
    let now = c.poison.new.self in
    let before = view_of w.begun.value w.table w.output.items w.histories (logged w.logs.items) w.process_lists w.past.items w.events in
    let behind = view_of w.begun.value now w.output.items w.histories (logged w.logs.items) c.requeue_each.new.self w.past.items (w.events + 1) in
    let again = subst (λ z. RequeuesEach o now z w.process_lists c.requeue_each.new.self) c.numbers-sharers.ensures c.requeue_each.ensures in
    let few = subst (λ z. steps (tree_in o z) < 4000000) (sym c.self.view_is) c.requires.few in
    let one : OneEvent o before behind = record { output = refl; logs = refl; past = refl; events = refl } in
    let its : HasProcessState w.table c.in_ok-child.child d.child_first d.child d.child_status = subst (λ z. HasProcessState w.table z d.child_first d.child d.child_status) child d.its in
    let moves = subst (λ z. Performs o (Poison z c.in_ok-chan.chan.channel) w.table now) (sym path) (c.poison.ensures.moves d.child_first d.child d.child_status its) in
    let went = poison_goes o law before behind c.self.invariant.0 few sharers c.poison.ensures.touches again one c.in_ok-path.path c.in_ok-chan.chan.channel moves c.poison.ensures.changes refl in
    (went.keeps, ap (λ z. z + 1) c.self.invariant.1 ∙ sym went.steps_are)

pub returns-clause-ok : goal.returns-clause-ok
returns-clause-ok g c =
    let o = g.L.Local.ops in
    let law = (g.met.L.Local g.world.𝓛 g.world.𝓜 g.world.𝓡 ((λ s x. x), (λ x. x), (λ x. x), λ x. x)).laws in
    let w = c.self.inside in
    let d = subst (λ z. IsDoomed o z c.args.number c.args.pair c.args.child) (sym (ap (λ z. z.table) c.self.view_is)) c.requires.doomed in
    let child : c.args.child ≡ c.in_ok-child.child = search rules in
    let copied_path : c.in_ok-path.path ≡ c.path.result.now = search rules in
    let path : c.in_ok-path.path ≡ o.path d.child = copied_path ∙ c.path.ensures d.child (subst (λ z. slice_get w.table.states z ≡ Some d.child) child d.its.state_is) in
    let sharers = c.sharers.new.sharers in
    let now = c.poison.new.self in
    let before = view_of w.begun.value w.table w.output.items w.histories (logged w.logs.items) w.process_lists w.past.items w.events in
    let behind = view_of w.begun.value now w.output.items w.histories (logged w.logs.items) c.requeue_each.new.self w.past.items (w.events + 1) in
    let again = subst (λ z. RequeuesEach o now z w.process_lists c.requeue_each.new.self) c.numbers-sharers.ensures c.requeue_each.ensures in
    let few = subst (λ z. steps (tree_in o z) < 4000000) (sym c.self.view_is) c.requires.few in
    let one : OneEvent o before behind = record { output = refl; logs = refl; past = refl; events = refl } in
    let its : HasProcessState w.table c.in_ok-child.child d.child_first d.child d.child_status = subst (λ z. HasProcessState w.table z d.child_first d.child d.child_status) child d.its in
    let moves = subst (λ z. Performs o (Poison z c.in_ok-chan.chan.channel) w.table now) (sym path) (c.poison.ensures.moves d.child_first d.child d.child_status its) in
    let went = poison_goes o law before behind c.self.invariant.0 few sharers c.poison.ensures.touches again one c.in_ok-path.path c.in_ok-chan.chan.channel moves c.poison.ensures.changes refl in
    subst (λ z. HappensIn o z behind (Poison c.in_ok-path.path c.in_ok-chan.chan.channel)) c.self.view_is went.happens
