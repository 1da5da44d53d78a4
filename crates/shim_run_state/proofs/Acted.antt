-- A live process did by itself something other than a quiet step.
use Rattle.std.proofs.Common.{◌≡◌, ◌≢◌, ◌≤◌, ◌<◌, ◌+◌, ℕ, false, Some, [], ◌++◌, length, refl, sym, ap, subst, ◌∙◌, arith}
use Rattle.std.specs.Prelude.{slice_get, Option, None, List}
use Rattle.std.specs.FinMap as finite
use Rattle.std.proofs.lemmas.List.{append-nil}
use Rattle.shim_base.specs.Paths.{Path, path_order}
use Rattle.shim_base.proofs.Facts.{some_same}
use Rattle.shim_local.specs.Process.{Ops, StopView, AtQuiet}
use Rattle.shim_local.specs.Laws.{LocalLaws}
use Rattle.shim_local.specs.declared.LogWhat.{LogWhat}
use Rattle.shim_semantics.specs.Nodes.{Live, state}
use Rattle.shim_semantics.specs.Acts.{Acted, Effects, putting, act_live}
use Rattle.shim_semantics.specs.Places.{at, at_route, route}
use Rattle.shim_semantics.specs.Trees.{Event, Own, Meet, Poison, Close, End, steps, with_logs}
use Rattle.shim_semantics.proofs.Replaced.{sound_at}
use Rattle.shim_semantics.proofs.SoundEvents.{here_keeps}
use Rattle.shim_laws_table.specs.NodeStatus.{ProcessStatus, lives, place}
use Rattle.shim_laws_table.proofs.SameTrees.{seen_live}
use Rattle.shim_laws_replay.specs.Grants.{IsNoQuietStep}
use Rattle.shim_laws_table_events.specs.keeping.Tables.{HasProcessState}
use Rattle.shim_laws_table_events.specs.keeping.Moves.{Performs}
use Rattle.shim_laws_table_events.specs.keeping.Acting.{event_at_stop}
use Rattle.shim_laws_table_events.specs.queues.EventQueue.{is_listed}
use Rattle.shim_process_table.specs.Acting.{ActsAlone, throw_effects}
use Rattle.shim_process_table.specs.declared.acting.Thrown.{Thrown}
use Rattle.shim_process_table.specs.declared.acting.Thrown.TheVariants as thrown
use Rattle.shim_run_state.specs.ProcessLists.{ProcessListsView, Serves}
use Rattle.shim_run_state.specs.RunStates.{RunStateView, tree_in, IsCheckedOut, RunStateInvariant}
use Rattle.shim_run_state.specs.CheckingOut.{HappensIn}
use Rattle.shim_run_state.specs.Settling.{StaysAs}
use Rattle.shim_run_state.specs.Enqueueing.{HasCounted, Requeues}
use Rattle.shim_run_state.proofs.Advanced.{live_node_there}
use Rattle.shim_run_state.proofs.Events as events
use Rattle.shim_run_state.proofs.OneMoved.{same_out, one_moved, other_stop_free, for_all_behind}
use Rattle.shim_run_state.proofs.OwnCounts.{count_is_few, counts_more, counts_stay, as_many_counts}

-- where the value is the same, nothing has happened
pub stays_as : {S : Type 0} (o : Ops S) (before behind : RunStateView S) → behind ≡ before → StaysAs o before behind
stays_as o before behind e = record {
  tree = ap (tree_in o) e;
  checked_out = λ i l. (λ h. subst (λ z. IsCheckedOut o z i l) (sym e) h, λ h. subst (λ z. IsCheckedOut o z i l) e h);
}

-- ---- what some of them say

-- a put logs nothing
pub put_logs_none : (m : finite.FinMap path_order (List LogWhat)) (p : Path) (r : Option ℕ) → m ≡ with_logs m p (putting r).logs
put_logs_none m p None = refl
put_logs_none m p (Some b) = refl

-- a throw puts nothing
pub throw_puts_none : (bytes : List ℕ) (t : Thrown) → bytes ≡ bytes ++ (throw_effects t).bytes
throw_puts_none bytes (thrown.Caught name line) = sym (append-nil bytes)
throw_puts_none bytes (thrown.Died d) = sym (append-nil bytes)
throw_puts_none bytes thrown.Trapped = sym (append-nil bytes)

-- ---- as an event

-- the path of an own step
abbrev own_path : Path → Event → Path
own_path q (Own p) = p
own_path q (Meet c) = q
own_path q (Poison p c) = q
own_path q (Close p) = q
own_path q (End p) = q

pub end_is_no_step : {S : Type 0} (o : Ops S) (v : RunStateView S) (p : Path) → IsNoQuietStep o (tree_in o v) (End p)
end_is_no_step o v p q e s = absurd cc

module _ {S : Type 0} (o : Ops S) (law : LocalLaws o) where
  -- its count is so small that one may be added
  pub one_may_be_counted : (v : RunStateView S) (i f : ℕ) (l : S) (k : ProcessStatus) → HasProcessState v.table i f l k → steps (tree_in o v) < 4000000 → (count : ℕ) → slice_get v.process_lists.own i ≡ Some count → count + 1 ≤ 4000000
  one_may_be_counted v i f l k has few count e = let c = count_is_few o v i f count l k has e in omega (arith, c, few)

  -- the step of a process that is at something else is no quiet one
  pub no_quiet_step : (v : RunStateView S) → RunStateInvariant o v → (i f : ℕ) (l : S) → HasProcessState v.table i f l lives → o.stop l ≢ AtQuiet → IsNoQuietStep o (tree_in o v) (Own (o.path l))
  no_quiet_step v kept i f l has other p e (m, its_node, its_stop) =
      let t = tree_in o v in
      let same : o.path l ≡ p = ap (own_path p) e in
      let mine = live_node_there o law v.table t.root i f l kept.represents has in
      let is : Live l ≡ Live m = some_same (Live l) (Live m) (sym mine.there ∙ (ap (λ z. at_route t.root (route (o.path (state t.root)) z)) same ∙ its_node.there)) in
      other (ap (λ z. o.stop (state z)) is ∙ its_stop)

  module _ (before behind : RunStateView S) (kept : RunStateInvariant o before) (n number : ℕ) (stop : StopView) (k : ProcessStatus) (effects : Effects) (a : ActsAlone o n number stop k effects before.table behind.table) where
    abbrev acted : Acted S
    acted = record { node = a.left; effects = effects }

    does : act_live o a.process (o.stop a.process) ≡ Some acted
    does = ap (act_live o a.process) a.stop_was ∙ a.does

    path : o.path (state a.left) ≡ o.path a.process
    path =
        let root = (tree_in o before).root in
        let there = seen_live (at (place o [] a.process) root) a.process (kept.represents.represents.agrees.shown number a.first a.process lives a.has) in
        (here_keeps o law (Live a.process) acted (sound_at o (place o [] a.process) root (Live a.process) kept.represents.represents.sound.below there) does).follows.path

    -- its effects, and nothing else
    pub record AddsEffects : Type 0 where
      pub output : behind.output ≡ before.output ++ effects.bytes
      pub histories : behind.histories ≡ before.histories
      pub logs : behind.logs ≡ with_logs before.logs (o.path a.process) effects.logs
      pub past : behind.past ≡ before.past

    pub own_happens : event_at_stop stop (o.path a.process) ≡ Own (o.path a.process) → AddsEffects → HasCounted number 1 before.process_lists.own behind.process_lists.own → behind.events ≡ before.events → events.Happened o before behind kept.represents (Own (o.path a.process))
    own_happens own added counted e =
        events.own o before behind kept.represents number a.first a.process acted a.has does (subst (λ z. Performs o z before.table behind.table) own a.moves) added.output added.histories added.logs
        (counts_more o before behind number a.first a.process (state a.left) lives k a.has a.becomes path added.past 1 counted) e

    pub end_happens : event_at_stop stop (o.path a.process) ≡ End (o.path a.process) → AddsEffects → behind.process_lists.own ≡ before.process_lists.own → behind.events ≡ before.events + 1 → events.Happened o before behind kept.represents (End (o.path a.process))
    end_happens end added own e =
        events.end o before behind kept.represents number a.first a.process acted a.has does (subst (λ z. Performs o z before.table behind.table) end a.moves) added.output added.histories added.logs
        (counts_stay o before behind number a.first a.process (state a.left) lives k a.has a.becomes path added.past own) e

    module _ (other : stop ≢ AtQuiet) (checked_out : behind.process_lists.checked_out ≡ before.process_lists.checked_out) (e : Event) (h : events.Happened o before behind kept.represents e) where
      not_at_quiet : o.stop a.process ≢ AtQuiet
      not_at_quiet z = other (sym a.stop_was ∙ z)

      free : is_listed before.process_lists.checked_out number ≡ false
      free = other_stop_free o law before behind kept number a.first a.process a.has not_at_quiet

      flags : (i : ℕ) → i ≢ number → is_listed behind.process_lists.checked_out i ≡ is_listed before.process_lists.checked_out i
      flags i far = ap (λ z. is_listed z i) checked_out

      pub acted_keeps : steps (tree_in o before) < 4000000 → Requeues o behind.table n number before.process_lists behind.process_lists → length behind.process_lists.own ≡ length before.process_lists.own → RunStateInvariant o behind
      acted_keeps few again owns =
          let more = h.counts in
          one_moved o law before behind kept number a.first a.process (state a.left) lives k a.has a.becomes flags (ap (λ z. is_listed z number) checked_out ∙ free) n h.represents (omega (arith, few, more)) a.newly_ready again.event_queue again.ready_queue owns

      pub happens_in : IsNoQuietStep o (tree_in o before) e → HappensIn o before behind e
      happens_in none = record {
        leads = h.leads;
        other = none;
        same = same_out o law before behind kept number a.first a.process (state a.left) lives k a.has a.becomes flags (ap (λ z. is_listed z number) checked_out ∙ free) free;
      }

    -- so the type keeps what it kept, and the event has happened
    pub own_done : event_at_stop stop (o.path a.process) ≡ Own (o.path a.process) → stop ≢ AtQuiet → AddsEffects → HasCounted number 1 before.process_lists.own behind.process_lists.own → Requeues o behind.table n number before.process_lists behind.process_lists → behind.events ≡ before.events → steps (tree_in o before) < 4000000
        → RunStateInvariant o behind × HappensIn o before behind (Own (o.path a.process)) × (steps (tree_in o behind) ≡ steps (tree_in o before) + 1)
    own_done own other added counted again same few =
        let h = own_happens own added counted same in (
          acted_keeps other again.checked_out (Own (o.path a.process)) h few again (as_many_counts number 1 before.process_lists.own behind.process_lists.own counted),
          happens_in other again.checked_out (Own (o.path a.process)) h (no_quiet_step before kept number a.first a.process a.has (λ e. other (sym a.stop_was ∙ e))),
          h.counts,
        )

    pub end_done : event_at_stop stop (o.path a.process) ≡ End (o.path a.process) → stop ≢ AtQuiet → AddsEffects → behind.process_lists.own ≡ before.process_lists.own → Requeues o behind.table n number before.process_lists behind.process_lists → behind.events ≡ before.events + 1 → steps (tree_in o before) < 4000000
        → RunStateInvariant o behind × HappensIn o before behind (End (o.path a.process)) × (steps (tree_in o behind) ≡ steps (tree_in o before) + 1)
    end_done end other added same again more few =
        let h = end_happens end added same more in (
          acted_keeps other again.checked_out (End (o.path a.process)) h few again (ap length same),
          happens_in other again.checked_out (End (o.path a.process)) h (end_is_no_step o before (o.path a.process)),
          h.counts,
        )

    -- and whoever is in use then was so, and has its place in the lists
    pub still_serves : (s : ProcessListsView) → Serves before.table s → Serves behind.table s
    still_serves s = for_all_behind before.table behind.table number a.first a.process (state a.left) lives k a.has a.becomes s.own
