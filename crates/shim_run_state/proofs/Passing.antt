-- Processes receive one after the other, and what the type keeps is kept with each of them.
use Rattle.std.proofs.Common.{◌≡◌, ◌≢◌, ◌≤◌, ℕ, ℤ, false, [], length, refl, sym, ap, subst, ◌∙◌}
use Rattle.shim_base.specs.Paths.{Channel}
use Rattle.shim_local.specs.Process.{Ops, AtQuiet}
use Rattle.shim_local.specs.Laws.{LocalLaws, by_receive, by_call}
use Rattle.shim_semantics.specs.Nodes.{Node}
use Rattle.shim_semantics.specs.Trees.{steps}
use Rattle.shim_laws_table.specs.NodeStatus.{lives}
use Rattle.shim_laws_table_events.specs.keeping.Tables.{TableView, TableInvariant}
use Rattle.shim_laws_table_events.specs.meetings.Meetings.{ReceivesOne}
use Rattle.shim_laws_table_events.proofs.meetings.Meets.{one_keeps}
use Rattle.shim_laws_table_events.specs.queues.EventQueue.{is_listed}
use Rattle.shim_process_table.specs.Meeting.{HasReceived}
use Rattle.shim_process_table.specs.declared.propagating.Requeue.{Requeue}
use Rattle.shim_run_state.specs.ProcessLists.{ProcessListsView, Serves}
use Rattle.shim_run_state.specs.RunStates.{RunStateView, tree_in, RunStateInvariant}
use Rattle.shim_run_state.specs.Receiving.{with_table, PassesOn}
use Rattle.shim_run_state.specs.Enqueueing.{Requeues}
use Rattle.shim_run_state.proofs.Events.{root_is, tree_with, counts_in}
use Rattle.shim_run_state.proofs.Forks.{is_sound}
use Rattle.shim_run_state.proofs.OneMoved.{was_used, still_for_all, other_stop_free, one_moved}
use Rattle.shim_run_state.proofs.OwnCounts.{counts_stay}

module _ {S : Type 0} (o : Ops S) where
  pub passes_none : (v u : TableView S) (s t : ProcessListsView) → u ≡ v → t ≡ s → PassesOn o v s u t
  passes_none v u s t same even = record {
    own = ap (λ (z : ProcessListsView). z.own) even;
    checked_out = ap (λ (z : ProcessListsView). z.checked_out) even;
    serves = λ h. subst (λ z. Serves u z) (sym even) (subst (λ z. Serves z s) (sym same) h);
    keeps = λ w h. subst (λ z. RunStateInvariant o (with_table w u z)) (sym even) (subst (λ z. RunStateInvariant o (with_table w z s)) (sym same) h);
  }

  pub passes_on : (a b d : TableView S) (s t z : ProcessListsView) → PassesOn o a s b t → PassesOn o b t d z → PassesOn o a s d z
  passes_on a b d s t z one more = record {
    own = more.own ∙ one.own;
    checked_out = more.checked_out ∙ one.checked_out;
    serves = λ h. more.serves (one.serves h);
    keeps = λ w h. more.keeps w (one.keeps w h);
  }

  module _ (law : LocalLaws o) (c : Channel) (x : ℤ) (i : ℕ) (a : Requeue) (v u : TableView S) (s t : ProcessListsView) (one : ReceivesOne o c x i v u) (h : HasReceived o c x i a v u) (own : t.own ≡ s.own) (again : Requeues o u a.forks i s t) where
    abbrev got : S
    got = o.receive h.process x

    module _ (w : RunStateView S) (kept : RunStateInvariant o (with_table w v s)) where
      abbrev before : RunStateView S
      before = with_table w v s

      abbrev behind : RunStateView S
      behind = with_table w u t

      next : (new : Node S) × TableInvariant o [] u new
      next = one_keeps o law c x [] i v u (tree_in o before).root one kept.represents

      represents : TableInvariant o [] u (tree_in o behind).root
      represents = subst (TableInvariant o [] u) (sym (root_is o behind next.0 next.1)) next.1

      path : o.path got ≡ o.path h.process
      path = law.moved_path h.process got (is_sound o before kept i h.first h.process lives h.has) (by_call (by_receive h.chan x h.stop_was refl))

      counts : counts_in o behind ≡ counts_in o before
      counts = counts_stay o before behind i h.first h.process got lives lives h.has h.becomes path refl own

      few : steps (tree_in o behind) ≤ 4000000
      few = subst (λ m. steps (tree_with o (tree_in o behind).root w.output w.histories w.logs m w.events) ≤ 4000000) (sym counts) kept.few

      not_quiet : o.stop h.process ≢ AtQuiet
      not_quiet e = absurd (let z = sym h.stop_was ∙ e in cc)

      free : is_listed t.checked_out i ≡ false
      free = ap (λ z. is_listed z i) again.checked_out ∙ other_stop_free o law before behind kept i h.first h.process h.has not_quiet

      keeps : RunStateInvariant o (with_table w u t)
      keeps = one_moved o law before behind kept i h.first h.process got lives lives h.has h.becomes (λ j far. ap (λ z. is_listed z j) again.checked_out) free a.forks represents few h.newly_ready again.event_queue again.ready_queue (ap length own)

    pub one_passes : PassesOn o v s u t
    one_passes = record {
      own = own;
      checked_out = again.checked_out;
      serves = λ all. still_for_all v u s.own t.own (was_used v u i h.first h.process got lives lives h.has h.becomes) (ap length own) all;
      keeps = keeps;
    }
