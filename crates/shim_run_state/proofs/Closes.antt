-- A fork closes: its children's counts are kept after the others.
use Rattle.std.proofs.Common.{◌≡◌, ◌≢◌, ◌<◌, ◌+◌, ◌⊎◌, inl, inr, ℕ, true, Some, None, List, [], ◌++◌, length, refl, sym, ap, subst, ◌∙◌, arith}
use Rattle.std.proofs.lemmas.List.{append-nil}
use Rattle.shim_local.specs.Process.{Ops}
use Rattle.shim_local.specs.Laws.{LocalLaws}
use Rattle.shim_semantics.specs.Nodes.{state}
use Rattle.shim_semantics.specs.Acts.{Effects}
use Rattle.shim_semantics.specs.Trees.{Close, steps, with_logs}
use Rattle.shim_laws_table.specs.NodeStatus.{ProcessStatus, lives, forks}
use Rattle.shim_laws_table.proofs.OneChange.{one_state}
use Rattle.shim_laws_table.proofs.SameTrees.{same_or_not}
use Rattle.shim_laws_replay.specs.Grants.{IsNoQuietStep}
use Rattle.shim_laws_table_events.specs.keeping.Tables.{TableView, HasProcessState, views}
use Rattle.shim_laws_table_events.specs.queues.EventQueue.{is_listed}
use Rattle.shim_run_log.specs.Counted.{StepCount, counted}
use Rattle.shim_process_table.specs.Closing.{ClosesAt, close_effects}
use Rattle.shim_process_table.specs.declared.acting.Thrown.TheVariants as thrown
use Rattle.shim_process_table.specs.declared.closing.CloseOutcome.{CloseOutcome}
use Rattle.shim_process_table.specs.declared.closing.CloseOutcome.TheVariants.{GoesOn, Threw}
use Rattle.shim_process_table.specs.Lookups.{IsInUse}
use Rattle.shim_run_state.specs.ProcessLists.{ProcessListsView, Serves}
use Rattle.shim_run_state.specs.RunStates.{RunStateView, tree_in, path_at, counts_from, IsQuietAt, RunStateInvariant}
use Rattle.shim_run_state.specs.PastCounts.{only_block}
use Rattle.shim_run_state.specs.Enqueueing.{Requeues}
use Rattle.shim_process_table.proofs.Readied.{touches_requeue}
use Rattle.shim_run_state.proofs.Enqueued.{one_suffices}
use Rattle.shim_run_state.proofs.Events as events
use Rattle.shim_run_state.proofs.OneMoved.{still_for_all, keeps_on}
use Rattle.shim_run_state.proofs.PastCounts.{taken_out}
use Rattle.shim_run_state.proofs.Paths.{InUse, path_of, in_use_or_not, same_path_at}
use Rattle.shim_run_state.proofs.Staying.{quiet_stays, out_as_before, still_out, still_listed}
use Rattle.shim_run_state.proofs.Telling.{Goes}

-- a close puts no bytes
no_bytes : (r : CloseOutcome) → (close_effects r).bytes ≡ []
no_bytes GoesOn = refl
no_bytes (Threw (thrown.Caught name line)) = refl
no_bytes (Threw (thrown.Died d)) = refl
no_bytes (Threw thrown.Trapped) = refl

-- the children of a fork are in use
pub children_used : {S : Type 0} (o : Ops S) (v : RunStateView S) → RunStateInvariant o v → (i f n : ℕ) (l : S) → HasProcessState v.table i f l (forks n) → (b : ℕ) → b < n → IsInUse v.table (f + b)
children_used o v kept i f n l has b less = let w = kept.represents.represents.agrees.below i f n l has b less in (w.0, w.1, w.2, w.3)

module _ {S : Type 0} (o : Ops S) (m number : ℕ) (outcome : CloseOutcome) (before behind : TableView S) (h : ClosesAt o m number outcome before behind) where
  pub was_used : (i : ℕ) → IsInUse behind i → IsInUse before i
  was_used i u = elim (h.becomes.only i u.0 u.1 u.2 u.3) [
    | inl w ↦ (h.first, h.process, forks h.many, subst (λ z. HasProcessState before z h.first h.process (forks h.many)) (sym w.0) h.forked)
    | inr w ↦ (u.0, u.1, u.2, w.2)
  ]

  -- whoever has a record has its place in lists that had it
  pub closed_room : (s : ProcessListsView) → Serves before s → Serves behind s
  closed_room s all = still_for_all before behind s.own s.own was_used refl all

-- its effects, beside the process and lists of numbers
pub record OneClose {S : Type 0} (o : Ops S) (m number : ℕ) (outcome : CloseOutcome) (before behind : RunStateView S) (h : ClosesAt o m number outcome before.table behind.table) : Type 0 where
  pub output : behind.output ≡ before.output
  pub histories : behind.histories ≡ before.histories
  pub logs : behind.logs ≡ with_logs before.logs (o.path h.process) (close_effects outcome).logs
  pub own : behind.process_lists.own ≡ before.process_lists.own
  pub gathered : List StepCount
  pub past : behind.past ≡ before.past ++ gathered
  pub are : gathered ≡ counts_from (only_block h.first h.many (path_at o before.table)) before.process_lists.own
  pub events : behind.events ≡ before.events + 1
  pub again : Requeues o behind.table (m + 1) number before.process_lists behind.process_lists

module _ {S : Type 0} (o : Ops S) (law : LocalLaws o) (before behind : RunStateView S) (kept : RunStateInvariant o before) (m number : ℕ) (outcome : CloseOutcome) (h : ClosesAt o m number outcome before.table behind.table) (one : OneClose o m number outcome before behind h) where
  gone : (b : ℕ) → b < h.many → path_at o behind.table (h.first + b) ≡ None
  gone b less = elim (in_use_or_not o behind.table (h.first + b)) [
    | inr n ↦ n
    | inl u ↦ elim (h.becomes.only (h.first + b) u.first u.process u.status_is u.has) [
      | inl w ↦ absurd (h.apart b less (sym w.0))
      | inr w ↦ absurd (w.1 b less refl)
    ]
  ]

  still_there : (i : ℕ) → ((b : ℕ) → b < h.many → i ≢ h.first + b) → (u : InUse o before.table i) → path_at o behind.table i ≡ Some (o.path u.process)
  still_there i out u = elim (same_or_not i number) [
    | inr far ↦ path_of o behind.table i u.first u.process u.status_is (h.becomes.others i u.first u.process u.status_is far out u.has)
    | inl e ↦
        let mine = subst (λ z. HasProcessState before.table z u.first u.process u.status_is) e u.has in
        let same : h.process ≡ u.process = one_state before.table.states (views before.table) number h.first u.first h.process u.process (forks h.many) u.status_is h.forked mine in
        ap (path_at o behind.table) e ∙ (path_of o behind.table number h.becomes.first (state h.left.node) _ h.becomes.parent ∙ ap Some (h.path ∙ ap o.path same))
  ]

  was_there : (i : ℕ) → InUse o behind.table i → InUse o before.table i
  was_there i u =
      let w = was_used o m number outcome before.table behind.table h i (u.first, u.process, u.status_is, u.has) in
      record { first = w.0; process = w.1; status_is = w.2; has = w.3 }

  counts : events.counts_in o behind ≡ events.counts_in o before
  counts =
      let f = path_at o before.table in
      let g = path_at o behind.table in
      (λ j. counted (counts_from g (one.own j) ++ one.past j))
      ∙ taken_out f g h.first h.many before.process_lists.own before.past one.gathered gone (λ i out. same_path_at o before.table behind.table i (still_there i out) (was_there i)) one.are

  happened : events.Happened o before behind kept.represents (Close (o.path h.process))
  happened =
      let bytes : before.output ++ h.left.effects.bytes ≡ before.output = ap (λ z. before.output ++ z) (ap (λ (z : Effects). z.bytes) h.effects_are ∙ no_bytes outcome) ∙ append-nil before.output in
      events.close o before behind kept.represents number h.first h.many h.process h.left h.forked h.does h.moves (one.output ∙ sym bytes) one.histories
      (one.logs ∙ ap (λ (z : Effects). with_logs before.logs (o.path h.process) z.logs) (sym h.effects_are)) counts one.events

  no_step : IsNoQuietStep o (tree_in o before) (Close (o.path h.process))
  no_step q e s = absurd cc

  lived : (j g : ℕ) (t : S) → HasProcessState behind.table j g t lives → (f : ℕ) × (s : S) × (k : ProcessStatus) × HasProcessState before.table j f s k × (o.path t ≡ o.path s)
  lived j g t has = elim (h.becomes.only j g t lives has) [
    | inl w ↦ (h.first, h.process, forks h.many, subst (λ z. HasProcessState before.table z h.first h.process (forks h.many)) (sym w.0) h.forked, ap o.path w.1 ∙ h.path)
    | inr w ↦ (g, t, lives, w.2, refl)
  ]

  flags : (i : ℕ) → is_listed behind.process_lists.checked_out i ≡ is_listed before.process_lists.checked_out i
  flags i = ap (λ z. is_listed z i) one.again.checked_out

  stay : (i : ℕ) (l : S) → IsQuietAt o before.table i l → is_listed before.process_lists.checked_out i ≡ true → IsQuietAt o behind.table i l
  stay i l q flag = quiet_stays o law before behind kept (Close (o.path h.process)) happened.leads no_step happened.represents lived i l q

  module _ (few : steps (tree_in o before) < 4000000) where
    quiet_listed : (i : ℕ) (l : S) → IsQuietAt o behind.table i l → (is_listed behind.process_lists.ready_queue i ≡ true) ⊎ IsQuietAt o before.table i l
    quiet_listed i l q = elim (h.becomes.only i q.first l lives q.has) [
      | inl w ↦ inl (ap (is_listed behind.process_lists.ready_queue) w.0 ∙ one.again.ready_queue.mine l (subst (λ z. IsQuietAt o behind.table z l) w.0 q))
      | inr w ↦ inr (record { first = q.first; has = w.2; stop_is = q.stop_is })
    ]

    used_before : (i : ℕ) → IsInUse behind.table i → IsInUse before.table i
    used_before = was_used o m number outcome before.table behind.table h

    pub closes_go : Goes o before behind (Close (o.path h.process))
    closes_go = record {
      keeps = keeps_on o law before behind kept (record {
        represents = happened.represents;
        few = let n = happened.counts in omega (arith, few, n);
        looks = one_suffices o [] before.table behind.table (tree_in o behind).root happened.represents (m + 1) number before.process_lists.event_queue behind.process_lists.event_queue one.again.event_queue (touches_requeue o m number before.table behind.table h.touches);
        event_queue = one.again.event_queue.kept;
        ready_queue = still_listed o before behind kept flags stay one.again.ready_queue.kept quiet_listed;
        checked_out = still_out o before behind kept flags stay;
        serves = still_for_all before.table behind.table before.process_lists.own behind.process_lists.own used_before (ap length one.own) kept.serves;
      });
      happens = record { leads = happened.leads; other = no_step; same = out_as_before o before behind kept flags stay };
      steps_are = happened.counts;
    }
