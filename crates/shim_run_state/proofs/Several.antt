-- Several processes have changed, and their numbers and the forks above them are listed.
use Rattle.std.proofs.Common.{◌≡◌, ◌<◌, ◌⊎◌, inl, inr, ℕ, true, Some, List, [], ◌++◌, length, refl, ap, ◌∙◌, arith}
use Rattle.shim_local.specs.Process.{Ops}
use Rattle.shim_local.specs.Laws.{LocalLaws}
use Rattle.shim_semantics.specs.Trees.{Event, steps}
use Rattle.shim_laws_table.specs.NodeStatus.{lives}
use Rattle.shim_laws_replay.specs.Grants.{IsNoQuietStep}
use Rattle.shim_laws_table_events.specs.queues.EventQueue.{is_listed}
use Rattle.shim_run_log.specs.Counted.{counted}
use Rattle.shim_process_table.specs.Lookups.{IsInUse, AreInUse}
use Rattle.shim_laws_table_events.specs.keeping.Tables.{TableView}
use Rattle.shim_process_table.specs.Changing.{IsChanged}
use Rattle.shim_process_table.specs.Touching.{ChangesOnlyEach}
use Rattle.shim_run_state.specs.ProcessLists.{ProcessListsView, Serves}
use Rattle.shim_run_state.specs.RunStates.{RunStateView, tree_in, path_at, counts_from, IsQuietAt, RunStateInvariant}
use Rattle.shim_run_state.specs.CheckingOut.{HappensIn}
use Rattle.shim_run_state.specs.Several.{RequeuesEach}
use Rattle.shim_run_state.proofs.Counts.{same}
use Rattle.shim_run_state.proofs.Events.{counts_in, Happened}
use Rattle.shim_run_state.proofs.OneMoved.{still_for_all, keeps_on}
use Rattle.shim_run_state.proofs.Paths.{path_of, same_path_at}
use Rattle.shim_run_state.proofs.Enqueued.{each_suffices}
use Rattle.shim_run_state.proofs.Staying.{quiet_stays, out_as_before, still_out, still_listed}

module _ {S : Type 0} (o : Ops S) (numbers : List ℕ) (before behind : TableView S) (changed : IsChanged o numbers before behind) where
  was_used : (i : ℕ) → IsInUse behind i → IsInUse before i
  was_used i u = let w = changed.only i u.0 u.1 u.2 u.3 in (w.0, w.1, w.2, w.3)

  -- who was in use still is, and nobody else
  pub used_behind : AreInUse before numbers → AreInUse behind numbers
  used_behind used i g = let u = used i g in let w = changed.still i u.0 u.1 u.2 u.3 in (w.0, w.1, w.2, w.3)

  pub room_behind : (s : ProcessListsView) → Serves before s → Serves behind s
  room_behind s h = still_for_all before behind s.own s.own was_used refl h

module _ {S : Type 0} (o : Ops S) (before behind : RunStateView S) (numbers : List ℕ) (changed : IsChanged o numbers before.table behind.table) where
  -- each number has its path
  paths : (i : ℕ) → path_at o behind.table i ≡ path_at o before.table i
  paths i = same_path_at o before.table behind.table i
      (λ u. let w = changed.still i u.first u.process u.status_is u.has in path_of o behind.table i w.0 w.1 w.2 w.3 ∙ ap Some w.4)
      (λ u. let w = changed.only i u.first u.process u.status_is u.has in record { first = w.0; process = w.1; status_is = w.2; has = w.3 })

  -- so the own steps are counted as before
  pub counts_stay : behind.process_lists.own ≡ before.process_lists.own → behind.past ≡ before.past → counts_in o behind ≡ counts_in o before
  counts_stay own past =
      (λ j. counted (counts_from (path_at o behind.table) (own j) ++ past j))
      ∙ ap (λ z. counted (z ++ before.past)) (same (path_at o behind.table) (path_at o before.table) before.process_lists.own paths)

  used_before : (i : ℕ) → IsInUse behind.table i → IsInUse before.table i
  used_before = was_used o numbers before.table behind.table changed

  module _ (law : LocalLaws o) (kept : RunStateInvariant o before) (e : Event) (h : Happened o before behind kept.represents e) (none : IsNoQuietStep o (tree_in o before) e) (checked_out : behind.process_lists.checked_out ≡ before.process_lists.checked_out) where
    flags : (i : ℕ) → is_listed behind.process_lists.checked_out i ≡ is_listed before.process_lists.checked_out i
    flags i = ap (λ z. is_listed z i) checked_out

    stay : (i : ℕ) (l : S) → IsQuietAt o before.table i l → is_listed before.process_lists.checked_out i ≡ true → IsQuietAt o behind.table i l
    stay i l q flag = quiet_stays o law before behind kept e h.leads none h.represents (λ j g t has. changed.only j g t lives has) i l q

    pub several_happen : HappensIn o before behind e
    several_happen = record { leads = h.leads; other = none; same = out_as_before o before behind kept flags stay }

  module _ (law : LocalLaws o) (kept : RunStateInvariant o before) (e : Event) (h : Happened o before behind kept.represents e) (none : IsNoQuietStep o (tree_in o before) e) (touches : ChangesOnlyEach numbers before.table behind.table)
      (again : RequeuesEach o behind.table numbers before.process_lists behind.process_lists) where
    fresh : (i : ℕ) (l : S) → IsQuietAt o behind.table i l → (is_listed behind.process_lists.ready_queue i ≡ true) ⊎ IsQuietAt o before.table i l
    fresh i l q = elim (changed.living i q.first l q.has) [
      | inl g ↦ inl (again.ready_queue.mine i l g q)
      | inr was ↦ inr (record { first = q.first; has = was; stop_is = q.stop_is })
    ]

    pub several_keep : steps (tree_in o before) < 4000000 → RunStateInvariant o behind
    several_keep few = keeps_on o law before behind kept (record {
      represents = h.represents;
      few = let more = h.counts in omega (arith, few, more);
      looks = each_suffices o [] before.table behind.table (tree_in o behind).root h.represents numbers before.process_lists.event_queue behind.process_lists.event_queue again.event_queue again.within touches;
      event_queue = again.event_queue.kept;
      ready_queue = still_listed o before behind kept (flags law kept e h none again.checked_out) (stay law kept e h none again.checked_out) again.ready_queue.kept fresh;
      checked_out = still_out o before behind kept (flags law kept e h none again.checked_out) (stay law kept e h none again.checked_out);
      serves = still_for_all before.table behind.table before.process_lists.own behind.process_lists.own used_before (ap length again.own) kept.serves;
    })
