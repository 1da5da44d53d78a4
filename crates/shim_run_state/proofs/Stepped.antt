-- One process did quiet steps, in place or elsewhere.
use Rattle.std.proofs.Common.{◌≡◌, ◌≢◌, ◌≤◌, ◌<◌, ◌+◌, ℕ, false, sym, subst, arith}
use Rattle.std.specs.Prelude.{slice_get, Some}
use Rattle.shim_local.specs.Process.{Ops}
use Rattle.shim_local.specs.Laws.{LocalLaws}
use Rattle.shim_local.specs.Quiets.{QuietSteps}
use Rattle.shim_local.specs.declared.local.Quiet.{Quiet}
use Rattle.shim_semantics.specs.Trees.{steps}
use Rattle.shim_semantics.specs.Quiets.{Advances}
use Rattle.shim_laws_table.specs.NodeStatus.{lives}
use Rattle.shim_laws_table.proofs.OneChange.{one_state}
use Rattle.shim_laws_replay.proofs.Entries.{pieces_are_entries}
use Rattle.shim_laws_table_events.specs.keeping.Tables.{TableView, views}
use Rattle.shim_laws_table_events.specs.keeping.Moves.{PerformsQuiet}
use Rattle.shim_laws_table_events.specs.queues.EventQueue.{is_listed}
use Rattle.shim_process_table.specs.Lookups.{IsInUse}
use Rattle.shim_process_table.specs.Stepping.{HasBecome, IsBeforeQuiet, StepsAt}
use Rattle.shim_process_table.specs.Touching.{ReadiesAbove}
use Rattle.shim_run_state.specs.ProcessLists.{ProcessListsView, Serves}
use Rattle.shim_run_state.specs.RunStates.{RunStateView, tree_in, IsQuietAt, IsCheckedOut, RunStateInvariant}
use Rattle.shim_run_state.specs.CheckingOut.{ChecksIn, StepsIn}
use Rattle.shim_run_state.specs.Enqueueing.{HasCounted, ListsInEventQueue, ListsInReadyQueue}
use Rattle.shim_run_state.proofs.Advanced.{Advanced, grantable, steps_on}
use Rattle.shim_run_state.proofs.OneMoved.{for_all_behind, others_out, isnt_out, same_out, one_moved}
use Rattle.shim_run_state.proofs.OwnCounts.{count_is_few, counts_more, as_many_counts}

-- beside the processes and the counts no effect has changed
pub record SameEffects {S : Type 0} (before behind : RunStateView S) : Type 0 where
  pub output : behind.output ≡ before.output
  pub histories : behind.histories ≡ before.histories
  pub logs : behind.logs ≡ before.logs
  pub past : behind.past ≡ before.past
  pub events : behind.events ≡ before.events

-- a process that is before a quiet step did so many
pub record DoesSteps {S : Type 0} (o : Ops S) (before behind : TableView S) (number n : ℕ) (l : S) : Type 0 where
  pub last : S
  pub chain : QuietSteps o n l last
  pub becomes : HasBecome number last lives before behind
  pub advances : PerformsQuiet o (o.path l) n before behind

pub does_steps : {S : Type 0} (o : Ops S) (before behind : TableView S) (number n : ℕ) (l : S) → IsQuietAt o before number l → StepsAt o number n before behind → DoesSteps o before behind number n l
does_steps o before behind number n l q h =
    let e : h.process ≡ l = one_state before.states (views before) number h.first q.first h.process l lives lives h.has q.has in record {
      last = h.last;
      chain = subst (λ z. QuietSteps o n z h.last) e h.chain;
      becomes = h.becomes;
      advances = subst (λ z. PerformsQuiet o (o.path z) n before behind) e h.advances;
    }

module _ {S : Type 0} (o : Ops S) where
  -- its count, and that of all steps, is so small that these may be added
  pub few_counted : (v : RunStateView S) (number n most : ℕ) (l : S) → IsQuietAt o v.table number l → n ≤ most → steps (tree_in o v) + most ≤ 4000000 → (count : ℕ) → slice_get v.process_lists.own number ≡ Some count → count + n ≤ 4000000
  few_counted v number n most l q within few count e = let c = count_is_few o v number q.first count l lives q.has e in omega (arith, c, within, few)

  module _ (before : RunStateView S) (behind : TableView S) (number n : ℕ) (l : S) (q : IsQuietAt o before.table number l) (d : DoesSteps o before.table behind number n l) where
    pub still_used : IsInUse behind number
    still_used = (d.becomes.first, d.last, lives, d.becomes.mine)

    pub still_serves : (s : ProcessListsView) → Serves before.table s → Serves behind s
    still_serves s = for_all_behind before.table behind number q.first l d.last lives lives q.has d.becomes s.own

module _ {S : Type 0} (o : Ops S) (law : LocalLaws o) (before behind : RunStateView S) (kept : RunStateInvariant o before) (number n : ℕ) (l : S) (q : IsQuietAt o before.table number l) (d : DoesSteps o before.table behind.table number n l)
    (flags : (i : ℕ) → i ≢ number → is_listed behind.process_lists.checked_out i ≡ is_listed before.process_lists.checked_out i) (free : is_listed behind.process_lists.checked_out number ≡ false) where
  module _ (unchanged : SameEffects before behind) (counted : HasCounted number n before.process_lists.own behind.process_lists.own) where
    path : o.path d.last ≡ o.path l
    path = ((pieces_are_entries o law).comes (tree_in o before) n l d.last kept.represents.represents.sound (grantable o law before number l kept.represents q) d.chain).1

    pub advanced_by : Advanced o law before behind n l d.last
    advanced_by = steps_on o law before behind number n l d.last kept.represents q d.chain d.advances unchanged.output unchanged.histories unchanged.logs (counts_more o before behind number q.first l d.last lives lives q.has d.becomes path unchanged.past n counted) unchanged.events

    pub steps_keep : (forks : ℕ) → steps (tree_in o before) + n ≤ 4000000 → ReadiesAbove o forks number before.table behind.table → ListsInEventQueue o behind.table forks number before.process_lists.event_queue behind.process_lists.event_queue → ListsInReadyQueue o behind.table number before.process_lists.ready_queue behind.process_lists.ready_queue → RunStateInvariant o behind
    steps_keep forks few newly_ready event_queue ready_queue =
        let a = advanced_by in
        let all = a.counts in
        one_moved o law before behind kept number q.first l d.last lives lives q.has d.becomes flags free forks a.represents (omega (arith, few, all)) newly_ready event_queue ready_queue (as_many_counts number n before.process_lists.own behind.process_lists.own counted)

    -- it was checked out, and isn't
    pub checks_in : IsCheckedOut o before number l → (last : S) → QuietSteps o n l last → ChecksIn o before behind number n l last
    checks_in was last chain = record {
      was = was;
      chain = chain;
      advances = advanced_by.leads;
      is_not = isnt_out o law before behind kept number q.first l d.last lives lives q.has d.becomes flags free;
      others = others_out o law before behind kept number q.first l d.last lives lives q.has d.becomes flags free;
    }

  -- it wasn't, and did up to so many in place
  module _ (unchanged : SameEffects before behind) (counted : HasCounted number n before.process_lists.own behind.process_lists.own) where
    pub steps_in : (most : ℕ) (did : Quiet) → did.taken ≡ n → n ≤ most → (n < most → did.short ≡ false → IsBeforeQuiet o number behind.table false) → is_listed before.process_lists.checked_out number ≡ false → StepsIn o before behind number most did l
    steps_in most did e within fewer was = record {
      last = d.last;
      chain = subst (λ z. QuietSteps o z l d.last) (sym e) d.chain;
      within = subst (λ z. z ≤ most) (sym e) within;
      fewer = λ less whole. fewer (subst (λ z. z < most) e less) whole d.becomes.first d.last d.becomes.mine;
      advances = subst (λ z. Advances o (o.path l) z (tree_in o before) (tree_in o behind)) (sym e) (advanced_by unchanged counted).leads;
      same = same_out o law before behind kept number q.first l d.last lives lives q.has d.becomes flags free was;
    }
