-- One process has changed, and what is to be looked at again is listed: the type's invariant stays.
use Rattle.std.proofs.Common.{◌≡◌, ◌≢◌, ◌≤◌, ◌<◌, ◌↔◌, inl, inr, ℕ, true, false, List, [], length, sym, ap, subst, ◌∙◌}
use Rattle.shim_base.proofs.Facts.{true_or_false}
use Rattle.shim_local.specs.Process.{Ops, AtQuiet}
use Rattle.shim_local.specs.Laws.{LocalLaws}
use Rattle.shim_semantics.specs.Trees.{steps}
use Rattle.shim_semantics.proofs.HowMany.{clash}
use Rattle.shim_laws_table.specs.NodeStatus.{ProcessStatus, lives}
use Rattle.shim_laws_table.proofs.OneChange.{one_state}
use Rattle.shim_laws_table.proofs.SameTrees.{same_or_not}
use Rattle.shim_laws_table_events.specs.keeping.Tables.{TableView, HasProcessState, TableInvariant, views}
use Rattle.shim_laws_table_events.specs.queues.EventQueue.{is_listed}
use Rattle.shim_laws_table_events.proofs.queues.EventQueue.{queue_stays_complete}
use Rattle.shim_process_table.specs.Lookups.{IsInUse, IsForAll}
use Rattle.shim_process_table.specs.Stepping.{HasBecome}
use Rattle.shim_process_table.specs.Touching.{ReadiesAbove}
use Rattle.shim_run_state.specs.ProcessLists.{Serves}
use Rattle.shim_run_state.specs.RunStates.{RunStateView, tree_in, IsQuietAt, IsCheckedOut, RunStateInvariant, QuietAreListed}
use Rattle.shim_run_state.specs.CheckingOut.{SameCheckedOut}
use Rattle.shim_run_state.specs.Enqueueing.{ListsInEventQueue, ListsInReadyQueue}
use Rattle.shim_run_state.proofs.Enqueued.{Suffices, one_suffices}

-- as long a list has an item for the same numbers
pub still_for_all : {S A : Type 0} (before behind : TableView S) (xs ys : List A) → ((i : ℕ) → IsInUse behind i → IsInUse before i) → length ys ≡ length xs → IsForAll before xs → IsForAll behind ys
still_for_all before behind xs ys used e h i u = subst (λ n. i < n) (sym e) (h i (used i u))

-- where one process has become another, no other number is in use
module _ {S : Type 0} (before behind : TableView S) (number f : ℕ) (l s : S) (h k : ProcessStatus) (has : HasProcessState before number f l h) (becomes : HasBecome number s k before behind) where
  pub was_used : (i : ℕ) → IsInUse behind i → IsInUse before i
  was_used i (g, t, x, there) = elim (same_or_not i number) [
    | inl e ↦ (f, l, h, subst (λ z. HasProcessState before z f l h) (sym e) has)
    | inr far ↦ (g, t, x, becomes.only i g t x far there)
  ]

  pub for_all_behind : {A : Type 0} (xs : List A) → IsForAll before xs → IsForAll behind xs
  for_all_behind xs h i u = h i (was_used i u)

module _ {S : Type 0} (o : Ops S) (law : LocalLaws o) (before behind : RunStateView S) (kept : RunStateInvariant o before) where
  -- Where the records show the tree behind, the list has all that is to be looked at again, and whoever is before a quiet step is listed anew, or did so before.
  pub record HasMoved : Type 0 where
    pub represents : TableInvariant o [] behind.table (tree_in o behind).root
    pub few : steps (tree_in o behind) ≤ 4000000
    pub looks : Suffices o before.table behind.table behind.process_lists.event_queue
    pub event_queue : (i : ℕ) → is_listed before.process_lists.event_queue i ≡ true → is_listed behind.process_lists.event_queue i ≡ true
    pub ready_queue : QuietAreListed o behind.table behind.process_lists.ready_queue behind.process_lists.checked_out
    pub checked_out : (i : ℕ) → is_listed behind.process_lists.checked_out i ≡ true → (l : S) × IsQuietAt o behind.table i l
    pub serves : Serves behind.table behind.process_lists

  pub keeps_on : HasMoved → RunStateInvariant o behind
  keeps_on m = record {
    represents = m.represents;
    event_queue = (queue_stays_complete o law).moves [] before.table behind.table (tree_in o before) (tree_in o behind) before.process_lists.event_queue behind.process_lists.event_queue kept.represents m.represents kept.event_queue m.event_queue m.looks;
    ready_queue = m.ready_queue;
    checked_out = m.checked_out;
    serves = m.serves;
    few = m.few;
  }

  -- ---- one process has become another

  module _ (number f : ℕ) (l s : S) (h k : ProcessStatus) (has : HasProcessState before.table number f l h) (becomes : HasBecome number s k before.table behind.table)
      (flags : (i : ℕ) → i ≢ number → is_listed behind.process_lists.checked_out i ≡ is_listed before.process_lists.checked_out i) (free : is_listed behind.process_lists.checked_out number ≡ false) where
    used_before : (i : ℕ) → IsInUse behind.table i → IsInUse before.table i
    used_before = was_used before.table behind.table number f l s h k has becomes

    pub quiet_before : (i : ℕ) (t : S) → i ≢ number → IsQuietAt o behind.table i t → IsQuietAt o before.table i t
    quiet_before i t far q = record { first = q.first; has = becomes.only i q.first t lives far q.has; stop_is = q.stop_is }

    pub quiet_behind : (i : ℕ) (t : S) → i ≢ number → IsQuietAt o before.table i t → IsQuietAt o behind.table i t
    quiet_behind i t far q = record { first = q.first; has = becomes.others i q.first t lives far q.has; stop_is = q.stop_is }

    -- who is checked out now is another one, and was checked out
    out_far : (i : ℕ) → is_listed behind.process_lists.checked_out i ≡ true → i ≢ number
    out_far i flag e = clash (is_listed behind.process_lists.checked_out i) flag (ap (is_listed behind.process_lists.checked_out) e ∙ free)

    pub others_out : (i : ℕ) (t : S) → i ≢ number → IsCheckedOut o before i t ↔ IsCheckedOut o behind i t
    others_out i t far = (
      λ w. record { at_quiet = quiet_behind i t far w.at_quiet; flag = flags i far ∙ w.flag },
      λ w. record { at_quiet = quiet_before i t far w.at_quiet; flag = sym (flags i far) ∙ w.flag },
    )

    pub isnt_out : (t : S) → IsCheckedOut o behind number t → ⊥
    isnt_out t w = clash (is_listed behind.process_lists.checked_out number) w.flag free

    -- who was checked out still is, where the process wasn't
    pub same_out : is_listed before.process_lists.checked_out number ≡ false → SameCheckedOut o before behind
    same_out was i t = elim (same_or_not i number) [
      | inr far ↦ others_out i t far
      | inl e ↦ (
        λ w. clash (is_listed before.process_lists.checked_out i) w.flag (ap (is_listed before.process_lists.checked_out) e ∙ was),
        λ w. clash (is_listed behind.process_lists.checked_out i) w.flag (ap (is_listed behind.process_lists.checked_out) e ∙ free),
      )
    ]

    module _ (n : ℕ) (represents : TableInvariant o [] behind.table (tree_in o behind).root) (few : steps (tree_in o behind) ≤ 4000000) (newly_ready : ReadiesAbove o n number before.table behind.table)
        (event_queue : ListsInEventQueue o behind.table n number before.process_lists.event_queue behind.process_lists.event_queue) (ready_queue : ListsInReadyQueue o behind.table number before.process_lists.ready_queue behind.process_lists.ready_queue)
        (owns : length behind.process_lists.own ≡ length before.process_lists.own) where
      lists : QuietAreListed o behind.table behind.process_lists.ready_queue behind.process_lists.checked_out
      lists i t q = elim (same_or_not i number) [
        | inl e ↦ inl (ap (is_listed behind.process_lists.ready_queue) e ∙ ready_queue.mine t (subst (λ z. IsQuietAt o behind.table z t) e q))
        | inr far ↦ elim (kept.ready_queue i t (quiet_before i t far q)) [ inl w ↦ inl (ready_queue.kept i w) | inr w ↦ inr (flags i far ∙ w) ]
      ]

      stay_out : (i : ℕ) → is_listed behind.process_lists.checked_out i ≡ true → (t : S) × IsQuietAt o behind.table i t
      stay_out i flag =
          let far = out_far i flag in
          let w = kept.checked_out i (sym (flags i far) ∙ flag) in
          (w.0, quiet_behind i w.0 far w.1)

      pub one_moved : RunStateInvariant o behind
      one_moved = keeps_on (record {
        represents = represents;
        few = few;
        looks = one_suffices o [] before.table behind.table (tree_in o behind).root represents n number before.process_lists.event_queue behind.process_lists.event_queue event_queue newly_ready;
        event_queue = event_queue.kept;
        ready_queue = lists;
        checked_out = stay_out;
        serves = still_for_all before.table behind.table before.process_lists.own behind.process_lists.own used_before owns kept.serves;
      })

  -- who is at something else isn't checked out
  pub other_stop_free : (number f : ℕ) (l : S) → HasProcessState before.table number f l lives → o.stop l ≢ AtQuiet → is_listed before.process_lists.checked_out number ≡ false
  other_stop_free number f l has other = elim (true_or_false (is_listed before.process_lists.checked_out number)) [
    | inr e ↦ e
    | inl e ↦
        let w = kept.checked_out number e in
        absurd (other (ap o.stop (one_state before.table.states (views before.table) number f w.1.first l w.0 lives lives has w.1.has) ∙ w.1.stop_is))
  ]
