-- A rendezvous has happened: its value is recorded, and all that share the channel have received it.
use Rattle.std.proofs.Common.{◌≡◌, ◌<◌, ◌+◌, ℕ, ℤ, Bool, List, [], inr, refl, ap, ◌∙◌, arith}
use Rattle.std.specs.Prelude.{unwrap_or}
use Rattle.std.specs.FinMap as finite
use Rattle.shim_base.specs.Paths.{Channel, channel_order}
use Rattle.shim_local.specs.Process.{Ops}
use Rattle.shim_local.specs.Laws.{LocalLaws}
use Rattle.shim_semantics.specs.Nodes.{Node, source, value_of, first_name}
use Rattle.shim_semantics.specs.Trees.{Tree, Met, Meet, steps, recorded}
use Rattle.shim_laws_table_events.specs.keeping.Tables.{TableView, TableInvariant}
use Rattle.shim_laws_table_events.specs.keeping.Moves.{Performs}
use Rattle.shim_laws_table_events.specs.meetings.Meetings.{HasValue}
use Rattle.shim_laws_table_events.specs.queues.EventQueue.{AreListed}
use Rattle.shim_laws_table_events.proofs.queues.EventQueue.{queue_stays_complete}
use Rattle.shim_process_table.specs.Changing.{IsChanged, ChangesEach}
use Rattle.shim_run_state.specs.ProcessLists.{ProcessListsView}
use Rattle.shim_run_state.specs.RunStates.{RunStateView, tree_in, RunStateInvariant}
use Rattle.shim_run_state.specs.Receiving.{with_table, RecordsValue}
use Rattle.shim_run_state.proofs.Events as events
use Rattle.shim_run_state.proofs.Several.{counts_stay, several_happen}
use Rattle.shim_run_state.proofs.Telling.{Goes, meeting_is_no_step}

module _ {S : Type 0} (o : Ops S) (law : LocalLaws o) where
  -- records that show two trees list for the one what they list for the other
  same_listed : (v : TableView S) (t u : Tree S) (flags : List Bool) → TableInvariant o [] v t.root → TableInvariant o [] v u.root → AreListed o v t flags → AreListed o v u flags
  same_listed v t u flags shown represents listed = (queue_stays_complete o law).moves [] v v t u flags flags shown represents listed (λ i e. e) (λ i f s k has. inr (λ e due other. (due, other)))

  module _ (before : RunStateView S) (kept : RunStateInvariant o before) (few : steps (tree_in o before) < 4000000) (c : Channel) (x : ℤ) (numbers : List ℕ) (now : TableView S) (t : ProcessListsView) (histories : finite.FinMap channel_order Met)
      (mid : RunStateInvariant o (with_table before now t)) (own : t.own ≡ before.process_lists.own) (checked_out : t.checked_out ≡ before.process_lists.checked_out)
      (moves : Performs o (Meet c) before.table now) (changes : ChangesEach o numbers before.table now) (value : HasValue o before.table c x) (recorded_is : RecordsValue o before.table c x before.histories histories) where
    abbrev pub behind : RunStateView S
    behind = record { begun = before.begun; table = now; output = before.output; histories = histories; logs = before.logs; process_lists = t; past = before.past; events = before.events + 1 }

    abbrev root : Node S
    root = (tree_in o before).root

    changed : IsChanged o numbers before.table now
    changed = changes [] root kept.represents

    histories_are : histories ≡ recorded before.histories c (unwrap_or (first_name o c root) 0) (value_of o c (source o c root))
    histories_are = recorded_is [] root kept.represents ∙ ap (recorded before.histories c (unwrap_or (first_name o c root) 0)) (value [] root kept.represents)

    happened : events.Happened o before behind kept.represents (Meet c)
    happened = events.meet o before behind kept.represents c moves refl histories_are refl (counts_stay o before behind numbers changed own refl) refl

    keeps : RunStateInvariant o behind
    keeps = record {
      represents = happened.represents;
      event_queue = same_listed now (tree_in o (with_table before now t)) (tree_in o behind) t.event_queue mid.represents happened.represents mid.event_queue;
      ready_queue = mid.ready_queue;
      checked_out = mid.checked_out;
      serves = mid.serves;
      few = let n = happened.counts in omega (arith, few, n);
    }

    pub met_goes : Goes o before behind (Meet c)
    met_goes = record {
      keeps = keeps;
      happens = several_happen o before behind numbers changed law kept (Meet c) happened (meeting_is_no_step o before c) checked_out;
      steps_are = happened.counts;
    }
