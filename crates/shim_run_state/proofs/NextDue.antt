-- What is due next, and that nothing is.
use Rattle.std.proofs.Common.{◌≡◌, ℕ, Bool, true, false, Option, Some, None, List, [], length, slice_set, inl, inr, refl, sym, ap, ◌∙◌}
use Rattle.std.specs.Prelude.{slice_get}
use Rattle.std.proofs.lemmas.List.{length-set}
use Rattle.shim_base.proofs.Facts.{none_some}
use Rattle.shim_local.specs.Process.{Ops}
use Rattle.shim_local.specs.Laws.{LocalLaws}
use Rattle.shim_semantics.specs.Trees.{Tree, Event, after}
use Rattle.shim_laws_table.specs.Enabled.{Can}
use Rattle.shim_laws_table.proofs.SameTrees.{same_or_not}
use Rattle.shim_laws_replay.specs.Grants.{IsNoQuietStep}
use Rattle.shim_laws_table_events.specs.keeping.Tables.{TableView}
use Rattle.shim_laws_table_events.specs.queues.EventQueue.{is_listed}
use Rattle.shim_laws_table_events.specs.queues.RecordDecisions.{HasNothingDue}
use Rattle.shim_laws_table_events.proofs.queues.EventQueue.{queue_stays_complete}
use Rattle.shim_run_state.specs.RunStates.{RunStateView, tree_in, RunStateInvariant}
use Rattle.shim_run_state.specs.CheckingOut.{HappensIn, RestsIn}
use Rattle.shim_run_state.specs.Settling.{KeepsEventsListed, StaysAs}
use Rattle.shim_run_state.proofs.Advanced.{live_node_there}
use Rattle.shim_run_state.proofs.Flags.{far_flag, flag_put, within_cleared}
use Rattle.shim_run_state.proofs.CheckedOut.{with_process_lists}

-- the tree with these flags in place of its own
abbrev pub with_event_queue : {S : Type 0} → RunStateView S → List Bool → RunStateView S
with_event_queue v flags = with_process_lists v (record { own = v.process_lists.own; event_queue = flags; ready_queue = v.process_lists.ready_queue; checked_out = v.process_lists.checked_out })

module _ {S : Type 0} (o : Ops S) (law : LocalLaws o) (v : TableView S) (old : List Bool) where
  module _ (now : List Bool) (still : KeepsEventsListed o v old now) (n : ℕ) (was : slice_get now n ≡ Some true) where
    -- a number is dropped at which nothing but a quiet step can happen
    pub idle_dropped : (next : List Bool) → next ≡ slice_set now n false → HasNothingDue o v n → KeepsEventsListed o v old next
    idle_dropped next e idle = record {
      kept = λ t k h. (queue_stays_complete o law).drops [] v t n now next k (still.kept t k h) idle (λ j far y. ap (λ z. is_listed z j) e ∙ (far_flag now j n false far ∙ y));
      as_many = ap length e ∙ (length-set now n false ∙ still.as_many);
    }

    more : (next : List Bool) → next ≡ slice_set (slice_set now n false) n true → (i : ℕ) → is_listed now i ≡ true → is_listed next i ≡ true
    more next e i y = elim (same_or_not i n) [
      | inl w ↦ (λ t. is_listed (e t) (w t)) ∙ flag_put (slice_set now n false) n true (within_cleared now n was)
      | inr far ↦ ap (λ z. is_listed z i) e ∙ (far_flag (slice_set now n false) i n true far ∙ (far_flag now i n false far ∙ y))
    ]

    -- one that was taken out is put back
    pub events_again : (next : List Bool) → next ≡ slice_set (slice_set now n false) n true → KeepsEventsListed o v old next
    events_again next e = record {
      kept = λ t k h ev i can is other. more next e i (still.kept t k h ev i can is other);
      as_many = ap length e ∙ (length-set (slice_set now n false) n true ∙ (length-set now n false ∙ still.as_many));
    }

module _ {S : Type 0} (o : Ops S) (law : LocalLaws o) (v : RunStateView S) (kept : RunStateInvariant o v) (flags : List Bool) (still : KeepsEventsListed o v.table v.process_lists.event_queue flags) where
  pub events_kept : RunStateInvariant o (with_event_queue v flags)
  events_kept = record {
    represents = kept.represents;
    event_queue = still.kept (tree_in o v) kept.represents kept.event_queue;
    ready_queue = kept.ready_queue;
    checked_out = kept.checked_out;
    serves = kept.serves;
    few = kept.few;
  }

  -- where no number is listed nothing but quiet steps can happen
  pub rests : ((i : ℕ) → is_listed flags i ≡ false) → RestsIn o v (with_event_queue v flags)
  rests none = (record { tree = refl; table = refl; checked_out = refl }, λ e other. on e other (after o e (tree_in o v)) refl)
    where
      cannot : (e : Event) → IsNoQuietStep o (tree_in o v) e → Can o (tree_in o v) e → ⊥
      cannot e other can =
          let s = (queue_stays_complete o law).settled [] v.table (tree_in o v) flags e kept.represents (still.kept (tree_in o v) kept.represents kept.event_queue) none can in
          let q = s.1 in
          other (o.path q.process) q.is (q.process, live_node_there o law v.table (tree_in o v).root s.0 q.first q.process kept.represents q.has, q.stop_is)

      on : (e : Event) → IsNoQuietStep o (tree_in o v) e → (x : Option (Tree S)) → after o e (tree_in o v) ≡ x → after o e (tree_in o v) ≡ None
      on e other None h = h
      on e other (Some u) h = absurd (cannot e other (λ n. none_some u (sym n ∙ h)))

  -- what happens then, or doesn't, does so from the tree as it was
  pub happens_from : (w : RunStateView S) (e : Event) → HappensIn o (with_event_queue v flags) w e → HappensIn o v w e
  happens_from w e h = record {
    leads = h.leads;
    other = h.other;
    same = λ i l. (λ x. (h.same i l).0 (record { at_quiet = x.at_quiet; flag = x.flag }), λ y. let x = (h.same i l).1 y in record { at_quiet = x.at_quiet; flag = x.flag });
  }

  pub stays_from : (w : RunStateView S) → StaysAs o (with_event_queue v flags) w → StaysAs o v w
  stays_from w h = record {
    tree = h.tree;
    checked_out = λ i l. (λ x. (h.checked_out i l).0 (record { at_quiet = x.at_quiet; flag = x.flag }), λ y. let x = (h.checked_out i l).1 y in record { at_quiet = x.at_quiet; flag = x.flag });
  }
