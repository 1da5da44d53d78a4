-- What the scheduler keeps of each process stays whole: no list of flags gets shorter than that of the counts.
use Rattle.std.proofs.Common.{◌≡◌, ◌≤◌, ◌+◌, ◌⊎◌, inl, inr, ℕ, zero, suc, true, List, length, ap, ◌∙◌, arith}
use Rattle.std.specs.Prelude.{replicate}
use Rattle.std.proofs.lemmas.List.{length-append}
use Rattle.shim_records.specs.Blocks.{with_block}
use Rattle.shim_laws_table_events.specs.keeping.Tables.{TableView}
use Rattle.shim_process_table.specs.Lookups.{IsForAll}
use Rattle.shim_run_state.specs.ProcessLists.{ProcessListsView, FlagsReachAll, Serves}
use Rattle.shim_run_state.specs.Room.{IsLonger, HasNewChildren}
use Rattle.shim_run_state.proofs.Blocks.{block_within}

module _ {S : Type 0} (v : TableView S) (s : ProcessListsView) (even : FlagsReachAll s) (serves : Serves v s) where
  -- whoever has a count has a flag in each list
  pub in_event_queue : IsForAll v s.event_queue
  in_event_queue i u = let less = serves i u in let more = even.event_queue in omega (arith, less, more)

  pub in_quiet : IsForAll v s.ready_queue
  in_quiet i u = let less = serves i u in let more = even.ready_queue in omega (arith, less, more)

  pub in_checked_out : IsForAll v s.checked_out
  in_checked_out i u = let less = serves i u in let more = even.checked_out in omega (arith, less, more)

-- where no list is longer or shorter than before
pub still_even : (s t : ProcessListsView) → FlagsReachAll s → length t.own ≡ length s.own → length t.event_queue ≡ length s.event_queue → length t.ready_queue ≡ length s.ready_queue → length t.checked_out ≡ length s.checked_out → FlagsReachAll t
still_even s t even own event_queue ready_queue checked_out = record {
  event_queue = let e = even.event_queue in omega (arith, e, own, event_queue);
  ready_queue = let e = even.ready_queue in omega (arith, e, own, ready_queue);
  checked_out = let e = even.checked_out in omega (arith, e, own, checked_out);
}

-- or where only flags have come
pub longer : {A : Type 0} (x : A) (old new : List A) → IsLonger x old new → length old ≤ length new
longer x old new more = let e = ap length more.1 ∙ length-append old (replicate more.0 x) in omega (arith, e)

pub longer_even : (s t : ProcessListsView) → FlagsReachAll s → t.own ≡ s.own → length s.event_queue ≤ length t.event_queue → length s.ready_queue ≤ length t.ready_queue → length s.checked_out ≤ length t.checked_out → FlagsReachAll t
longer_even s t even own event_queue ready_queue checked_out = record {
  event_queue = let e = even.event_queue in let n = ap length own in omega (arith, e, n, event_queue);
  ready_queue = let e = even.ready_queue in let n = ap length own in omega (arith, e, n, ready_queue);
  checked_out = let e = even.checked_out in let n = ap length own in omega (arith, e, n, checked_out);
}

-- one of two numbers is no greater than the other
either : (a b : ℕ) → (a ≤ b) ⊎ (b ≤ a)
either zero b = inl (omega arith)
either (suc a) zero = inr (omega arith)
either (suc a) (suc b) = elim (either a b) [ inl e ↦ inl (omega (arith, e)) | inr e ↦ inr (omega (arith, e)) ]

-- or where counts have come for all numbers below this one, for which each list has a flag
pub grown_even : (s t : ProcessListsView) (end : ℕ) → FlagsReachAll s → (length s.own ≤ end → length t.own ≤ end) → (end ≤ length s.own → t.own ≡ s.own) → end ≤ length t.event_queue → end ≤ length t.ready_queue → end ≤ length t.checked_out
    → length s.event_queue ≤ length t.event_queue → length s.ready_queue ≤ length t.ready_queue → length s.checked_out ≤ length t.checked_out → FlagsReachAll t
grown_even s t end even grows stays event_queue ready_queue checked_out event_queues ready_queues all_out = elim (either (length s.own) end) [
  | inl less ↦ let n = grows less in record { event_queue = omega (arith, n, event_queue); ready_queue = omega (arith, n, ready_queue); checked_out = omega (arith, n, checked_out) }
  | inr more ↦ longer_even s t even (stays more) event_queues ready_queues all_out
]

-- ---- children that have come

module _ (first count : ℕ) (s t : ProcessListsView) (even : FlagsReachAll s) (within : first + count ≤ length s.own) where
  pub new_children : t.own ≡ with_block first (replicate count 0) s.own → t.event_queue ≡ with_block first (replicate count true) s.event_queue → t.ready_queue ≡ with_block first (replicate count true) s.ready_queue → t.checked_out ≡ s.checked_out → HasNewChildren first count s t
  new_children own event_queue ready_queue checked_out = record {
    own = own;
    event_queue = event_queue;
    ready_queue = ready_queue;
    checked_out = checked_out;
    within = within;
    listed = let e = even.event_queue in omega (arith, within, e);
    listed_quiet = let e = even.ready_queue in omega (arith, within, e);
  }

  pub children_even : HasNewChildren first count s t → FlagsReachAll t
  children_even new =
      still_even s t even (ap length new.own ∙ block_within 0 count first s.own new.within) (ap length new.event_queue ∙ block_within true count first s.event_queue new.listed)
      (ap length new.ready_queue ∙ block_within true count first s.ready_queue new.listed_quiet) (ap length new.checked_out)
