-- The ways up for the channels on which a new fork is ready, one after another.
use Rattle.std.proofs.Common.{◌≡◌, ℕ, ◌+◌, ◌≤◌, true, false, Some, List, map, drop, length, sym, subst, ◌∙◌}
use Rattle.std.specs.Prelude.{slice_get}
use Rattle.shim_base.specs.Paths.{NamedChannel}
use Rattle.shim_laws_table.specs.Counts.{going_child_status}
use Rattle.shim_records.specs.Pairs.{child_status_of, rest_of}
use Rattle.shim_records.specs.Fresh.{channels}
use Rattle.shim_records.specs.Ways.{IsUpdatedAbove, CountsMovedWithin}
use Rattle.shim_records.specs.declared.pair.ChildStatus.{ChildStatus}
use Rattle.shim_records.specs.declared.record.Record.{Record}
use Rattle.shim_records.proofs.Reaching.{one_alone}
use Rattle.shim_laws_table_events.specs.forks.Forking.{EachUpdatedAbove, none_left, one_more}
use Rattle.shim_process_table.specs.Touching.{ChangesOnlyRecords}
use Rattle.shim_process_table.proofs.Places.{drop_one, drop_all}
use Rattle.shim_process_table.proofs.Touching.{touches_on, touches_more, counts_reach}

-- what is left of the ways, and goes on from the records now, goes on from those at first
pub record OnTheWays (x : ℕ) (chans : List NamedChannel) (i : ℕ) (start now : List Record) : Type 0 where
  pub goes_on : (end : List Record) → EachUpdatedAbove 4294967295 x (channels (drop i chans)) now end → EachUpdatedAbove 4294967295 x (channels chans) start end
  pub rest : map rest_of now ≡ map rest_of start

pub one_way : (x : ℕ) (chans : List NamedChannel) (i : ℕ) (start now next : List Record) (d : NamedChannel) (was is : ChildStatus) → OnTheWays x chans i start now → slice_get chans i ≡ Some d
    → child_status_of was ≡ going_child_status false → child_status_of is ≡ going_child_status true
    → IsUpdatedAbove d.channel 4294967295 x was is now next → OnTheWays x chans (i + 1) start next
one_way x chans i start now next d was is h e u v way = record {
  goes_on = λ end more. h.goes_on end (subst (λ z. EachUpdatedAbove 4294967295 x (channels z) now end) (sym (drop_one chans i d e)) (one_more d.channel (channels (drop (i + 1) chans)) was is now next end u v way more));
  rest = way.1.rest ∙ h.rest;
}

-- of these ways one led furthest
pub one_further : (n m k x : ℕ) (start now next : List Record) (d : NamedChannel) (was is : ChildStatus) → n ≤ k → m ≤ k → ChangesOnlyRecords n x start now → IsUpdatedAbove d.channel 4294967295 x was is now next → CountsMovedWithin d.channel m x now next → ChangesOnlyRecords k x start next
one_further n m k x start now next d was is less more so_far way reaches =
    touches_on k x start now next (touches_more n k x start now less so_far)
    (touches_more m k x now next more (counts_reach m x now next way.1.rest way.1.labels (one_alone d.channel m x now next way.1 reaches)))

pub all_walked : (x : ℕ) (chans : List NamedChannel) (i : ℕ) (start now : List Record) → OnTheWays x chans i start now → length chans ≤ i → EachUpdatedAbove 4294967295 x (channels chans) start now
all_walked x chans i start now h past = h.goes_on now (subst (λ z. EachUpdatedAbove 4294967295 x (channels z) now now) (sym (drop_all chans i past)) (none_left now))
