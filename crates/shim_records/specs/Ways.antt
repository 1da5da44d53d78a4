-- How the counts of records are brought up to date on the way up.
use Rattle.std.specs.Prelude.{◌≡◌, ◌⊎◌, ℕ, suc, Bool, true, false, Option, Some, None, List, map}
use Rattle.shim_base.specs.Paths.{Channel, same_channel}
use Rattle.shim_laws_table.specs.Counts.{Tally, going_child_status}
use Rattle.shim_laws_table.specs.Updating.{UpdatedAbove}
use Rattle.shim_records.specs.Pairs.{child_status_of, counts_in, counts_ready, min_labels_in, up_in, rest_of}
use Rattle.shim_records.specs.declared.upward.CountChange.{CountChange}
use Rattle.shim_records.specs.declared.pair.ChildStatus.{ChildStatus}
use Rattle.shim_records.specs.declared.record.Record.{Record}

-- `IsAbove up n i j`: j is the number of one of the first n forks above i, by what children know of their forks.
pub data IsAbove (up : ℕ → Option ℕ) : ℕ → ℕ → ℕ → Type 0 where
  its_fork : (n i j : ℕ) → up i ≡ Some j → IsAbove up (suc n) i j
  further : (n i j k : ℕ) → up i ≡ Some j → IsAbove up n j k → IsAbove up (suc n) i k

-- no process has more forks above it than these: no path has more pairs
abbrev pub most_forks : ℕ
most_forks = 4294967295

-- the counts for the channel have changed at most in the first n forks above this record
abbrev pub CountsMovedWithin : Channel → ℕ → ℕ → List Record → List Record → Type 0
CountsMovedWithin c n x before after = (i : ℕ) → (IsAbove (up_in before) n x i → ⊥) → counts_in c after i ≡ counts_in c before i

-- the counts for each channel have changed at most in the first n forks above this record
abbrev pub AllCountsMovedWithin : ℕ → ℕ → List Record → List Record → Type 0
AllCountsMovedWithin n x before after = (c : Channel) → CountsMovedWithin c n x before after

-- the counts for the channel alone have changed, of whatever records
pub record OnlyCounts (c : Channel) (before after : List Record) : Type 0 where
  pub rest : map rest_of after ≡ map rest_of before
  pub elsewhere : (d : Channel) → same_channel c d ≡ false → (i : ℕ) → counts_in d after i ≡ counts_in d before i
  pub labels : (d : Channel) (i : ℕ) → min_labels_in d after i ≡ min_labels_in d before i

-- the counts `after` are the counts `before`, once updated for this change through at most n forks above its record
abbrev pub UpdatesFrom : (ℕ → Option ℕ) → ℕ → (ℕ → Option Tally) → CountChange → (ℕ → Option Tally) → Type 0
UpdatesFrom up n before here after = UpdatedAbove up 4294967295 n before here.at (child_status_of here.was) (child_status_of here.is) after

-- the update ends here, whatever number of forks it might have gone through; or it goes on from the parent
abbrev pub Continues : (ℕ → Option ℕ) → (ℕ → Option Tally) → CountChange → Option CountChange → (ℕ → Option Tally) → Type 0
Continues up before here None now = (n : ℕ) → UpdatesFrom up n before here now
Continues up before here (Some next) now = (n : ℕ) (after : ℕ → Option Tally) → UpdatesFrom up n now next after → UpdatesFrom up (suc n) before here after

-- Only the parent's counts may have changed. If the update goes on, it goes on from the parent.
pub record ChangesParent (c : Channel) (before : List Record) (here : CountChange) (next : Option CountChange) (after : List Record) : Type 0 where
  pub others : (i : ℕ) → (up_in before here.at ≡ Some i → ⊥) → counts_in c after i ≡ counts_in c before i
  pub goes_on : (above : CountChange) → next ≡ Some above → up_in before here.at ≡ Some above.at

-- a process that goes on was ready here, and isn't any more
abbrev pub BecomesUnready : CountChange → Type 0
BecomesUnready here = (child_status_of here.was ≡ going_child_status true) × (child_status_of here.is ≡ going_child_status false)

-- What one step of an update gives for the parent: whether more may be due at it, and whether it is ready by its counts.
pub record ReadsParent (c : Channel) (before : List Record) (here : CountChange) (next : Option CountChange) (due : Bool) (after : List Record) : Type 0 where
  -- if the parent isn't due, it isn't ready by its counts after the step, and it has no label for the channel
  pub closed : due ≡ false → (i : ℕ) → up_in before here.at ≡ Some i → (counts_ready (counts_in c after i) ≡ false) × (min_labels_in c before i ≡ None)
  -- if the update ends here, the parent is ready by its counts exactly if it was before
  pub same : next ≡ None → (i : ℕ) → up_in before here.at ≡ Some i → counts_ready (counts_in c after i) ≡ counts_ready (counts_in c before i)
  -- If the child was ready and isn't any more, the parent isn't ready by its counts. If the update goes on, the parent was ready and isn't any more, too.
  pub unready : BecomesUnready here → (i : ℕ) → up_in before here.at ≡ Some i → counts_ready (counts_in c after i) ≡ false
  pub falls : BecomesUnready here → (above : CountChange) → next ≡ Some above → BecomesUnready above

-- the counts of the one record above are moved, and nothing else has changed
abbrev pub StepsUp : Channel → List Record → CountChange → Option CountChange → Bool → List Record → Type 0
StepsUp c before here next due after =
    Continues (up_in before) (counts_in c before) here next (counts_in c after) × OnlyCounts c before after × ChangesParent c before here next after × ReadsParent c before here next due after

-- the counts for the channel above the record x were updated, through at most n forks, and nothing else has changed
abbrev pub IsUpdatedAbove : Channel → ℕ → ℕ → ChildStatus → ChildStatus → List Record → List Record → Type 0
IsUpdatedAbove c n x was is before after = UpdatedAbove (up_in before) 4294967295 n (counts_in c before) x (child_status_of was) (child_status_of is) (counts_in c after) × OnlyCounts c before after

-- ---- what becomes ready by an update

-- no record is ready for the channel by its counts that wasn't
abbrev pub NoneReadied : Channel → List Record → List Record → Type 0
NoneReadied c before after = (i : ℕ) → counts_ready (counts_in c after i) ≡ true → counts_ready (counts_in c before i) ≡ true

-- a live process came to the channel: the counts above the record x were updated for it, through at most n forks
abbrev pub BecomesReady : Channel → ℕ → ℕ → List Record → List Record → Type 0
BecomesReady c n x before after = (was : ChildStatus) × (is : ChildStatus) × (child_status_of was ≡ going_child_status false) × (child_status_of is ≡ going_child_status true) × IsUpdatedAbove c n x was is before after

-- j is x, or the record j has become ready for the channel by its counts
abbrev pub HasReadied : Channel → ℕ → List Record → List Record → ℕ → Type 0
HasReadied c x before after j = (j ≡ x) ⊎ ((counts_ready (counts_in c after j) ≡ true) × (counts_ready (counts_in c before j) ≡ false))

-- Beyond the first n forks above the record x no record became ready for the channel by its counts. Beyond these forks no record has a label for the channel if a child became ready for it.
pub record ReadiesWithin (c : Channel) (n x : ℕ) (before after : List Record) : Type 0 where
  pub counts : (i : ℕ) → (IsAbove (up_in before) n x i → ⊥) → counts_ready (counts_in c after i) ≡ true → counts_ready (counts_in c before i) ≡ true
  pub labels : (i j : ℕ) → up_in before j ≡ Some i → (IsAbove (up_in before) n x i → ⊥) → HasReadied c x before after j → min_labels_in c before i ≡ None
