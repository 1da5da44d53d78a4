-- Who is checked out, and what that leaves as it is.
use Rattle.std.specs.Prelude.{◌≡◌, ◌≢◌, ◌≤◌, ◌↔◌, ℕ, false, Option, Some, None}
use Rattle.shim_local.specs.Process.{Ops}
use Rattle.shim_local.specs.Quiets.{QuietSteps}
use Rattle.shim_local.specs.Pieces.{FewerWithCause}
use Rattle.shim_local.specs.declared.local.Quiet.{Quiet}
use Rattle.shim_semantics.specs.Trees.{Event}
use Rattle.shim_semantics.specs.Trees as trees
use Rattle.shim_semantics.specs.Quiets.{Advances}
use Rattle.shim_laws_replay.specs.Grants.{IsGrantable, IsNoQuietStep}
use Rattle.shim_laws_table_events.specs.queues.EventQueue.{is_listed}
use Rattle.shim_run_state.specs.RunStates.{RunStateView, tree_in, IsQuietAt, IsCheckedOut}

-- the same processes are checked out, in the same states
abbrev pub SameCheckedOut : {S : Type 0} → Ops S → RunStateView S → RunStateView S → Type 0
SameCheckedOut {S} o before after = (i : ℕ) (l : S) → IsCheckedOut o before i l ↔ IsCheckedOut o after i l

-- no process is checked out
abbrev pub NoneCheckedOut : {S : Type 0} → Ops S → RunStateView S → Type 0
NoneCheckedOut {S} o v = (i : ℕ) (l : S) → IsCheckedOut o v i l → ⊥

-- the process with this number is before a quiet step, and isn't checked out
pub record IsHomeAt {S : Type 0} (o : Ops S) (v : RunStateView S) (i : ℕ) (l : S) : Type 0 where
  pub at_quiet : IsQuietAt o v.table i l
  pub free : is_listed v.process_lists.checked_out i ≡ false

-- nothing but queues has changed: the tree, the states and records, and the checked out flags are the same
pub record SameTree {S : Type 0} (o : Ops S) (before after : RunStateView S) : Type 0 where
  pub tree : tree_in o after ≡ tree_in o before
  pub table : after.table ≡ before.table
  pub checked_out : after.process_lists.checked_out ≡ before.process_lists.checked_out

-- Nothing but a queue has changed. None: each process before a quiet step is checked out. Some: the process with this number is before a quiet step, and isn't checked out.
abbrev pub IsNextQuiet : {S : Type 0} → Ops S → RunStateView S → RunStateView S → Option ℕ → Type 0
IsNextQuiet {S} o before after None = SameTree o before after × ((l : S) → IsGrantable o (tree_in o before) l → (i : ℕ) × IsCheckedOut o before i l)
IsNextQuiet {S} o before after (Some number) = SameTree o before after × ((l : S) × IsHomeAt o before number l)

-- the process with this number is checked out now, of the others just those that were, and the tree is the same
pub record ChecksOut {S : Type 0} (o : Ops S) (before after : RunStateView S) (number : ℕ) (l : S) : Type 0 where
  pub is : IsCheckedOut o after number l
  pub others : (i : ℕ) (s : S) → i ≢ number → IsCheckedOut o before i s ↔ IsCheckedOut o after i s
  pub tree : tree_in o after ≡ tree_in o before

-- the process with this number is checked out, and so many quiet steps lead from its state to this one
pub record CheckedOutReaches {S : Type 0} (o : Ops S) (v : RunStateView S) (number steps : ℕ) (process last : S) : Type 0 where
  pub checked_out : IsCheckedOut o v number process
  pub chain : QuietSteps o steps process last

-- The process with this number, which was checked out, did so many quiet steps that led to this state. It is checked out no more. Of the others those are checked out that were.
pub record ChecksIn {S : Type 0} (o : Ops S) (before after : RunStateView S) (number steps : ℕ) (process last : S) : Type 0 where
  pub was : IsCheckedOut o before number process
  pub chain : QuietSteps o steps process last
  pub advances : Advances o (o.path process) steps (tree_in o before) (tree_in o after)
  pub is_not : (s : S) → IsCheckedOut o after number s → ⊥
  pub others : (i : ℕ) (s : S) → i ≢ number → IsCheckedOut o before i s ↔ IsCheckedOut o after i s

-- The process in this state did up to `most` quiet steps, and fewer only where `FewerWithCause` says. The same processes are checked out.
pub record StepsIn {S : Type 0} (o : Ops S) (before after : RunStateView S) (number most : ℕ) (did : Quiet) (process : S) : Type 0 where
  pub last : S
  pub chain : QuietSteps o did.taken process last
  pub within : did.taken ≤ most
  pub fewer : FewerWithCause o did.taken most did.short last
  pub advances : Advances o (o.path process) did.taken (tree_in o before) (tree_in o after)
  pub same : SameCheckedOut o before after

-- the event happened, which was no quiet step, and who is checked out stays so
pub record HappensIn {S : Type 0} (o : Ops S) (before after : RunStateView S) (e : Event) : Type 0 where
  pub leads : trees.after o e (tree_in o before) ≡ Some (tree_in o after)
  pub other : IsNoQuietStep o (tree_in o before) e
  pub same : SameCheckedOut o before after

-- nothing but a queue has changed, and no event is enabled that is no quiet step
abbrev pub RestsIn : {S : Type 0} → Ops S → RunStateView S → RunStateView S → Type 0
RestsIn {S} o before after = SameTree o before after × ((e : Event) → IsNoQuietStep o (tree_in o before) e → trees.after o e (tree_in o before) ≡ None)
