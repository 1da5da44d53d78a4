-- How what is done with a source ends: its status, its text, and what that shows of a run.
use Rattle.std.specs.Prelude.{ℕ, ◌≡◌, ◌≤◌, List}
use Rattle.shim_command.specs.declared.mode.Course.TheVariants.{InSomeOrder}
use Rattle.shim_syntax.specs.declared.Program.{Program}
use Rattle.shim_local.specs.declared.Ended.{Ended}
use Rattle.shim_process.specs.LocalState.{LocalState}
use Rattle.shim_semantics.specs.Trees.{Tree}
use Rattle.shim_results.specs.RunEnds.{Execution, end_of, read_off, report_of, status_of, tree_of, IsReachedIn, IsStoppedAt, IsStoppedEnd}
use Rattle.shim_results.specs.Recorded.{IsJournalOf, IsJournalRefused, IsRecordOf}
use Rattle.shim_results.specs.SourceActions.{SourceAction, runs, describes, records, replays, runs_each}

-- The execution x is done where `asked` is asked for. The two are equal, unless a journal is replayed. Then x has the same source and the same input, and the journal's budget; the journal is that of a run of x. For a source that is run on several inputs this is false: it has no one execution, and `Batches` has its executions.
abbrev pub IsRunBy : SourceAction → Execution → Execution → Type 0
IsRunBy (runs course shown) asked x = x ≡ asked
IsRunBy (describes relation) asked x = x ≡ asked
IsRunBy records asked x = x ≡ asked
IsRunBy (replays journal) asked x = (x.source ≡ asked.source) × (x.input ≡ asked.input) × (t : Tree LocalState) × IsJournalOf x t journal
IsRunBy (runs_each names inputs) asked x = ⊥

-- a journal that is to be replayed is refused with this line
abbrev pub IsRefusedBy : SourceAction → Execution → List ℕ → Type 0
IsRefusedBy (runs course shown) asked line = ⊥
IsRefusedBy (describes relation) asked line = ⊥
IsRefusedBy records asked line = ⊥
IsRefusedBy (replays journal) asked line = IsJournalRefused asked.source asked.input journal line
IsRefusedBy (runs_each names inputs) asked line = ⊥

-- The status for how the meaning of x ended; 0 for a source that is described. Of a source that is run on several inputs the 0 means nothing: `Batches` has its status.
abbrev pub status_by : SourceAction → Execution → ℕ
status_by (runs course shown) x = status_of x
status_by (describes relation) x = 0
status_by records x = status_of x
status_by (replays journal) x = status_of x
status_by (runs_each names inputs) x = 0

-- The text is that of a source with this program, whose meaning ended: it shows that, or describes the source. A journal, whether it is printed or replayed, is that of a run to the tree of the meaning.
abbrev pub IsTextBy : SourceAction → Program → Execution → List ℕ → Type 0
IsTextBy (runs course shown) program x text = text ≡ shown x (end_of x)
IsTextBy (describes relation) program x text = relation program x.source text
IsTextBy records program x text = IsRecordOf x (tree_of x) text
IsTextBy (replays journal) program x text = IsJournalOf x (tree_of x) journal × (text ≡ report_of x.source (end_of x))
IsTextBy (runs_each names inputs) program x text = ⊥

-- e may be read off a run of x where the budget stops it. For a source that is described or run on several inputs this is false.
abbrev pub IsStoppedBy : SourceAction → Execution → Ended → Type 0
IsStoppedBy (runs course shown) x e = IsStoppedEnd course x e
IsStoppedBy (describes relation) x e = ⊥
IsStoppedBy records x e = IsStoppedEnd InSomeOrder x e
IsStoppedBy (replays journal) x e = IsStoppedEnd InSomeOrder x e
IsStoppedBy (runs_each names inputs) x e = ⊥

-- What is printed where the budget stops a run of x at this tree. A run has the text of what is read off the tree, and `records` has the journal of a run to the tree. With `replays` the journal in the action is that of a run to the tree. For a source that is described or run on several inputs this is false.
abbrev pub IsShownAt : SourceAction → Execution → Tree LocalState → List ℕ → Type 0
IsShownAt (runs course shown) x t text = text ≡ shown x (read_off x t)
IsShownAt (describes relation) x t text = ⊥
IsShownAt records x t text = IsRecordOf x t text
IsShownAt (replays journal) x t text = IsJournalOf x t journal × (text ≡ report_of x.source (read_off x t))
IsShownAt (runs_each names inputs) x t text = ⊥

-- What is printed where the budget stops a run of x, off whose tree e is read. A journal, printed or replayed, is that of a run to such a tree. For a source that is described or run on several inputs this is false.
abbrev pub IsShown : SourceAction → Execution → Ended → List ℕ → Type 0
IsShown (runs course shown) x e text = text ≡ shown x e
IsShown (describes relation) x e text = ⊥
IsShown records x e text = (t : Tree LocalState) × IsStoppedAt x t × (e ≡ read_off x t) × IsRecordOf x t text
IsShown (replays journal) x e text = (t : Tree LocalState) × IsStoppedAt x t × (e ≡ read_off x t) × IsJournalOf x t journal × (text ≡ report_of x.source e)
IsShown (runs_each names inputs) x e text = ⊥

-- The meaning of x ends for this cause. For a source that is described the status is 0, whatever the cause. For a source that is run on several inputs this is false: it has no one execution.
abbrev pub EndsBy : ℕ → (Execution → Type 0) → SourceAction → Execution → Type 0
EndsBy status Cause (runs course shown) x = Cause x
EndsBy status Cause (describes relation) x = status ≡ 0
EndsBy status Cause records x = Cause x
EndsBy status Cause (replays journal) x = Cause x
EndsBy status Cause (runs_each names inputs) x = ⊥

-- a run within the budget leads to the tree to which the meaning comes
abbrev pub IsReachedWithin : Execution → Type 0
IsReachedWithin x = (n : ℕ) × (n ≤ x.budget) × IsReachedIn n x

-- A run of x within the budget leads to the tree of the meaning, where the source is run once. Of a source that is described nothing is asked. For a source that is run on several inputs this is false: it has no one execution.
abbrev pub IsReached : SourceAction → Execution → Type 0
IsReached (runs course shown) x = IsReachedWithin x
IsReached (describes relation) x = Unit {0}
IsReached records x = IsReachedWithin x
IsReached (replays journal) x = IsReachedWithin x
IsReached (runs_each names inputs) x = ⊥
