-- What a run of a source comes to. Its meaning is the run from its root that always does the first event that is enabled.
use Rattle.std.specs.Prelude.{◌≡◌, ◌≢◌, ◌⊎◌, ◌<◌, ℕ, ◌+◌, IsTrue, Some, List, length, map}
use Rattle.std.specs.FinMap as finite
use Rattle.shim_base.specs.Paths.{Channel}
use Rattle.shim_local.specs.declared.Ended.{Ended}
use Rattle.shim_local.specs.declared.Outcome.{Outcome}
use Rattle.shim_local.specs.declared.Outcome.TheVariants.{Done, Uncaught, Trapped, Blocked, Spent}
use Rattle.shim_process.specs.Forks.{root}
use Rattle.shim_process.specs.LocalState.{LocalState}
use Rattle.shim_process.specs.Ops.{process_ops}
use Rattle.shim_report.specs.Report.{report}
use Rattle.shim_semantics.specs.Nodes.{has_ended, is_dead, goes}
use Rattle.shim_semantics.specs.Systems.{run}
use Rattle.shim_semantics.specs.Trees.{Tree, Met, Event, after, start, steps, sum, IsQuiescent}
use Rattle.shim_laws_schedules.specs.Orders.{IsPrefix}
use Rattle.shim_laws_schedules.specs.Rounds.{rounds}
use Rattle.shim_laws_schedules.specs.Laws.{IsPrefixOf}
use Rattle.shim_semantics.specs.Endings.{ended}
use Rattle.shim_reference.specs.Naming.{named}
use Rattle.shim_reference.specs.Reference.{meaning_of, reference_of}
use Rattle.shim_front_end.specs.Source.{Source}
use Rattle.shim_command.specs.declared.mode.Course.{Course}
use Rattle.shim_command.specs.declared.mode.Course.TheVariants.{ByFirstEvents, InSomeOrder}

-- an accepted source with the bytes that it reads, and the most events of its run
pub record Execution : Type 0 where
  pub source : Source
  pub input : List ℕ
  pub budget : ℕ

-- the tree to which the meaning comes
unfoldable pub tree_of : Execution → Tree LocalState
tree_of x = meaning_of x.source x.input x.budget

-- what is read off the tree of the meaning, with the name of an exception that nobody caught
unfoldable pub end_of : Execution → Ended
end_of x = reference_of x.source x.input x.budget

-- what is read off this tree, with the name of an exception that nobody caught
abbrev pub read_off : Execution → Tree LocalState → Ended
read_off x t = named x.source.main_throws (ended process_ops t)

-- the report of what was read off a run of this source
abbrev pub report_of : Source → Ended → List ℕ
report_of source e = report source.names e

-- the exit status of a run with the outcome
abbrev pub status_of_outcome : Outcome → ℕ
status_of_outcome Done = 0
status_of_outcome (Uncaught i) = 1
status_of_outcome Trapped = 1
status_of_outcome Blocked = 3
status_of_outcome Spent = 4

-- the status for how the meaning ended
abbrev pub status_of : Execution → ℕ
status_of x = status_of_outcome (end_of x).outcome

-- a status of a run's end: 0, 1, 3 or 4
abbrev pub IsEndStatus : ℕ → Type 0
IsEndStatus status = (status < 5) × (status ≡ 2 → ⊥)

-- nothing can happen any more, and the root has ended
abbrev pub IsDone : Execution → Type 0
IsDone x = IsQuiescent process_ops (tree_of x) × IsTrue (has_ended (tree_of x).root)

-- nothing can happen any more, and the root died: of an exception that nobody caught, or of a trap
abbrev pub IsFailed : Execution → Type 0
IsFailed x = IsQuiescent process_ops (tree_of x) × IsTrue (is_dead (tree_of x).root)

-- nothing can happen any more, and the root has neither ended nor died
abbrev pub IsBlocked : Execution → Type 0
IsBlocked x = IsQuiescent process_ops (tree_of x) × IsTrue (goes (tree_of x).root)

-- something can still happen after the budget's events
abbrev pub IsSpent : Execution → Type 0
IsSpent x = IsQuiescent process_ops (tree_of x) → ⊥

-- a run of so many events, each enabled in its turn, leads from the start to this tree
abbrev pub LeadsTo : ℕ → Execution → Tree LocalState → Type 0
LeadsTo n x t = (es : List Event) × (run (after process_ops) es (start (root x.source x.input)) ≡ Some t) × (length es ≡ n)

-- a run of n events leads to the tree to which the meaning comes
abbrev pub IsReachedIn : ℕ → Execution → Type 0
IsReachedIn n x = LeadsTo n x (tree_of x)

-- the own steps and the other events that the report of a run which was stopped prints, added up
abbrev pub printed_steps : Ended → ℕ
printed_steps e = sum (map (λ s. s.count) e.own) + e.events

-- a run is stopped at this tree: just as many events as the budget has lead to it, and something can still happen in it
pub record IsStoppedAt (x : Execution) (t : Tree LocalState) : Type 0 where
  pub reached : LeadsTo x.budget x t
  pub counted : steps t ≡ x.budget
  pub goes_on : IsQuiescent process_ops t → ⊥

-- what was put and met in the tree is a prefix of what is put and met in as many rounds as the budget has events
abbrev pub IsBeginning : Execution → Tree LocalState → Type 0
IsBeginning x t = IsPrefixOf t (rounds process_ops x.budget (start (root x.source x.input)))

-- one of the lists is a prefix of the other
abbrev pub AreComparable : {A : Type 0} → List A → List A → Type 0
AreComparable xs ys = IsPrefix xs ys ⊎ IsPrefix ys xs

-- the outputs of two trees are comparable, and so are the histories of each channel, which have one name
pub record BeginAlike (t u : Tree LocalState) : Type 0 where
  pub output : AreComparable t.output u.output
  pub histories : (c : Channel) (h k : Met) → finite.get t.histories c ≡ Some h → finite.get u.histories c ≡ Some k → (h.name ≡ k.name) × AreComparable h.values k.values

-- e may be read off a run of x by this course. `ByFirstEvents` reads the tree of the meaning. `InSomeOrder` reads a tree at which the budget stops a run of x.
abbrev pub IsStoppedEnd : Course → Execution → Ended → Type 0
IsStoppedEnd ByFirstEvents x e = e ≡ end_of x
IsStoppedEnd InSomeOrder x e = (t : Tree LocalState) × IsStoppedAt x t × (e ≡ read_off x t)

-- What a run comes to. Where the budget doesn't stop the meaning, the run comes to the end of the meaning, whatever the order of its events. Where the budget stops the meaning, it stops this run, too, and the status is 4.
pub data IsEnd (course : Course) (x : Execution) (e : Ended) : Type 0 where
  as_meant : status_of x ≢ 4 → e ≡ end_of x → IsEnd course x e
  stopped : status_of x ≡ 4 → IsStoppedEnd course x e → status_of_outcome e.outcome ≡ 4 → IsEnd course x e
