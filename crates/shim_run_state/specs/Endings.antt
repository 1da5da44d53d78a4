-- The root of a run state, and what came of it.
use Rattle.std.specs.Prelude.{◌≡◌, ℕ, Some}
use Rattle.shim_local.specs.declared.Outcome.{Outcome}
use Rattle.shim_local.specs.declared.Outcome.TheVariants.{Done, Blocked}
use Rattle.shim_semantics.specs.Nodes.{Node}
use Rattle.shim_semantics.specs.Endings.{outcome_of_label}
use Rattle.shim_laws_table.specs.RepresentedTree.{node_of}
use Rattle.shim_records.specs.declared.record.Status.{Status}
use Rattle.shim_records.specs.declared.record.Status.TheVariants as code
use Rattle.shim_laws_table_events.specs.keeping.Tables.{TableView, views}

-- this is the node of the process 0, computed by so many levels, of which the root is the first
pub record IsRoot {S : Type 0} (v : TableView S) (levels : ℕ) (root : Node S) : Type 0 where
  pub is : node_of v.states (views v) levels 0 ≡ Some root

-- the outcome of a tree in which nothing can happen, whose root's record has this status
abbrev pub outcome_by : Status → Outcome
outcome_by code.Free = Blocked
outcome_by code.Live = Blocked
outcome_by (code.Forked n) = Blocked
outcome_by code.Ended = Done
outcome_by (code.Dead death) = outcome_of_label death.label
