-- The fields of the code as contracts see them together.
use Rattle.std.specs.Prelude.{ℕ, List, map}
use Rattle.std.specs.FinMap as finite
use Rattle.shim_base.specs.Paths.{path_order, channel_order}
use Rattle.shim_local.specs.declared.LogWhat.{LogWhat}
use Rattle.shim_semantics.specs.Trees.{Met}
use Rattle.shim_laws_table_events.specs.keeping.Tables.{TableView}
use Rattle.shim_run_log.specs.Counted.{StepCount}
use Rattle.shim_run_state.specs.ProcessLists.{ProcessListsView}
use Rattle.shim_run_state.specs.RunStates.{RunStateView}
use Rattle.shim_run_state.specs.declared.run_state.PastSteps.{PastSteps}

-- the own steps of a process that is gone, as a count of the tree
abbrev pub count_in : PastSteps → StepCount
count_in p = record { path = p.path; count = p.count }

-- what contracts see of these fields
abbrev pub view_of : {S : Type 0} → S → TableView S → List ℕ → finite.FinMap channel_order Met → finite.FinMap path_order (List LogWhat) → ProcessListsView → List PastSteps → ℕ → RunStateView S
view_of begun table output histories logs process_lists past events =
    record { begun = begun; table = table; output = output; histories = histories; logs = logs; process_lists = process_lists; past = map count_in past; events = events }
