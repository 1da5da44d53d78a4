-- A poison happens, with its effects.
use Rattle.std.proofs.Common.{◌≡◌, ◌<◌, ◌+◌, ℕ, List}
use Rattle.shim_base.specs.Paths.{Path, Channel}
use Rattle.shim_local.specs.Process.{Ops}
use Rattle.shim_local.specs.Laws.{LocalLaws}
use Rattle.shim_semantics.specs.Trees.{Event, Meet, Poison, steps}
use Rattle.shim_laws_replay.specs.Grants.{IsNoQuietStep}
use Rattle.shim_laws_table_events.specs.keeping.Moves.{Performs}
use Rattle.shim_process_table.specs.Changing.{IsChanged}
use Rattle.shim_process_table.specs.Touching.{ChangesOnlyEach}
use Rattle.shim_run_state.specs.RunStates.{RunStateView, tree_in, RunStateInvariant}
use Rattle.shim_run_state.specs.CheckingOut.{HappensIn}
use Rattle.shim_run_state.specs.Several.{RequeuesEach}
use Rattle.shim_run_state.proofs.Events as events
use Rattle.shim_run_state.proofs.Several.{counts_stay, several_keep, several_happen}

module _ {S : Type 0} (o : Ops S) where
  -- an event happened, the type's invariant stays, and the tree is one step further
  pub record Goes (before behind : RunStateView S) (e : Event) : Type 0 where
    pub keeps : RunStateInvariant o behind
    pub happens : HappensIn o before behind e
    pub steps_are : steps (tree_in o behind) ≡ steps (tree_in o before) + 1

  -- beside the processes, and lists of numbers, nothing has changed but that there is one event more
  pub record OneEvent (before behind : RunStateView S) : Type 0 where
    pub output : behind.output ≡ before.output
    pub logs : behind.logs ≡ before.logs
    pub past : behind.past ≡ before.past
    pub events : behind.events ≡ before.events + 1

  pub meeting_is_no_step : (v : RunStateView S) (c : Channel) → IsNoQuietStep o (tree_in o v) (Meet c)
  meeting_is_no_step v c q e s = absurd cc

  poison_is_no_step : (v : RunStateView S) (p : Path) (c : Channel) → IsNoQuietStep o (tree_in o v) (Poison p c)
  poison_is_no_step v p c q e s = absurd cc

  module _ (law : LocalLaws o) (before behind : RunStateView S) (kept : RunStateInvariant o before) (few : steps (tree_in o before) < 4000000) (numbers : List ℕ) (touches : ChangesOnlyEach numbers before.table behind.table)
      (again : RequeuesEach o behind.table numbers before.process_lists behind.process_lists) (one : OneEvent before behind) where
    goes : (e : Event) → IsChanged o numbers before.table behind.table → IsNoQuietStep o (tree_in o before) e → events.Happened o before behind kept.represents e → Goes before behind e
    goes e changed none h = record {
      keeps = several_keep o before behind numbers changed law kept e h none touches again few;
      happens = several_happen o before behind numbers changed law kept e h none again.checked_out;
      steps_are = h.counts;
    }

    pub poison_goes : (p : Path) (c : Channel) → Performs o (Poison p c) before.table behind.table → IsChanged o numbers before.table behind.table → behind.histories ≡ before.histories → Goes before behind (Poison p c)
    poison_goes p c moves changed histories =
        goes (Poison p c) changed (poison_is_no_step before p c) (events.poison o before behind kept.represents p c moves one.output histories one.logs (counts_stay o before behind numbers changed again.own one.past) one.events)
