-- What a statement asks for, as the definition of a process names it.
use Rattle.shim_process.specs.Steps.{Action as ActionOf}
use Rattle.shim_process.specs.Steps as action
use Rattle.shim_walk.specs.declared.action.Action.{Action}
use Rattle.shim_walk.specs.declared.action.Action.TheVariants.{Go, Store, StoreFirst, Make, Read, Enter, Install, Trapped, Wait}
use Rattle.shim_walk_frames.specs.Turns.{successor_of}
use Rattle.shim_locations.specs.Given.{arguments_of}

-- the action of the same name in the definition of a process
abbrev pub action_of : Action → ActionOf
action_of (Go successor) = action.Go (successor_of successor)
action_of (Store x v) = action.Store x v
action_of (StoreFirst x v) = action.StoreFirst x v
action_of (Make t x v) = action.Make t x v
action_of (Read x) = action.Read x
action_of (Enter unit given labels) = action.Enter unit (arguments_of given) labels
action_of (Install x name y) = action.Install x name y
action_of (Trapped t) = action.Trapped t
action_of Wait = action.Wait
