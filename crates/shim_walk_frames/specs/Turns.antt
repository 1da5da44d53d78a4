-- Successors, as the definition of a process names them.
use Rattle.shim_process.specs.Todo.{Successor as SuccessorOf}
use Rattle.shim_process.specs.Todo as todo
use Rattle.shim_walk_frames.specs.declared.successors.Successor.{Successor}
use Rattle.shim_walk_frames.specs.declared.successors.Successor.TheVariants.{On, First, Second}

-- the successor of the same name in the definition of a process
abbrev pub successor_of : Successor → SuccessorOf
successor_of On = todo.On
successor_of First = todo.First
successor_of Second = todo.Second
