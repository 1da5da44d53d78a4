-- What a process does with the value of a rendezvous, by where the value goes.
use Rattle.std.specs.Prelude.{ℤ}
use Rattle.shim_process.specs.Todo.{On}
use Rattle.shim_process.specs.LocalState.{LocalState}
use Rattle.shim_process.specs.Ends.{gone}
use Rattle.shim_process.specs.Steps.{half, stored_in}
use Rattle.shim_walk.specs.declared.receiver.Receiver.{Receiver}
use Rattle.shim_walk.specs.declared.receiver.Receiver.TheVariants.{Whole, First, Nothing}

-- The value is stored in the slot's location. Then the whole statement is done, or its first part. Where there is nothing to receive, nothing changes.
abbrev pub received : Receiver → ℤ → LocalState → LocalState
received (Whole x) v l = gone On (stored_in x v l)
received (First x) v l = record (stored_in x v l) { frame = half l.frame }
received Nothing v l = l
