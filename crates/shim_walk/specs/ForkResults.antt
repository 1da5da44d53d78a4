-- What the answer to a fork says of it: the children with what is left, or the trap.
use Rattle.std.specs.Prelude.{◌≡◌, ◌+◌}
use Rattle.shim_process.specs.LocalState.{LocalState, trapped}
use Rattle.shim_local.specs.Process.{Parted, Trapped as StandsTrapped}
use Rattle.shim_process.specs.Forks.{fork}
use Rattle.shim_process.specs.Steps.{line_of}
use Rattle.shim_locations.specs.Lendings.{remainder_of}
use Rattle.shim_walk.specs.declared.process.ForkedProcess.{ForkedProcess}
use Rattle.shim_walk.specs.declared.process.ForkedProcess.TheVariants.{Children, Trapped}

-- the children with what they leave of the process, or the trap at which it will stand
abbrev pub IsForkResult : ForkedProcess → LocalState → Type 0
IsForkResult (Children ks remainder) l = fork l ≡ Parted (record (remainder_of l remainder) { forks = l.forks + 1 }) ks
IsForkResult (Trapped t) l = fork l ≡ StandsTrapped (trapped t (line_of l.frame.todo) l)
