-- That a process stands at its end only where nothing is left to do.
use Rattle.std.specs.Prelude.{◌≡◌, []}
use Rattle.shim_local.specs.Process.{AtFinish}
use Rattle.shim_semantics.specs.Trees.{Tree}
use Rattle.shim_process.specs.LocalState.{LocalState}
use Rattle.shim_process.specs.Ops.{process_ops}
use Rattle.shim_laws_stops.specs.Named.{IsLiveIn}

-- nothing is left to do in the unit in which the process is, and no unit waits for that one
abbrev pub HasNothingLeft : LocalState → Type 0
HasNothingLeft l = (l.frame.todo ≡ []) × (l.callers ≡ [])

-- each live process that stands at its end has nothing left to do
abbrev pub EndsHaveNothingLeft : Tree LocalState → Type 0
EndsHaveNothingLeft t = (l : LocalState) → IsLiveIn t l → process_ops.stop l ≡ AtFinish → HasNothingLeft l
