use Rattle.shim_process.specs.LocalState.{env_of}
use Rattle.shim_vm.specs.Computing.{Computed, Computes}
use Rattle.shim_vm.proofs.computing.Computation.run.Given as goal

abbrev pub invariant-loop : goal.invariant-loop
invariant-loop l = (r : Computed) → Computes (env_of l.locations l.slots) l.slots l.code l.initial.self r → Computes (env_of l.locations l.slots) l.slots l.code l.self r
