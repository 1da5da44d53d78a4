use Rattle.std.proofs.Common.{◌≡◌, ◌-◌, drop, length}
use Rattle.shim_machine.specs.Forking.{after_fork}
use Rattle.shim_vm.proofs.branches.after_fork.Given as goal

abbrev pub invariant-loop-place : goal.invariant-loop-place
invariant-loop-place l = after_fork l.place (drop l.place l.code) ≡ after_fork l.initial.place (drop l.initial.place l.code)

abbrev pub decreases-loop-place : goal.decreases-loop-place
decreases-loop-place l = length l.code - l.place
