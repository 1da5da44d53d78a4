use Rattle.std.proofs.Common.{◌≡◌, ◌++◌, drop}
use Rattle.shim_vm.proofs.return_stack.copied.Given as goal

abbrev pub invariant-loop-place : goal.invariant-loop-place
invariant-loop-place l = l.copies ++ drop l.place-index l.places ≡ l.places
