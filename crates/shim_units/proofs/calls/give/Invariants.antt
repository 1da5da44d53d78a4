use Rattle.std.proofs.Common.{◌≡◌, ◌++◌, drop}
use Rattle.shim_units.specs.Calls.{paired_arguments}
use Rattle.shim_units.proofs.calls.give.Given as goal

abbrev pub invariant-loop-arg : goal.invariant-loop-arg
invariant-loop-arg l = l.made ++ paired_arguments l.left (drop l.arg-index l.args) ≡ paired_arguments l.params l.args
