use Rattle.std.proofs.Common.{◌≡◌, drop}
use Rattle.shim_process.specs.Arguments as arg
use Rattle.shim_locations.specs.ArgumentFaults.{arguments_before}
use Rattle.shim_locations.proofs.arguments.arguments.Given as goal

abbrev pub invariant-loop-param : goal.invariant-loop-param
invariant-loop-param l = arguments_before l.given (arg.arguments l.locations l.slots (drop l.param-index l.params) l.rest) ≡ arg.arguments l.locations l.slots l.params l.args
