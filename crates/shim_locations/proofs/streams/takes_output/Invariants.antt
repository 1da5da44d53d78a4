use Rattle.std.proofs.Common.{◌≡◌, drop}
use Rattle.shim_process.specs.Forks.{takes_output}
use Rattle.shim_locations.proofs.streams.takes_output.Given as goal

abbrev pub invariant-loop-param : goal.invariant-loop-param
invariant-loop-param l = takes_output (drop l.param-index l.params) ≡ takes_output l.params
