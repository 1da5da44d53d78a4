use Rattle.std.proofs.Common.{◌≡◌, drop}
use Rattle.shim_process.specs.Forks.{takes_input}
use Rattle.shim_locations.proofs.streams.takes_input.Given as goal

abbrev pub invariant-loop-param : goal.invariant-loop-param
invariant-loop-param l = takes_input (drop l.param-index l.params) ≡ takes_input l.params
