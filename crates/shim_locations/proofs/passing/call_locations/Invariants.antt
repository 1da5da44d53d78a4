use Rattle.std.proofs.Common.{◌≡◌, ◌++◌, ◌+◌, drop}
use Rattle.std.specs.Arc.{arc_value}
use Rattle.shim_process.specs.Arguments.{call_locations, new_channels}
use Rattle.shim_locations.specs.Given.{arguments_of}
use Rattle.shim_locations.proofs.passing.call_locations.Given as goal

abbrev pub invariant-loop-argument : goal.invariant-loop-argument
invariant-loop-argument l = record {
  locations : l.passed ++ call_locations (arc_value l.home) l.locations l.serial (arguments_of (drop l.argument-index l.given)) ≡ call_locations (arc_value l.home) l.locations l.made (arguments_of l.given);
  made : l.serial + new_channels (arguments_of (drop l.argument-index l.given)) ≡ l.made + new_channels (arguments_of l.given);
}
