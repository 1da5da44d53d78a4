use Rattle.std.proofs.Common.{◌≡◌, ◌++◌, ◌+◌, drop}
use Rattle.std.specs.Arc.{arc_value}
use Rattle.shim_process.specs.Arguments.{branch_locations, new_channels}
use Rattle.shim_locations.specs.Given.{arguments_of}
use Rattle.shim_locations.specs.Lendings.{lent_at}
use Rattle.shim_locations.proofs.passing.branch_locations.Given as goal

abbrev pub invariant-loop-argument : goal.invariant-loop-argument
invariant-loop-argument l = record {
  locations : l.passed ++ branch_locations (arc_value l.home) (lent_at l.taken l.locations) l.serial (arguments_of (drop l.argument-index l.given)) ≡ branch_locations (arc_value l.home) (lent_at l.before l.locations) 0 (arguments_of l.given);
  made : l.serial + new_channels (arguments_of (drop l.argument-index l.given)) ≡ 0 + new_channels (arguments_of l.given);
}
