use Rattle.std.proofs.Common.{◌≡◌, ◌++◌, drop}
use Rattle.shim_process.specs.Arguments.{call_slots}
use Rattle.shim_locations.specs.Given.{arguments_of}
use Rattle.shim_locations.proofs.slots.call_slots.Given as goal

abbrev pub invariant-loop-argument : goal.invariant-loop-argument
invariant-loop-argument l = l.slots ++ call_slots l.next (arguments_of (drop l.argument-index l.given)) l.declared ≡ call_slots l.first (arguments_of l.given) l.declared
