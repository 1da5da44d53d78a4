use Rattle.std.proofs.Common.{◌≡◌, ◌+◌, ◌++◌, length, drop}
use Rattle.shim_sharing.specs.Room.{FunctionsHaveRoom}
use Rattle.shim_units.specs.Units.{lift_functions}
use Rattle.shim_sharing.proofs.units.lift_functions.Given as goal

abbrev pub invariant-loop-at : goal.invariant-loop-at
invariant-loop-at l = record {
  own : l.own ++ (lift_functions l.names l.functions l.at (l.base + length l.lifted) (drop l.at l.functions)).own
      ≡ (lift_functions l.names l.functions 0 (length l.functions) l.functions).own;
  lifted : l.lifted ++ (lift_functions l.names l.functions l.at (l.base + length l.lifted) (drop l.at l.functions)).lifted
      ≡ (lift_functions l.names l.functions 0 (length l.functions) l.functions).lifted;
  base : l.base ≡ length l.functions;
  room : FunctionsHaveRoom (l.base + length l.lifted) (drop l.at l.functions);
}
