use Rattle.std.proofs.Common.{◌≡◌, ◌++◌, drop}
use Rattle.shim_code.specs.Programs.{machine_units}
use Rattle.shim_code.proofs.program.compile.Given as goal

abbrev pub invariant-loop-unit : goal.invariant-loop-unit
invariant-loop-unit l = l.machine ++ machine_units l.units (drop l.unit-index l.units) ≡ machine_units l.units l.units
