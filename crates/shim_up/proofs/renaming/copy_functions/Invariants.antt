use Rattle.std.proofs.Common.{◌≡◌, ◌++◌, drop, map}
use Rattle.shim_up.specs.Renaming.{renamed_function}
use Rattle.shim_up.specs.Up.{replaced}
use Rattle.shim_up.proofs.renaming.copy_functions.Given as goal

abbrev pub invariant-loop-function : goal.invariant-loop-function
invariant-loop-function l = l.made ++ map (renamed_function (replaced l.to)) (drop l.function-index l.functions) ≡ map (renamed_function (replaced l.to)) l.functions
