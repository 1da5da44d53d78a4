use Rattle.std.proofs.Common.{◌≡◌, take}
use Rattle.shim_units.proofs.calls.copy_params.Given as goal

abbrev pub invariant-loop-param : goal.invariant-loop-param
invariant-loop-param l = l.made ≡ take l.param-index l.params
