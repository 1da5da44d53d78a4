use Rattle.std.proofs.Common.{◌≡◌, ◌++◌, drop, map}
use Rattle.shim_up.specs.Renaming.{renamed_param}
use Rattle.shim_up.specs.Up.{replaced}
use Rattle.shim_up.proofs.renaming.copy_params.Given as goal

abbrev pub invariant-loop-param : goal.invariant-loop-param
invariant-loop-param l = l.made ++ map (renamed_param (replaced l.to)) (drop l.param-index l.params) ≡ map (renamed_param (replaced l.to)) l.params
