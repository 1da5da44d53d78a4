use Rattle.std.proofs.Common.{◌≡◌, take}
use Rattle.shim_scopes.specs.Functions.{placed_params}
use Rattle.shim_scopes.proofs.header.resolve_params.Given as goal

abbrev pub invariant-loop-param : goal.invariant-loop-param
invariant-loop-param l = l.made ≡ placed_params l.names (take l.param-index l.params)
