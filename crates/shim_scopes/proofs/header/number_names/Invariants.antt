use Rattle.std.proofs.Common.{◌≡◌, take}
use Rattle.shim_scopes.specs.Functions.{numbers_of}
use Rattle.shim_scopes.proofs.header.number_names.Given as goal

abbrev pub invariant-loop-name : goal.invariant-loop-name
invariant-loop-name l = l.made ≡ numbers_of l.names (take l.name-index l.some)
