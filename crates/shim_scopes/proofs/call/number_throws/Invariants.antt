use Rattle.std.proofs.Common.{◌≡◌, take, drop, map}
use Rattle.shim_scopes.specs.Binding.{exception_number}
use Rattle.shim_scopes.specs.Calls.{unhandled_of_all}
use Rattle.shim_scopes.proofs.call.number_throws.Given as goal

abbrev pub invariant-loop-name : goal.invariant-loop-name
invariant-loop-name l =
    (l.made ≡ map (exception_number l.handled) (take l.name-index l.names))
    × (unhandled_of_all l.handled (drop l.name-index l.names) ≡ unhandled_of_all l.handled l.names)
