use Rattle.std.proofs.Common.{◌≡◌, [], drop}
use Rattle.shim_scopes.specs.Functions.{bind_functions}
use Rattle.shim_scopes.specs.State.{after_some, whole}
use Rattle.shim_scopes.proofs.function.resolve_functions.Given as goal

abbrev pub invariant-loop-function : goal.invariant-loop-function
invariant-loop-function l = after_some l.made (bind_functions (whole l.functions l.names) l.earlier (drop l.function-index l.functions)) ≡ bind_functions (whole l.functions l.names) [] l.functions
