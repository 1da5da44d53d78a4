use Rattle.std.proofs.Common.{◌≡◌, drop}
use Rattle.shim_syntax.specs.Names.{with_functions}
use Rattle.shim_syntax.proofs.names.add_functions.Given as goal

abbrev pub invariant-loop-function : goal.invariant-loop-function
invariant-loop-function l = with_functions (drop l.function-index l.functions) l.known ≡ with_functions l.functions l.initial.known
