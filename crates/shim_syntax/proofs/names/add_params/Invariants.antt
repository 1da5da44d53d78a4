use Rattle.std.proofs.Common.{◌≡◌, drop}
use Rattle.shim_syntax.specs.Names.{with_params}
use Rattle.shim_syntax.proofs.names.add_params.Given as goal

abbrev pub invariant-loop-param : goal.invariant-loop-param
invariant-loop-param l = with_params (drop l.param-index l.params) l.known ≡ with_params l.params l.initial.known
