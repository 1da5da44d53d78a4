use Rattle.std.proofs.Common.{◌≡◌, ◌++◌, drop}
use Rattle.shim_syntax.specs.Names.{param_names}
use Rattle.shim_scopes.proofs.header.copy_names.Given as goal

abbrev pub invariant-loop-param : goal.invariant-loop-param
invariant-loop-param l = l.names ++ param_names (drop l.param-index l.params) ≡ param_names l.params
