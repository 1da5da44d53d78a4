use Rattle.std.proofs.Common.{◌≡◌, drop}
use Rattle.shim_scopes.specs.Binding.{unknown_in_all}
use Rattle.shim_scopes.proofs.lookup.find_unknown_of_all.Given as goal

abbrev pub invariant-loop-expr : goal.invariant-loop-expr
invariant-loop-expr l = unknown_in_all l.visible (drop l.expr-index l.exprs) ≡ unknown_in_all l.visible l.exprs
