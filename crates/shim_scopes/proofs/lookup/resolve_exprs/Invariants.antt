use Rattle.std.proofs.Common.{◌≡◌, take}
use Rattle.shim_scopes.specs.Binding.{placed_all}
use Rattle.shim_scopes.proofs.lookup.resolve_exprs.Given as goal

abbrev pub invariant-loop-expr : goal.invariant-loop-expr
invariant-loop-expr l = l.made ≡ placed_all l.visible (take l.expr-index l.exprs)
