use Rattle.std.proofs.Common.{◌≡◌, drop}
use Rattle.shim_syntax.specs.Names.{with_exprs}
use Rattle.shim_syntax.proofs.names.add_exprs.Given as goal

abbrev pub invariant-loop-expr : goal.invariant-loop-expr
invariant-loop-expr l = with_exprs (drop l.expr-index l.exprs) l.known ≡ with_exprs l.exprs l.initial.known
