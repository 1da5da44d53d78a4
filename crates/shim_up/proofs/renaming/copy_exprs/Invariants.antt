use Rattle.std.proofs.Common.{◌≡◌, ◌++◌, drop, map}
use Rattle.shim_up.specs.Renaming.{renamed_expr}
use Rattle.shim_up.specs.Up.{replaced}
use Rattle.shim_up.proofs.renaming.copy_exprs.Given as goal

abbrev pub invariant-loop-expr : goal.invariant-loop-expr
invariant-loop-expr l = l.made ++ map (renamed_expr (replaced l.to)) (drop l.expr-index l.exprs) ≡ map (renamed_expr (replaced l.to)) l.exprs
