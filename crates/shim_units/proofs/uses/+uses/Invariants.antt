use Rattle.std.proofs.Common.{◌≡◌, ◌++◌, drop}
use Rattle.shim_units.specs.Parts.{all_uses}
use Rattle.shim_units.specs.PartFold.{uses_in, branch_parts}
use Rattle.shim_units.proofs.uses.+uses.Given as goal

abbrev pub invariant-push_stmts-loop-stmt : goal.invariant-push_stmts-loop-stmt
invariant-push_stmts-loop-stmt l = l.uses ++ uses_in l.functions (drop l.stmt-index l.body) ≡ l.initial.uses ++ uses_in l.functions l.body

abbrev pub invariant-push_branches-loop-branch : goal.invariant-push_branches-loop-branch
invariant-push_branches-loop-branch l = l.uses ++ all_uses l.functions (branch_parts (drop l.branch-index l.branches)) ≡ l.initial.uses ++ all_uses l.functions (branch_parts l.branches)
