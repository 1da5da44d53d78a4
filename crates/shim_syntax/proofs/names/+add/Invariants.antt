use Rattle.std.proofs.Common.{◌≡◌, drop}
use Rattle.shim_syntax.specs.Names.{with_stmts, with_branches}
use Rattle.shim_syntax.proofs.names.+add.Given as goal

abbrev pub invariant-add_stmts-loop-stmt : goal.invariant-add_stmts-loop-stmt
invariant-add_stmts-loop-stmt l = with_stmts (drop l.stmt-index l.body) l.known ≡ with_stmts l.body l.initial.known

abbrev pub invariant-add_branches-loop-branch : goal.invariant-add_branches-loop-branch
invariant-add_branches-loop-branch l = with_branches (drop l.branch-index l.branches) l.known ≡ with_branches l.branches l.initial.known
