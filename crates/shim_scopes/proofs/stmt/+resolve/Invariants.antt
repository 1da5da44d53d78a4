use Rattle.std.proofs.Common.{◌≡◌, drop}
use Rattle.shim_syntax.specs.Sizes.{stmts_size, branches_size}
use Rattle.shim_scopes.specs.Bodies.{bind_stmts, bind_branches}
use Rattle.shim_scopes.specs.State.{with_done, around_of, before_of, whole, HasRoom, Kept}
use Rattle.shim_scopes.proofs.stmt.+resolve.Given as goal

abbrev pub invariant-resolve_body-loop-stmt : goal.invariant-resolve_body-loop-stmt
invariant-resolve_body-loop-stmt l = record {
  meant : with_done l.made (bind_stmts (whole l.functions l.names) (drop l.stmt-index l.body) (around_of l.start l.scope) (before_of l.start l.scope))
      ≡ bind_stmts (whole l.functions l.names) l.body (around_of l.start l.initial.scope) (before_of l.start l.initial.scope);
  kept : Kept l.start l.initial.scope l.scope;
  room : HasRoom (stmts_size (drop l.stmt-index l.body)) l.scope;
}

abbrev pub invariant-resolve_branches-loop-branch : goal.invariant-resolve_branches-loop-branch
invariant-resolve_branches-loop-branch l = record {
  meant : with_done l.made (bind_branches (whole l.functions l.names) (drop l.branch-index l.branches) (around_of l.start l.scope) (before_of l.start l.scope))
      ≡ bind_branches (whole l.functions l.names) l.branches (around_of l.start l.initial.scope) (before_of l.start l.initial.scope);
  kept : Kept l.start l.initial.scope l.scope;
  room : HasRoom (branches_size (drop l.branch-index l.branches)) l.scope;
}
