-- The body of a function has its sorts among the function's slots.
use Rattle.std.proofs.Common.{ℕ, ◌≡◌, List, [], ◌∷◌, ◌++◌, Ok, map, sym, subst}
use Rattle.shim_syntax.specs.declared.tree.Function.{Function}
use Rattle.shim_syntax.specs.declared.tree.Program.{Program}
use Rattle.shim_syntax.specs.declared.tree.Stmt.{Stmt, Stmt-F, fold-roll-Stmt, ind-Stmt, map-Stmt, roll-Stmt}
use Rattle.shim_syntax.specs.declared.tree.What.{What, What-F, fold-What, fold-roll-What, map-What, roll-What}
use Rattle.shim_syntax.specs.declared.tree.Branch.{Branch, Branch-F, fold-roll-Branch, map-Branch, roll-Branch}
use Rattle.shim_syntax.specs.declared.tree.BranchWhat.{BranchWhat, BranchWhat-F, fold-BranchWhat, fold-roll-BranchWhat, map-BranchWhat, roll-BranchWhat}
use Rattle.shim_syntax.specs.Names.{Texts}
use Rattle.shim_scopes.specs.declared.form.Form.{Form}
use Rattle.shim_scopes.specs.declared.tree.RBranch.{RBranch}
use Rattle.shim_scopes.specs.declared.tree.RBranchWhat.{RBranchWhat}
use Rattle.shim_scopes.specs.declared.tree.RBranchWhat.TheVariants as branch
use Rattle.shim_scopes.specs.declared.tree.RFunction.{RFunction}
use Rattle.shim_scopes.specs.declared.tree.RStmt.{RStmt}
use Rattle.shim_scopes.specs.declared.tree.RWhat.{RWhat}
use Rattle.shim_scopes.specs.declared.tree.RWhat.TheVariants as to
use Rattle.shim_scopes.specs.Statements.{Whole, Bind, bind_block}
use Rattle.shim_scopes.specs.Bodies.{WhatMeans, StmtMeans, BranchMeans, BranchWhatMeans, bind_all, bind_fork, first_declares, bind_branch_what_step, bind_what_step, bind_branch_step, bind_stmt_step, stmt_meaning, bind_stmts, bind_branch}
use Rattle.shim_scopes.specs.Functions.{bind_function, bind_functions, bind_program, params_from, function_begin}
use Rattle.shim_laws_binding.proofs.Lists.{Each}
use Rattle.shim_laws_binding.proofs.TextOrderLemmas.{around_body, IsMade, is_made, whole_of, is_form}
use Rattle.shim_laws_sources.proofs.SortedParts.{BodySorted, StmtSorted, WhatSorted, BranchWhatSorted, BranchSorted, ForkSorted, no_stmts, more_stmts, no_branches, more_branches, part_assign, part_next_assign, part_call, part_block_branch, part_call_branch, part_stmt, part_branch}
use Rattle.shim_laws_sources.proofs.SortedBinding.{as_it_was, Sorts, WhatSorts, stays, two_sort, block_sorts, tree_sorts, declare_sorts, store_sorts, next_sorts, assign_next_sorts, get_sorts, put_sorts, throw_sorts, called_sorts, if_sorts, while_sorts, try_sorts, for_sorts, inner_sorts, fork_sorts}
use Rattle.shim_scopes.proofs.Refusals.{first_ok}

module _ (w : Whole) where
  abbrev branch_what_means : BranchWhat → BranchWhatMeans
  branch_what_means = fold-BranchWhat BranchWhatMeans WhatMeans BranchMeans StmtMeans (bind_branch_what_step w) (bind_what_step w) bind_branch_step bind_stmt_step

  abbrev what_means : What → WhatMeans
  what_means = fold-What BranchWhatMeans WhatMeans BranchMeans StmtMeans (bind_branch_what_step w) (bind_what_step w) bind_branch_step bind_stmt_step

  abbrev BranchWhatSorts : BranchWhatMeans → Type 0
  BranchWhatSorts f = (line : ℕ) → Sorts BranchWhatSorted (f line)

  abbrev OfWhat : WhatMeans → Type 0
  OfWhat m = WhatSorts m.bind

  abbrev OfStmt : StmtMeans → Type 0
  OfStmt m = Sorts StmtSorted m.bind

  abbrev SortingBranchWhat : Type 0
  SortingBranchWhat = (x : BranchWhat) × BranchWhatSorts (branch_what_means x)

  abbrev SortingWhat : Type 0
  SortingWhat = (x : What) × OfWhat (what_means x)

  abbrev SortingBranch : Type 0
  SortingBranch = (b : Branch) × Sorts BranchSorted (bind_branch w b)

  abbrev SortingStmt : Type 0
  SortingStmt = (s : Stmt) × OfStmt (stmt_meaning w s)

  abbrev stmts : List SortingStmt → List Stmt
  stmts ys = map (λ (e : SortingStmt). e.0) ys

  abbrev branches : List SortingBranch → List Branch
  branches ys = map (λ (e : SortingBranch). e.0) ys

  one_then : (m : StmtMeans) (ms : List StmtMeans) → OfStmt m → Sorts BodySorted (bind_all ms) → Sorts BodySorted (bind_all (m ∷ ms))
  one_then m ms k l = two_sort StmtSorted BodySorted BodySorted (λ s body. s ∷ body) m.bind (bind_all ms) (λ all s body i j. more_stmts all s body i j) k l

  one_branch_then : (f : Bind RBranch) (fs : List (Bind RBranch)) → Sorts BranchSorted f → Sorts ForkSorted (bind_fork fs) → Sorts ForkSorted (bind_fork (f ∷ fs))
  one_branch_then f fs k l = two_sort BranchSorted ForkSorted ForkSorted (λ b bs. b ∷ bs) f (bind_fork fs) (λ all b bs i j. more_branches all b bs i j) k l

  stmts_sort : (ys : List SortingStmt) → Sorts BodySorted (bind_all (map (stmt_meaning w) (stmts ys)))
  stmts_sort [] a b r is = stays BodySorted [] b r no_stmts is
  stmts_sort (y ∷ ys) a b r is = one_then (stmt_meaning w y.0) (map (stmt_meaning w) (stmts ys)) y.1 (stmts_sort ys) a b r is

  branches_sort : (ys : List SortingBranch) → Sorts ForkSorted (bind_fork (map (bind_branch w) (branches ys)))
  branches_sort [] a b r is = stays ForkSorted [] b r no_branches is
  branches_sort (y ∷ ys) a b r is = one_branch_then (bind_branch w y.0) (map (bind_branch w) (branches ys)) y.1 (branches_sort ys) a b r is

  abbrev branch_what_of : BranchWhat-F SortingBranchWhat SortingWhat SortingBranch SortingStmt → BranchWhat-F BranchWhat What Branch Stmt
  branch_what_of y = map-BranchWhat SortingBranchWhat SortingWhat SortingBranch SortingStmt BranchWhat What Branch Stmt (λ e. e.0) (λ e. e.0) (λ e. e.0) (λ e. e.0) y

  abbrev what_of : What-F SortingBranchWhat SortingWhat SortingBranch SortingStmt → What-F BranchWhat What Branch Stmt
  what_of y = map-What SortingBranchWhat SortingWhat SortingBranch SortingStmt BranchWhat What Branch Stmt (λ e. e.0) (λ e. e.0) (λ e. e.0) (λ e. e.0) y

  abbrev branch_of : Branch-F SortingBranchWhat SortingWhat SortingBranch SortingStmt → Branch-F BranchWhat What Branch Stmt
  branch_of y = map-Branch SortingBranchWhat SortingWhat SortingBranch SortingStmt BranchWhat What Branch Stmt (λ e. e.0) (λ e. e.0) (λ e. e.0) (λ e. e.0) y

  abbrev stmt_of : Stmt-F SortingBranchWhat SortingWhat SortingBranch SortingStmt → Stmt-F BranchWhat What Branch Stmt
  stmt_of y = map-Stmt SortingBranchWhat SortingWhat SortingBranch SortingStmt BranchWhat What Branch Stmt (λ e. e.0) (λ e. e.0) (λ e. e.0) (λ e. e.0) y

  branch_what_layer : (y : BranchWhat-F SortingBranchWhat SortingWhat SortingBranch SortingStmt)
      → BranchWhatSorts (bind_branch_what_step w (map-BranchWhat BranchWhat What Branch Stmt BranchWhatMeans WhatMeans BranchMeans StmtMeans branch_what_means what_means (bind_branch w) (stmt_meaning w) (branch_what_of y)))
  branch_what_layer (BranchWhat-F.BranchWhat::Block body) line =
      tree_sorts BodySorted BranchWhatSorted branch.Block (bind_block (bind_all (map (stmt_meaning w) (stmts body)))) part_block_branch (block_sorts BodySorted (bind_all (map (stmt_meaning w) (stmts body))) (stmts_sort body))
  branch_what_layer (BranchWhat-F.BranchWhat::Call c) line = called_sorts w BranchWhatSorted branch.Call c line part_call_branch

  what_layer : (y : What-F SortingBranchWhat SortingWhat SortingBranch SortingStmt)
      → OfWhat (bind_what_step w (map-What BranchWhat What Branch Stmt BranchWhatMeans WhatMeans BranchMeans StmtMeans branch_what_means what_means (bind_branch w) (stmt_meaning w) (what_of y)))
  what_layer (What-F.Declare ty x e) line = declare_sorts w ty x e line
  what_layer (What-F.Assign x e) line = store_sorts to.Assign x e part_assign line
  what_layer (What-F.Next x) line = next_sorts x line
  what_layer (What-F.NextAssign x e) line = store_sorts to.NextAssign x e part_next_assign line
  what_layer (What-F.AssignNext x y) line = assign_next_sorts x y line
  what_layer (What-F.Get x y) line = get_sorts x y line
  what_layer (What-F.Put x e) line = put_sorts x e line
  what_layer (What-F.If e first other) line = if_sorts e _ _ (stmts_sort first) (stmts_sort other) line
  what_layer (What-F.While e body) line = while_sorts e _ (stmts_sort body) line
  what_layer (What-F.For first test step body) line = for_sorts (first_declares (map (stmt_meaning w) (stmts first))) test _ _ _ (stmts_sort first) (stmts_sort step) (stmts_sort body) line
  what_layer (What-F.What::Block body) line = inner_sorts _ (stmts_sort body)
  what_layer (What-F.What::Call c) line = called_sorts w WhatSorted to.Call c line part_call
  what_layer (What-F.Try body x y handler) line = try_sorts w x y _ _ (stmts_sort body) (stmts_sort handler)
  what_layer (What-F.Throw x e) line = throw_sorts x e line
  what_layer (What-F.Par bs) line = fork_sorts _ (branches_sort bs)

  branch_what_case : (x : BranchWhat-F BranchWhat What Branch Stmt) (y : BranchWhat-F SortingBranchWhat SortingWhat SortingBranch SortingStmt) → branch_what_of y ≡ x → BranchWhatSorts (branch_what_means (roll-BranchWhat x))
  branch_what_case x y is = subst (λ z. BranchWhatSorts (branch_what_means (roll-BranchWhat z))) is
      (subst BranchWhatSorts (sym (fold-roll-BranchWhat BranchWhatMeans WhatMeans BranchMeans StmtMeans (bind_branch_what_step w) (bind_what_step w) bind_branch_step bind_stmt_step (branch_what_of y))) (branch_what_layer y))

  what_case : (x : What-F BranchWhat What Branch Stmt) (y : What-F SortingBranchWhat SortingWhat SortingBranch SortingStmt) → what_of y ≡ x → OfWhat (what_means (roll-What x))
  what_case x y is = subst (λ z. OfWhat (what_means (roll-What z))) is
      (subst OfWhat (sym (fold-roll-What BranchWhatMeans WhatMeans BranchMeans StmtMeans (bind_branch_what_step w) (bind_what_step w) bind_branch_step bind_stmt_step (what_of y))) (what_layer y))

  branch_case : (x : Branch-F BranchWhat What Branch Stmt) (y : Branch-F SortingBranchWhat SortingWhat SortingBranch SortingStmt) → branch_of y ≡ x → Sorts BranchSorted (bind_branch w (roll-Branch x))
  branch_case x y is = subst (λ z. Sorts BranchSorted (bind_branch w (roll-Branch z))) is
      (subst (λ (f : Bind RBranch). Sorts BranchSorted f) (sym (fold-roll-Branch BranchWhatMeans WhatMeans BranchMeans StmtMeans (bind_branch_what_step w) (bind_what_step w) bind_branch_step bind_stmt_step (branch_of y)))
      (tree_sorts BranchWhatSorted BranchSorted (λ (t : RBranchWhat). let b : RBranch = record { line = y.line; what = t } in b) (branch_what_means y.what.0 y.line) (λ all t i. part_branch all y.line t i) (y.what.1 y.line)))

  stmt_case : (x : Stmt-F BranchWhat What Branch Stmt) (y : Stmt-F SortingBranchWhat SortingWhat SortingBranch SortingStmt) → stmt_of y ≡ x → OfStmt (stmt_meaning w (roll-Stmt x))
  stmt_case x y is = subst (λ z. OfStmt (stmt_meaning w (roll-Stmt z))) is
      (subst OfStmt (sym (fold-roll-Stmt BranchWhatMeans WhatMeans BranchMeans StmtMeans (bind_branch_what_step w) (bind_what_step w) bind_branch_step bind_stmt_step (stmt_of y)))
      (tree_sorts WhatSorted StmtSorted (λ (t : RWhat). let s : RStmt = record { line = y.line; what = t } in s) ((what_means y.what.0).bind y.line) (λ all t i. part_stmt all y.line t i) (y.what.1 y.line)))

  stmt_sorts : (s : Stmt) → OfStmt (stmt_meaning w s)
  stmt_sorts = ind-Stmt (λ x. BranchWhatSorts (branch_what_means x)) (λ x. OfWhat (what_means x)) (λ b. Sorts BranchSorted (bind_branch w b)) (λ s. OfStmt (stmt_meaning w s)) branch_what_case what_case branch_case stmt_case

  body_sorts : (body : List Stmt) → Sorts BodySorted (bind_stmts w body)
  body_sorts [] a b r is = stays BodySorted [] b r no_stmts is
  body_sorts (s ∷ body) a b r is = one_then (stmt_meaning w s) (map (stmt_meaning w) body) (stmt_sorts s) (body_sorts body) a b r is

-- what a function declares, in its own unit and in those that are lifted out of it, has the sorts of its slots
abbrev pub FunctionSorted : RFunction → Type 0
FunctionSorted r = BodySorted r.slots r.body

function_sorted : (w : Whole) (f : Function) (r : RFunction) → IsMade w f r → FunctionSorted r
function_sorted w f r m =
    let i = body_sorts w f.body (around_body f) (params_from w.names function_begin f.params) m.body m.bound in
    subst FunctionSorted m.made (i.tree m.body.before.slots (as_it_was m.body.before.slots))

functions_sorted : (w : Whole) (earlier : Texts) (fs : List Function) (rs : List RFunction) → bind_functions w earlier fs ≡ Ok rs → Each FunctionSorted rs
functions_sorted w earlier [] rs e = let no_more : [] ≡ rs = cc in subst (Each FunctionSorted) no_more tt
functions_sorted w earlier (f ∷ fs) rs e =
    let p = first_ok (bind_function w earlier f) _ rs e in
    let q = first_ok (bind_functions w (earlier ++ f.name ∷ []) fs) _ rs p.2 in
    let same : p.0 ∷ q.0 ≡ rs = cc in
    subst (Each FunctionSorted) same (function_sorted w f p.0 (is_made w earlier f p.0 p.1), functions_sorted w (earlier ++ f.name ∷ []) fs q.0 q.1)

pub program_sorted : (p : Program) (form : Form) → bind_program p ≡ Ok form → Each FunctionSorted form.functions
program_sorted p form e = functions_sorted (whole_of p) [] p.functions form.functions (is_form p form e).bound
