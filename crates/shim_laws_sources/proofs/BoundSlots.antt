-- The slots that the body of a function declares stand after those of its parameters.
use Rattle.std.proofs.Common.{ℕ, ◌+◌, ◌≤◌, ◌≡◌, List, [], ◌∷◌, ◌++◌, Ok, length, map, refl, sym, subst, arith, length-append}
use Rattle.std.proofs.lemmas.List.{length-map}
use Rattle.shim_syntax.specs.declared.tree.Function.{Function}
use Rattle.shim_syntax.specs.declared.tree.Param.{Param}
use Rattle.shim_syntax.specs.declared.tree.Program.{Program}
use Rattle.shim_syntax.specs.declared.tree.Stmt.{Stmt, Stmt-F, fold-roll-Stmt, ind-Stmt, map-Stmt, roll-Stmt}
use Rattle.shim_syntax.specs.declared.tree.What.{What, What-F, fold-What, fold-roll-What, map-What, roll-What}
use Rattle.shim_syntax.specs.declared.tree.Branch.{Branch, Branch-F, fold-roll-Branch, map-Branch, roll-Branch}
use Rattle.shim_syntax.specs.declared.tree.BranchWhat.{BranchWhat, BranchWhat-F, fold-BranchWhat, fold-roll-BranchWhat, map-BranchWhat, roll-BranchWhat}
use Rattle.shim_syntax.specs.Names.{Texts}
use Rattle.shim_scopes.specs.declared.form.Form.{Form}
use Rattle.shim_scopes.specs.declared.tree.RBranch.{RBranch}
use Rattle.shim_scopes.specs.declared.tree.RFunction.{RFunction}
use Rattle.shim_scopes.specs.declared.tree.RStmt.{RStmt}
use Rattle.shim_scopes.specs.declared.tree.RWhat.{RWhat}
use Rattle.shim_scopes.specs.declared.tree.RWhat.TheVariants as to
use Rattle.shim_scopes.specs.declared.tree.RBranchWhat.{RBranchWhat}
use Rattle.shim_scopes.specs.declared.tree.RBranchWhat.TheVariants as branch
use Rattle.shim_scopes.specs.Statements.{Whole, Before, Bind, bind_block}
use Rattle.shim_scopes.specs.Bodies.{WhatMeans, StmtMeans, BranchMeans, BranchWhatMeans, bind_all, bind_fork, first_declares, bind_branch_what_step, bind_what_step, bind_branch_step, bind_stmt_step, stmt_meaning, bind_stmts, bind_branch}
use Rattle.shim_scopes.specs.Functions.{bind_function, bind_functions, bind_program, made_function, params_from, with_param, function_begin, placed_param}
use Rattle.shim_units.specs.PartFold.{declares_in}
use Rattle.shim_laws_binding.proofs.Lists.{Each, each_of_both}
use Rattle.shim_laws_binding.proofs.TextOrderLemmas.{around_body, IsMade, is_made, whole_of, is_form}
use Rattle.shim_laws_sources.proofs.OwnSteps.{own_what, own_stmt, own_in_line, own_assign, own_next_assign, own_call}
use Rattle.shim_laws_sources.proofs.Binding.{AllFrom, from_less, Adds, none, at_answer, stays, block_adds, tree_adds, same_from, WhatAdds, declare_adds, store_adds, next_adds, assign_next_adds, get_adds, put_adds, throw_adds, called_adds, if_adds, while_adds, try_adds, for_adds, inner_adds, fork_adds}
use Rattle.shim_scopes.proofs.Refusals.{first_ok}

module _ (w : Whole) where
  abbrev branch_what_means : BranchWhat → BranchWhatMeans
  branch_what_means = fold-BranchWhat BranchWhatMeans WhatMeans BranchMeans StmtMeans (bind_branch_what_step w) (bind_what_step w) bind_branch_step bind_stmt_step

  abbrev what_means : What → WhatMeans
  what_means = fold-What BranchWhatMeans WhatMeans BranchMeans StmtMeans (bind_branch_what_step w) (bind_what_step w) bind_branch_step bind_stmt_step

  abbrev BranchWhatAdds : BranchWhatMeans → Type 0
  BranchWhatAdds f = (line : ℕ) → Adds none (f line)

  abbrev OfWhat : WhatMeans → Type 0
  OfWhat m = WhatAdds m.bind

  abbrev OfStmt : StmtMeans → Type 0
  OfStmt m = Adds own_stmt m.bind

  abbrev AddingBranchWhat : Type 0
  AddingBranchWhat = (x : BranchWhat) × BranchWhatAdds (branch_what_means x)

  abbrev AddingWhat : Type 0
  AddingWhat = (x : What) × OfWhat (what_means x)

  abbrev AddingBranch : Type 0
  AddingBranch = (b : Branch) × Adds none (bind_branch w b)

  abbrev AddingStmt : Type 0
  AddingStmt = (s : Stmt) × OfStmt (stmt_meaning w s)

  abbrev stmts : List AddingStmt → List Stmt
  stmts ys = map (λ (e : AddingStmt). e.0) ys

  abbrev branches : List AddingBranch → List Branch
  branches ys = map (λ (e : AddingBranch). e.0) ys

  one_then : (m : StmtMeans) (ms : List StmtMeans) → OfStmt m → Adds declares_in (bind_all ms) → Adds declares_in (bind_all (m ∷ ms))
  one_then m ms k l a b r is =
      let p = first_ok (m.bind a b) _ r is in
      let q = first_ok (bind_all ms a p.0.before) _ r p.2 in
      let i = k a b p.0 p.1 in
      let j = l a p.0.before q.0 q.1 in
      at_answer declares_in b q.0.before (p.0.tree ∷ q.0.tree) r q.2 (omega (arith, i.longer, j.longer))
      (each_of_both (λ y. length b.slots ≤ y) (own_stmt p.0.tree) (declares_in q.0.tree) i.behind (from_less _ _ (declares_in q.0.tree) i.longer j.behind))

  one_branch_then : (f : Bind RBranch) (fs : List (Bind RBranch)) → Adds none f → Adds none (bind_fork fs) → Adds none (bind_fork (f ∷ fs))
  one_branch_then f fs k l a b r is =
      let p = first_ok (f a b) _ r is in
      let q = first_ok (bind_fork fs a p.0.before) _ r p.2 in
      let i = k a b p.0 p.1 in
      let j = l a p.0.before q.0 q.1 in
      at_answer none b q.0.before (p.0.tree ∷ q.0.tree) r q.2 (omega (arith, i.longer, j.longer)) tt

  stmts_add : (ys : List AddingStmt) → Adds declares_in (bind_all (map (stmt_meaning w) (stmts ys)))
  stmts_add [] a b r is = stays declares_in [] b r refl is
  stmts_add (y ∷ ys) a b r is = one_then (stmt_meaning w y.0) (map (stmt_meaning w) (stmts ys)) y.1 (stmts_add ys) a b r is

  branches_add : (ys : List AddingBranch) → Adds none (bind_fork (map (bind_branch w) (branches ys)))
  branches_add [] a b r is = stays none [] b r refl is
  branches_add (y ∷ ys) a b r is = one_branch_then (bind_branch w y.0) (map (bind_branch w) (branches ys)) y.1 (branches_add ys) a b r is

  abbrev branch_what_of : BranchWhat-F AddingBranchWhat AddingWhat AddingBranch AddingStmt → BranchWhat-F BranchWhat What Branch Stmt
  branch_what_of y = map-BranchWhat AddingBranchWhat AddingWhat AddingBranch AddingStmt BranchWhat What Branch Stmt (λ e. e.0) (λ e. e.0) (λ e. e.0) (λ e. e.0) y

  abbrev what_of : What-F AddingBranchWhat AddingWhat AddingBranch AddingStmt → What-F BranchWhat What Branch Stmt
  what_of y = map-What AddingBranchWhat AddingWhat AddingBranch AddingStmt BranchWhat What Branch Stmt (λ e. e.0) (λ e. e.0) (λ e. e.0) (λ e. e.0) y

  abbrev branch_of : Branch-F AddingBranchWhat AddingWhat AddingBranch AddingStmt → Branch-F BranchWhat What Branch Stmt
  branch_of y = map-Branch AddingBranchWhat AddingWhat AddingBranch AddingStmt BranchWhat What Branch Stmt (λ e. e.0) (λ e. e.0) (λ e. e.0) (λ e. e.0) y

  abbrev stmt_of : Stmt-F AddingBranchWhat AddingWhat AddingBranch AddingStmt → Stmt-F BranchWhat What Branch Stmt
  stmt_of y = map-Stmt AddingBranchWhat AddingWhat AddingBranch AddingStmt BranchWhat What Branch Stmt (λ e. e.0) (λ e. e.0) (λ e. e.0) (λ e. e.0) y

  branch_what_layer : (y : BranchWhat-F AddingBranchWhat AddingWhat AddingBranch AddingStmt)
      → BranchWhatAdds (bind_branch_what_step w (map-BranchWhat BranchWhat What Branch Stmt BranchWhatMeans WhatMeans BranchMeans StmtMeans branch_what_means what_means (bind_branch w) (stmt_meaning w) (branch_what_of y)))
  branch_what_layer (BranchWhat-F.BranchWhat::Block body) line =
      tree_adds declares_in none branch.Block (bind_block (bind_all (map (stmt_meaning w) (stmts body)))) (λ n s i. tt) (block_adds declares_in (bind_all (map (stmt_meaning w) (stmts body))) (stmts_add body))
  branch_what_layer (BranchWhat-F.BranchWhat::Call c) line = called_adds w none branch.Call c line (λ d. refl)

  what_layer : (y : What-F AddingBranchWhat AddingWhat AddingBranch AddingStmt)
      → OfWhat (bind_what_step w (map-What BranchWhat What Branch Stmt BranchWhatMeans WhatMeans BranchMeans StmtMeans branch_what_means what_means (bind_branch w) (stmt_meaning w) (what_of y)))
  what_layer (What-F.Declare ty x e) line place = declare_adds w ty x e line place
  what_layer (What-F.Assign x e) line place = store_adds to.Assign x e own_assign line place
  what_layer (What-F.Next x) line place = next_adds x line place
  what_layer (What-F.NextAssign x e) line place = store_adds to.NextAssign x e own_next_assign line place
  what_layer (What-F.AssignNext x y) line place = assign_next_adds x y line place
  what_layer (What-F.Get x y) line place = get_adds x y line place
  what_layer (What-F.Put x e) line place = put_adds x e line place
  what_layer (What-F.If e first other) line place = if_adds e _ _ (stmts_add first) (stmts_add other) line place
  what_layer (What-F.While e body) line place = while_adds e _ (stmts_add body) line place
  what_layer (What-F.For first test step body) line place = for_adds (first_declares (map (stmt_meaning w) (stmts first))) test _ _ _ (stmts_add first) (stmts_add step) (stmts_add body) line place
  what_layer (What-F.What::Block body) line place = inner_adds _ (stmts_add body) place
  what_layer (What-F.What::Call c) line place = called_adds w (own_what place) to.Call c line (own_call place)
  what_layer (What-F.Try body x y handler) line place = try_adds w x y _ _ (stmts_add body) (stmts_add handler) place
  what_layer (What-F.Throw x e) line place = throw_adds x e line place
  what_layer (What-F.Par bs) line place = fork_adds _ (branches_add bs) place

  branch_what_case : (x : BranchWhat-F BranchWhat What Branch Stmt) (y : BranchWhat-F AddingBranchWhat AddingWhat AddingBranch AddingStmt) → branch_what_of y ≡ x → BranchWhatAdds (branch_what_means (roll-BranchWhat x))
  branch_what_case x y is = subst (λ z. BranchWhatAdds (branch_what_means (roll-BranchWhat z))) is
      (subst BranchWhatAdds (sym (fold-roll-BranchWhat BranchWhatMeans WhatMeans BranchMeans StmtMeans (bind_branch_what_step w) (bind_what_step w) bind_branch_step bind_stmt_step (branch_what_of y))) (branch_what_layer y))

  what_case : (x : What-F BranchWhat What Branch Stmt) (y : What-F AddingBranchWhat AddingWhat AddingBranch AddingStmt) → what_of y ≡ x → OfWhat (what_means (roll-What x))
  what_case x y is = subst (λ z. OfWhat (what_means (roll-What z))) is
      (subst OfWhat (sym (fold-roll-What BranchWhatMeans WhatMeans BranchMeans StmtMeans (bind_branch_what_step w) (bind_what_step w) bind_branch_step bind_stmt_step (what_of y))) (what_layer y))

  branch_case : (x : Branch-F BranchWhat What Branch Stmt) (y : Branch-F AddingBranchWhat AddingWhat AddingBranch AddingStmt) → branch_of y ≡ x → Adds none (bind_branch w (roll-Branch x))
  branch_case x y is = subst (λ z. Adds none (bind_branch w (roll-Branch z))) is
      (subst (λ (f : Bind RBranch). Adds none f) (sym (fold-roll-Branch BranchWhatMeans WhatMeans BranchMeans StmtMeans (bind_branch_what_step w) (bind_what_step w) bind_branch_step bind_stmt_step (branch_of y)))
      (tree_adds none none (λ (t : RBranchWhat). let b : RBranch = record { line = y.line; what = t } in b) (branch_what_means y.what.0 y.line) (λ n s i. tt) (y.what.1 y.line)))

  stmt_case : (x : Stmt-F BranchWhat What Branch Stmt) (y : Stmt-F AddingBranchWhat AddingWhat AddingBranch AddingStmt) → stmt_of y ≡ x → OfStmt (stmt_meaning w (roll-Stmt x))
  stmt_case x y is = subst (λ z. OfStmt (stmt_meaning w (roll-Stmt z))) is
      (subst OfStmt (sym (fold-roll-Stmt BranchWhatMeans WhatMeans BranchMeans StmtMeans (bind_branch_what_step w) (bind_what_step w) bind_branch_step bind_stmt_step (stmt_of y)))
      (tree_adds (own_what y.line) own_stmt (λ (t : RWhat). let s : RStmt = record { line = y.line; what = t } in s) ((what_means y.what.0).bind y.line)
      (λ n t i. same_from n (own_stmt (record { line = y.line; what = t })) (own_what y.line t) (own_in_line y.line t) i) (y.what.1 y.line y.line)))

  stmt_adds : (s : Stmt) → OfStmt (stmt_meaning w s)
  stmt_adds = ind-Stmt (λ x. BranchWhatAdds (branch_what_means x)) (λ x. OfWhat (what_means x)) (λ b. Adds none (bind_branch w b)) (λ s. OfStmt (stmt_meaning w s)) branch_what_case what_case branch_case stmt_case

  body_adds : (body : List Stmt) → Adds declares_in (bind_stmts w body)
  body_adds [] a b r is = stays declares_in [] b r refl is
  body_adds (s ∷ body) a b r is = one_then (stmt_meaning w s) (map (stmt_meaning w) body) (stmt_adds s) (body_adds body) a b r is

-- as many slots as parameters stand before the body
params_before : (names : Texts) (b : Before) (ps : List Param) → length (params_from names b ps).slots ≡ length b.slots + length ps
params_before names b [] = omega arith
params_before names b (p ∷ ps) = omega (arith, params_before names (with_param names b p) ps, length-append b.slots (p.sort ∷ []))

-- what a function declares in its own unit is after its parameters
abbrev pub IsAfterParams : RFunction → Type 0
IsAfterParams r = AllFrom (length r.params) (declares_in r.body)

function_behind : (w : Whole) (f : Function) (r : RFunction) → IsMade w f r → IsAfterParams r
function_behind w f r m =
    let i = body_adds w f.body (around_body f) (params_from w.names function_begin f.params) m.body m.bound in
    subst IsAfterParams m.made
    (from_less (length (made_function w f m.body).params) _ (declares_in m.body.tree) (omega (arith, params_before w.names function_begin f.params, length-map f.params (placed_param w.names))) i.behind)

functions_behind : (w : Whole) (earlier : Texts) (fs : List Function) (rs : List RFunction) → bind_functions w earlier fs ≡ Ok rs → Each IsAfterParams rs
functions_behind w earlier [] rs e = let no_more : [] ≡ rs = cc in subst (Each IsAfterParams) no_more tt
functions_behind w earlier (f ∷ fs) rs e =
    let p = first_ok (bind_function w earlier f) _ rs e in
    let q = first_ok (bind_functions w (earlier ++ f.name ∷ []) fs) _ rs p.2 in
    let same : p.0 ∷ q.0 ≡ rs = cc in
    subst (Each IsAfterParams) same (function_behind w f p.0 (is_made w earlier f p.0 p.1), functions_behind w (earlier ++ f.name ∷ []) fs q.0 q.1)

pub program_behind : (p : Program) (form : Form) → bind_program p ≡ Ok form → Each IsAfterParams form.functions
program_behind p form e = functions_behind (whole_of p) [] p.functions form.functions (is_form p form e).bound
