-- Statements, branches and what they hold are bound by the rules of lexical scope.
use Rattle.std.proofs.Common.{ℕ, ◌≡◌, List, [], ◌∷◌, map, sym, ap, subst}
use Rattle.shim_syntax.specs.declared.tree.Stmt.{Stmt, Stmt-F, fold-roll-Stmt, ind-Stmt, map-Stmt, roll-Stmt}
use Rattle.shim_syntax.specs.declared.tree.What.{What, What-F, fold-roll-What, map-What, roll-What}
use Rattle.shim_syntax.specs.declared.tree.What.TheVariants as st
use Rattle.shim_syntax.specs.declared.tree.Branch.{Branch, Branch-F, fold-roll-Branch, map-Branch, roll-Branch}
use Rattle.shim_syntax.specs.declared.tree.BranchWhat.{BranchWhat, BranchWhat-F, fold-roll-BranchWhat, map-BranchWhat, roll-BranchWhat}
use Rattle.shim_syntax.specs.declared.tree.BranchWhat.TheVariants as br
use Rattle.shim_scopes.specs.declared.tree.RStmt.{RStmt}
use Rattle.shim_scopes.specs.declared.tree.RWhat.{RWhat}
use Rattle.shim_scopes.specs.declared.tree.RWhat.TheVariants as rt
use Rattle.shim_scopes.specs.declared.tree.RBranch.{RBranch}
use Rattle.shim_scopes.specs.declared.tree.RBranchWhat.{RBranchWhat}
use Rattle.shim_scopes.specs.declared.tree.RBranchWhat.TheVariants as rb
use Rattle.shim_scopes.specs.Statements.{Whole, Bind}
use Rattle.shim_scopes.specs.Bodies.{WhatMeans, StmtMeans, BranchMeans, BranchWhatMeans, bind_all, bind_fork, first_declares, bind_branch_what_step, bind_what_step, bind_branch_step, bind_stmt_step, stmt_meaning, bind_stmts, bind_branch}
use Rattle.shim_laws_binding.specs.TextOrder.{declarations_in, tries_among}
use Rattle.shim_laws_binding.specs.LexicalScope.{Point, BindsWhat, block, call, par, BindsStmt, stmt, BindsStmts, no_stmts, stmts, BindsBlock, BindsBranchWhat, block_branch, call_branch, BindsBranch, branch, BindsBranches, no_branches, branches}
use Rattle.shim_laws_binding.proofs.Growth.{branch_what_means, what_means, body_grows}
use Rattle.shim_laws_binding.proofs.ScopeExprs.{point}
use Rattle.shim_laws_binding.proofs.ScopeParts.{ByRules, by_answer, block_by_rules, tree_by_rules, declare_by_rules, assign_by_rules, next_assign_by_rules, put_by_rules, next_by_rules, assign_next_by_rules, get_by_rules, throw_by_rules, called_by_rules, if_by_rules, while_by_rules, try_by_rules, for_by_rules}
use Rattle.shim_scopes.proofs.Refusals.{first_ok}

module _ (w : Whole) where
  abbrev OneBranchWhat : Point → BranchWhat → RBranchWhat → Point → Type 0
  OneBranchWhat = BindsBranchWhat w.functions

  abbrev OneWhat : Point → What → RWhat → Point → Type 0
  OneWhat = BindsWhat w.functions

  abbrev OneBranch : Point → Branch → RBranch → Point → Type 0
  OneBranch = BindsBranch w.functions

  abbrev OneStmt : Point → Stmt → RStmt → Point → Type 0
  OneStmt = BindsStmt w.functions

  abbrev Stmts : Point → List Stmt → List RStmt → Point → Type 0
  Stmts = BindsStmts w.functions

  abbrev Blocks : Point → List Stmt → List RStmt → Point → Type 0
  Blocks = BindsBlock w.functions

  abbrev Branches : Point → List Branch → List RBranch → Point → Type 0
  Branches = BindsBranches w.functions

  abbrev OfBranchWhat : BranchWhat → Type 0
  OfBranchWhat x = (line : ℕ) → ByRules OneBranchWhat x (branch_what_means w x line)

  abbrev OfWhat : What → Type 0
  OfWhat x = (line : ℕ) → ByRules OneWhat x ((what_means w x).bind line)

  abbrev OfBranch : Branch → Type 0
  OfBranch b = ByRules OneBranch b (bind_branch w b)

  abbrev OfStmt : Stmt → Type 0
  OfStmt s = ByRules OneStmt s (stmt_meaning w s).bind

  -- a part that is bound by the rules
  abbrev RuledBranchWhat : Type 0
  RuledBranchWhat = (x : BranchWhat) × OfBranchWhat x

  abbrev RuledWhat : Type 0
  RuledWhat = (x : What) × OfWhat x

  abbrev RuledBranch : Type 0
  RuledBranch = (b : Branch) × OfBranch b

  abbrev RuledStmt : Type 0
  RuledStmt = (s : Stmt) × OfStmt s

  abbrev parts : List RuledStmt → List Stmt
  parts ys = map (λ (e : RuledStmt). e.0) ys

  abbrev forks : List RuledBranch → List Branch
  forks ys = map (λ (e : RuledBranch). e.0) ys

  one_then : (s : Stmt) (body : List Stmt) → OfStmt s → ByRules Stmts body (bind_all (map (stmt_meaning w) body)) → ByRules Stmts (s ∷ body) (bind_all (map (stmt_meaning w) (s ∷ body)))
  one_then s body k l a b r is =
      let p = first_ok ((stmt_meaning w s).bind a b) _ r is in
      let q = first_ok (bind_all (map (stmt_meaning w) body) a p.0.before) _ r p.2 in
      by_answer Stmts (s ∷ body) (point a b) a (p.0.tree ∷ q.0.tree) q.0.before r q.2 (stmts (k a b p.0 p.1) (l a p.0.before q.0 q.1))

  parts_by_rules : (ys : List RuledStmt) → ByRules Stmts (parts ys) (bind_all (map (stmt_meaning w) (parts ys)))
  parts_by_rules [] a b r is = by_answer Stmts [] (point a b) a [] b r is no_stmts
  parts_by_rules (y ∷ ys) a b r is = one_then y.0 (parts ys) y.1 (parts_by_rules ys) a b r is

  one_branch_then : (c : Branch) (bs : List Branch) → OfBranch c → ByRules Branches bs (bind_fork (map (bind_branch w) bs)) → ByRules Branches (c ∷ bs) (bind_fork (map (bind_branch w) (c ∷ bs)))
  one_branch_then c bs k l a b r is =
      let p = first_ok (bind_branch w c a b) _ r is in
      let q = first_ok (bind_fork (map (bind_branch w) bs) a p.0.before) _ r p.2 in
      by_answer Branches (c ∷ bs) (point a b) a (p.0.tree ∷ q.0.tree) q.0.before r q.2 (branches (k a b p.0 p.1) (l a p.0.before q.0 q.1))

  forks_by_rules : (ys : List RuledBranch) → ByRules Branches (forks ys) (bind_fork (map (bind_branch w) (forks ys)))
  forks_by_rules [] a b r is = by_answer Branches [] (point a b) a [] b r is no_branches
  forks_by_rules (y ∷ ys) a b r is = one_branch_then y.0 (forks ys) y.1 (forks_by_rules ys) a b r is

  abbrev branch_what_of : BranchWhat-F RuledBranchWhat RuledWhat RuledBranch RuledStmt → BranchWhat-F BranchWhat What Branch Stmt
  branch_what_of y = map-BranchWhat RuledBranchWhat RuledWhat RuledBranch RuledStmt BranchWhat What Branch Stmt (λ e. e.0) (λ e. e.0) (λ e. e.0) (λ e. e.0) y

  abbrev what_of : What-F RuledBranchWhat RuledWhat RuledBranch RuledStmt → What-F BranchWhat What Branch Stmt
  what_of y = map-What RuledBranchWhat RuledWhat RuledBranch RuledStmt BranchWhat What Branch Stmt (λ e. e.0) (λ e. e.0) (λ e. e.0) (λ e. e.0) y

  abbrev branch_of : Branch-F RuledBranchWhat RuledWhat RuledBranch RuledStmt → Branch-F BranchWhat What Branch Stmt
  branch_of y = map-Branch RuledBranchWhat RuledWhat RuledBranch RuledStmt BranchWhat What Branch Stmt (λ e. e.0) (λ e. e.0) (λ e. e.0) (λ e. e.0) y

  abbrev stmt_of : Stmt-F RuledBranchWhat RuledWhat RuledBranch RuledStmt → Stmt-F BranchWhat What Branch Stmt
  stmt_of y = map-Stmt RuledBranchWhat RuledWhat RuledBranch RuledStmt BranchWhat What Branch Stmt (λ e. e.0) (λ e. e.0) (λ e. e.0) (λ e. e.0) y

  branch_what_layer : (y : BranchWhat-F RuledBranchWhat RuledWhat RuledBranch RuledStmt) (line : ℕ)
      → ByRules OneBranchWhat (roll-BranchWhat (branch_what_of y))
      (bind_branch_what_step w (map-BranchWhat BranchWhat What Branch Stmt BranchWhatMeans WhatMeans BranchMeans StmtMeans (branch_what_means w) (what_means w) (bind_branch w) (stmt_meaning w) (branch_what_of y)) line)
  unfolding roll-BranchWhat denote.Hole.Carrier.roll
  branch_what_layer (BranchWhat-F.BranchWhat::Block body) line =
      tree_by_rules w Blocks OneBranchWhat (parts body) (br.Block (parts body)) rb.Block _ (λ p q t h. block_branch h) (block_by_rules w (parts body) _ (parts_by_rules body))
  branch_what_layer (BranchWhat-F.BranchWhat::Call c) line = called_by_rules w OneBranchWhat br.Call rb.Call c line (λ p r h. call_branch h)

  what_layer : (y : What-F RuledBranchWhat RuledWhat RuledBranch RuledStmt) (line : ℕ)
      → ByRules OneWhat (roll-What (what_of y))
      ((bind_what_step w (map-What BranchWhat What Branch Stmt BranchWhatMeans WhatMeans BranchMeans StmtMeans (branch_what_means w) (what_means w) (bind_branch w) (stmt_meaning w) (what_of y))).bind line)
  unfolding roll-What denote.Hole.Carrier.roll
  what_layer (What-F.Declare ty x e) line = declare_by_rules w ty x e line
  what_layer (What-F.Assign x e) line = assign_by_rules w x e line
  what_layer (What-F.Next x) line = next_by_rules w x line
  what_layer (What-F.NextAssign x e) line = next_assign_by_rules w x e line
  what_layer (What-F.AssignNext x y) line = assign_next_by_rules w x y line
  what_layer (What-F.Get x y) line = get_by_rules w x y line
  what_layer (What-F.Put x e) line = put_by_rules w x e line
  what_layer (What-F.If e first other) line = if_by_rules w e (parts first) (parts other) _ _ line (parts_by_rules first) (parts_by_rules other)
  what_layer (What-F.While e body) line = while_by_rules w e (parts body) _ line (parts_by_rules body)
  what_layer (What-F.For first test step body) line =
      for_by_rules w (first_declares (map (stmt_meaning w) (parts first))) test (parts first) (parts step) (parts body) (declarations_in (parts first)) (tries_among (parts first)) _ _ _ line
      (body_grows w (parts first)) (parts_by_rules first) (parts_by_rules step) (parts_by_rules body)
  what_layer (What-F.What::Block body) line =
      tree_by_rules w Blocks OneWhat (parts body) (st.Block (parts body)) rt.Block _ (λ p q t h. block h) (block_by_rules w (parts body) _ (parts_by_rules body))
  what_layer (What-F.What::Call c) line = called_by_rules w OneWhat st.Call rt.Call c line (λ p r h. call h)
  what_layer (What-F.Try body x y handler) line = try_by_rules w x y (parts body) (parts handler) _ _ (parts_by_rules body) (parts_by_rules handler)
  what_layer (What-F.Throw x e) line = throw_by_rules w x e line
  what_layer (What-F.Par bs) line = tree_by_rules w Branches OneWhat (forks bs) (st.Par (forks bs)) rt.Par _ (λ p q t h. par h) (forks_by_rules bs)

  -- the same, where the meaning is another that is equal
  same_rule : {T S : Type 0} (Rule : Point → S → T → Point → Type 0) (s : S) (f g : Bind T) → f ≡ g → ByRules Rule s g → ByRules Rule s f
  same_rule {T = T} Rule s f g e h = subst (λ (k : Bind T). ByRules Rule s k) (sym e) h

  branch_what_case : (x : BranchWhat-F BranchWhat What Branch Stmt) (y : BranchWhat-F RuledBranchWhat RuledWhat RuledBranch RuledStmt) → branch_what_of y ≡ x → OfBranchWhat (roll-BranchWhat x)
  branch_what_case x y is = subst (λ z. OfBranchWhat (roll-BranchWhat z)) is (λ line.
      same_rule OneBranchWhat (roll-BranchWhat (branch_what_of y)) _ _
      (ap (λ (k : BranchWhatMeans). k line) (fold-roll-BranchWhat BranchWhatMeans WhatMeans BranchMeans StmtMeans (bind_branch_what_step w) (bind_what_step w) bind_branch_step bind_stmt_step (branch_what_of y)))
      (branch_what_layer y line))

  what_case : (x : What-F BranchWhat What Branch Stmt) (y : What-F RuledBranchWhat RuledWhat RuledBranch RuledStmt) → what_of y ≡ x → OfWhat (roll-What x)
  what_case x y is = subst (λ z. OfWhat (roll-What z)) is (λ line.
      same_rule OneWhat (roll-What (what_of y)) _ _
      (ap (λ (k : WhatMeans). k.bind line) (fold-roll-What BranchWhatMeans WhatMeans BranchMeans StmtMeans (bind_branch_what_step w) (bind_what_step w) bind_branch_step bind_stmt_step (what_of y)))
      (what_layer y line))

  branch_case : (x : Branch-F BranchWhat What Branch Stmt) (y : Branch-F RuledBranchWhat RuledWhat RuledBranch RuledStmt) → branch_of y ≡ x → OfBranch (roll-Branch x)
  branch_case x y is = subst (λ z. OfBranch (roll-Branch z)) is
      (same_rule OneBranch (roll-Branch (branch_of y)) _ _
      (fold-roll-Branch BranchWhatMeans WhatMeans BranchMeans StmtMeans (bind_branch_what_step w) (bind_what_step w) bind_branch_step bind_stmt_step (branch_of y))
      (tree_by_rules w OneBranchWhat OneBranch y.what.0 (roll-Branch (branch_of y)) (λ t. record { line = y.line; what = t }) _ (λ p q t h. branch {line = y.line} h) (y.what.1 y.line)))

  stmt_case : (x : Stmt-F BranchWhat What Branch Stmt) (y : Stmt-F RuledBranchWhat RuledWhat RuledBranch RuledStmt) → stmt_of y ≡ x → OfStmt (roll-Stmt x)
  stmt_case x y is = subst (λ z. OfStmt (roll-Stmt z)) is
      (same_rule OneStmt (roll-Stmt (stmt_of y)) _ _
      (ap (λ (k : StmtMeans). k.bind) (fold-roll-Stmt BranchWhatMeans WhatMeans BranchMeans StmtMeans (bind_branch_what_step w) (bind_what_step w) bind_branch_step bind_stmt_step (stmt_of y)))
      (tree_by_rules w OneWhat OneStmt y.what.0 (roll-Stmt (stmt_of y)) (λ t. record { line = y.line; what = t }) _ (λ p q t h. stmt {line = y.line} h) (y.what.1 y.line)))

  stmt_by_rules : (s : Stmt) → OfStmt s
  stmt_by_rules = ind-Stmt OfBranchWhat OfWhat OfBranch OfStmt branch_what_case what_case branch_case stmt_case

  pub body_by_rules : (body : List Stmt) → ByRules Stmts body (bind_stmts w body)
  body_by_rules [] a b r is = by_answer Stmts [] (point a b) a [] b r is no_stmts
  body_by_rules (s ∷ body) a b r is = one_then s body (stmt_by_rules s) (body_by_rules body) a b r is
