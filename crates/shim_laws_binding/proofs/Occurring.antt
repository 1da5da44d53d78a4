-- What is declared, and what the `try` statements name, stands among the identifiers of the text.
use Rattle.std.proofs.Common.{◌≡◌, List, [], ◌∷◌, ◌++◌, ℕ, Option, Some, None, map, sym, subst}
use Rattle.shim_syntax.specs.declared.tree.Stmt.{Stmt, Stmt-F, fold-roll-Stmt, ind-Stmt, map-Stmt, roll-Stmt}
use Rattle.shim_syntax.specs.declared.tree.What.{What, What-F, fold-What, fold-roll-What, map-What, roll-What}
use Rattle.shim_syntax.specs.declared.tree.Branch.{Branch, Branch-F, fold-Branch, fold-roll-Branch, map-Branch, roll-Branch}
use Rattle.shim_syntax.specs.declared.tree.BranchWhat.{BranchWhat, BranchWhat-F, fold-BranchWhat, fold-roll-BranchWhat, map-BranchWhat, roll-BranchWhat}
use Rattle.shim_syntax.specs.Names.{Texts}
use Rattle.shim_syntax.specs.Occurrences.{concatenated, in_expr, in_option, in_variable, branch_occurs, what_occurs, in_stmt}
use Rattle.shim_laws_binding.specs.TextOrder.{Declaration, Declarations, declared_variable, concat, branch_declares, what_declares, stmt_declares, declarations_in, branch_tries, what_tries, stmt_tries, tries_among}
use Rattle.shim_laws_binding.proofs.Lists.{Each, each_of_both, each_of_first, each_of_second}

module _ (P : List ℕ → Type 0) where
  abbrev pub DeclaredSo : Declaration → Type 0
  DeclaredSo d = P d.name

  -- what holds of all names of a part holds of what it declares and tries
  abbrev pub Passes : Texts → Declarations → Texts → Type 0
  Passes xs ds ts = Each P xs → Each DeclaredSo ds × Each P ts

  both_pass : (xs ys : Texts) (ds es : Declarations) (ts us : Texts) → Passes xs ds ts → Passes ys es us → Passes (xs ++ ys) (ds ++ es) (ts ++ us)
  both_pass xs ys ds es ts us p q h =
      let a = p (each_of_first P xs ys h) in
      let b = q (each_of_second P xs ys h) in
      (each_of_both DeclaredSo ds es a.0 b.0, each_of_both P ts us a.1 b.1)

  behind_others : (xs ys : Texts) (ds : Declarations) (ts : Texts) → Passes ys ds ts → Passes (xs ++ ys) ds ts
  behind_others xs ys ds ts p h = p (each_of_second P xs ys h)

  try_passes : (x : List ℕ) (xs ys : Texts) (ds es : Declarations) (ts us : Texts) → Passes xs ds ts → Passes ys es us → Passes (xs ++ x ∷ ys) (ds ++ es) (x ∷ (ts ++ us))
  try_passes x xs ys ds es ts us p q h =
      let a = p (each_of_first P xs (x ∷ ys) h) in
      let c = each_of_second P xs (x ∷ ys) h in
      let b = q c.1 in
      (each_of_both DeclaredSo ds es a.0 b.0, (c.0, each_of_both P ts us a.1 b.1))

  variable_passes : (y : Option (List ℕ)) → Passes (in_variable y) (declared_variable y) []
  variable_passes None h = (tt, tt)
  variable_passes (Some x) h = ((h.0, tt), tt)

  abbrev in_branch_what : BranchWhat → Texts
  in_branch_what = fold-BranchWhat Texts Texts Texts Texts branch_occurs what_occurs (λ b. b.what) (λ s. s.what)

  abbrev in_what : What → Texts
  in_what = fold-What Texts Texts Texts Texts branch_occurs what_occurs (λ b. b.what) (λ s. s.what)

  abbrev in_branch : Branch → Texts
  in_branch = fold-Branch Texts Texts Texts Texts branch_occurs what_occurs (λ b. b.what) (λ s. s.what)

  abbrev declared_by_branch_what : BranchWhat → Declarations
  declared_by_branch_what = fold-BranchWhat Declarations Declarations Declarations Declarations branch_declares what_declares (λ b. b.what) (λ s. s.what)

  abbrev declared_by_what : What → Declarations
  declared_by_what = fold-What Declarations Declarations Declarations Declarations branch_declares what_declares (λ b. b.what) (λ s. s.what)

  abbrev declared_by_branch : Branch → Declarations
  declared_by_branch = fold-Branch Declarations Declarations Declarations Declarations branch_declares what_declares (λ b. b.what) (λ s. s.what)

  abbrev tried_by_branch_what : BranchWhat → Texts
  tried_by_branch_what = fold-BranchWhat Texts Texts Texts Texts branch_tries what_tries (λ b. b.what) (λ s. s.what)

  abbrev tried_by_what : What → Texts
  tried_by_what = fold-What Texts Texts Texts Texts branch_tries what_tries (λ b. b.what) (λ s. s.what)

  abbrev tried_by_branch : Branch → Texts
  tried_by_branch = fold-Branch Texts Texts Texts Texts branch_tries what_tries (λ b. b.what) (λ s. s.what)

  abbrev OfBranchWhat : BranchWhat → Type 0
  OfBranchWhat x = Passes (in_branch_what x) (declared_by_branch_what x) (tried_by_branch_what x)

  abbrev OfWhat : What → Type 0
  OfWhat x = Passes (in_what x) (declared_by_what x) (tried_by_what x)

  abbrev OfBranch : Branch → Type 0
  OfBranch b = Passes (in_branch b) (declared_by_branch b) (tried_by_branch b)

  abbrev OfStmt : Stmt → Type 0
  OfStmt s = Passes (in_stmt s) (stmt_declares s) (stmt_tries s)

  -- a part that passes
  abbrev PassedBranchWhat : Type 0
  PassedBranchWhat = (x : BranchWhat) × OfBranchWhat x

  abbrev PassedWhat : Type 0
  PassedWhat = (x : What) × OfWhat x

  abbrev PassedBranch : Type 0
  PassedBranch = (b : Branch) × OfBranch b

  abbrev PassedStmt : Type 0
  PassedStmt = (s : Stmt) × OfStmt s

  abbrev stmts : List PassedStmt → List Stmt
  stmts ys = map (λ (e : PassedStmt). e.0) ys

  abbrev branches : List PassedBranch → List Branch
  branches ys = map (λ (e : PassedBranch). e.0) ys

  stmts_pass : (ys : List PassedStmt) → Passes (concatenated (map in_stmt (stmts ys))) (declarations_in (stmts ys)) (tries_among (stmts ys))
  stmts_pass [] h = (tt, tt)
  stmts_pass (y ∷ ys) h =
      both_pass (in_stmt y.0) (concatenated (map in_stmt (stmts ys))) (stmt_declares y.0) (declarations_in (stmts ys)) (stmt_tries y.0) (tries_among (stmts ys)) y.1 (stmts_pass ys) h

  branches_pass : (ys : List PassedBranch) → Passes (concatenated (map in_branch (branches ys))) (concat (map declared_by_branch (branches ys))) (concat (map tried_by_branch (branches ys)))
  branches_pass [] h = (tt, tt)
  branches_pass (y ∷ ys) h =
      both_pass (in_branch y.0) (concatenated (map in_branch (branches ys))) (declared_by_branch y.0) (concat (map declared_by_branch (branches ys))) (tried_by_branch y.0) (concat (map tried_by_branch (branches ys)))
      y.1 (branches_pass ys) h

  abbrev branch_what_of : BranchWhat-F PassedBranchWhat PassedWhat PassedBranch PassedStmt → BranchWhat-F BranchWhat What Branch Stmt
  branch_what_of y = map-BranchWhat PassedBranchWhat PassedWhat PassedBranch PassedStmt BranchWhat What Branch Stmt (λ e. e.0) (λ e. e.0) (λ e. e.0) (λ e. e.0) y

  abbrev what_of : What-F PassedBranchWhat PassedWhat PassedBranch PassedStmt → What-F BranchWhat What Branch Stmt
  what_of y = map-What PassedBranchWhat PassedWhat PassedBranch PassedStmt BranchWhat What Branch Stmt (λ e. e.0) (λ e. e.0) (λ e. e.0) (λ e. e.0) y

  abbrev branch_of : Branch-F PassedBranchWhat PassedWhat PassedBranch PassedStmt → Branch-F BranchWhat What Branch Stmt
  branch_of y = map-Branch PassedBranchWhat PassedWhat PassedBranch PassedStmt BranchWhat What Branch Stmt (λ e. e.0) (λ e. e.0) (λ e. e.0) (λ e. e.0) y

  abbrev stmt_of : Stmt-F PassedBranchWhat PassedWhat PassedBranch PassedStmt → Stmt-F BranchWhat What Branch Stmt
  stmt_of y = map-Stmt PassedBranchWhat PassedWhat PassedBranch PassedStmt BranchWhat What Branch Stmt (λ e. e.0) (λ e. e.0) (λ e. e.0) (λ e. e.0) y

  branch_what_layer : (y : BranchWhat-F PassedBranchWhat PassedWhat PassedBranch PassedStmt)
      → Passes (branch_occurs (map-BranchWhat BranchWhat What Branch Stmt Texts Texts Texts Texts in_branch_what in_what in_branch in_stmt (branch_what_of y)))
      (branch_declares (map-BranchWhat BranchWhat What Branch Stmt Declarations Declarations Declarations Declarations declared_by_branch_what declared_by_what declared_by_branch stmt_declares (branch_what_of y)))
      (branch_tries (map-BranchWhat BranchWhat What Branch Stmt Texts Texts Texts Texts tried_by_branch_what tried_by_what tried_by_branch stmt_tries (branch_what_of y)))
  branch_what_layer (BranchWhat-F.BranchWhat::Block body) h = stmts_pass body h
  branch_what_layer (BranchWhat-F.BranchWhat::Call c) h = (tt, tt)

  abbrev texts : List PassedStmt → Texts
  texts ys = concatenated (map in_stmt (stmts ys))

  abbrev ds : List PassedStmt → Declarations
  ds ys = declarations_in (stmts ys)

  abbrev ts : List PassedStmt → Texts
  ts ys = tries_among (stmts ys)

  what_layer : (y : What-F PassedBranchWhat PassedWhat PassedBranch PassedStmt)
      → Passes (what_occurs (map-What BranchWhat What Branch Stmt Texts Texts Texts Texts in_branch_what in_what in_branch in_stmt (what_of y)))
      (what_declares (map-What BranchWhat What Branch Stmt Declarations Declarations Declarations Declarations declared_by_branch_what declared_by_what declared_by_branch stmt_declares (what_of y)))
      (what_tries (map-What BranchWhat What Branch Stmt Texts Texts Texts Texts tried_by_branch_what tried_by_what tried_by_branch stmt_tries (what_of y)))
  what_layer (What-F.Declare ty x e) h = ((h.0, tt), tt)
  what_layer (What-F.If e first other) h =
      behind_others (in_expr e) (texts first ++ texts other) (ds first ++ ds other) (ts first ++ ts other)
      (both_pass (texts first) (texts other) (ds first) (ds other) (ts first) (ts other) (stmts_pass first) (stmts_pass other)) h
  what_layer (What-F.While e body) h = behind_others (in_expr e) (texts body) (ds body) (ts body) (stmts_pass body) h
  what_layer (What-F.For first test step body) h =
      both_pass (texts first) (in_option test ++ (texts step ++ texts body)) (ds first) (ds step ++ ds body) (ts first) (ts step ++ ts body) (stmts_pass first)
      (behind_others (in_option test) (texts step ++ texts body) (ds step ++ ds body) (ts step ++ ts body)
      (both_pass (texts step) (texts body) (ds step) (ds body) (ts step) (ts body) (stmts_pass step) (stmts_pass body))) h
  what_layer (What-F.What::Block body) h = stmts_pass body h
  what_layer (What-F.Try body x y handler) h =
      try_passes x (texts body) (in_variable y ++ texts handler) (ds body) (declared_variable y ++ ds handler) (ts body) (ts handler) (stmts_pass body)
      (both_pass (in_variable y) (texts handler) (declared_variable y) (ds handler) [] (ts handler) (variable_passes y) (stmts_pass handler)) h
  what_layer (What-F.Par bs) h = branches_pass bs h
  what_layer _ h = (tt, tt)

  same_passes : (xs ys : Texts) (ds es : Declarations) (ts us : Texts) → xs ≡ ys → ds ≡ es → ts ≡ us → Passes ys es us → Passes xs ds ts
  same_passes xs ys ds es ts us p q r h = subst (λ x. Passes x ds ts) (sym p) (subst (λ d. Passes ys d ts) (sym q) (subst (λ t. Passes ys es t) (sym r) h))

  stmt_passes : (s : Stmt) → OfStmt s
  stmt_passes = ind-Stmt OfBranchWhat OfWhat OfBranch OfStmt
      (λ x y is. subst (λ z. OfBranchWhat (roll-BranchWhat z)) is (same_passes _ _ _ _ _ _
      (fold-roll-BranchWhat Texts Texts Texts Texts branch_occurs what_occurs (λ b. b.what) (λ s. s.what) (branch_what_of y))
      (fold-roll-BranchWhat Declarations Declarations Declarations Declarations branch_declares what_declares (λ b. b.what) (λ s. s.what) (branch_what_of y))
      (fold-roll-BranchWhat Texts Texts Texts Texts branch_tries what_tries (λ b. b.what) (λ s. s.what) (branch_what_of y)) (branch_what_layer y)))
      (λ x y is. subst (λ z. OfWhat (roll-What z)) is (same_passes _ _ _ _ _ _
      (fold-roll-What Texts Texts Texts Texts branch_occurs what_occurs (λ b. b.what) (λ s. s.what) (what_of y))
      (fold-roll-What Declarations Declarations Declarations Declarations branch_declares what_declares (λ b. b.what) (λ s. s.what) (what_of y))
      (fold-roll-What Texts Texts Texts Texts branch_tries what_tries (λ b. b.what) (λ s. s.what) (what_of y)) (what_layer y)))
      (λ x y is. subst (λ z. OfBranch (roll-Branch z)) is (same_passes _ _ _ _ _ _
      (fold-roll-Branch Texts Texts Texts Texts branch_occurs what_occurs (λ b. b.what) (λ s. s.what) (branch_of y))
      (fold-roll-Branch Declarations Declarations Declarations Declarations branch_declares what_declares (λ b. b.what) (λ s. s.what) (branch_of y))
      (fold-roll-Branch Texts Texts Texts Texts branch_tries what_tries (λ b. b.what) (λ s. s.what) (branch_of y)) y.what.1))
      (λ x y is. subst (λ z. OfStmt (roll-Stmt z)) is (same_passes _ _ _ _ _ _
      (fold-roll-Stmt Texts Texts Texts Texts branch_occurs what_occurs (λ b. b.what) (λ s. s.what) (stmt_of y))
      (fold-roll-Stmt Declarations Declarations Declarations Declarations branch_declares what_declares (λ b. b.what) (λ s. s.what) (stmt_of y))
      (fold-roll-Stmt Texts Texts Texts Texts branch_tries what_tries (λ b. b.what) (λ s. s.what) (stmt_of y)) y.what.1))

  pub body_passes : (body : List Stmt) → Passes (concatenated (map in_stmt body)) (declarations_in body) (tries_among body)
  body_passes [] h = (tt, tt)
  body_passes (s ∷ body) h = both_pass (in_stmt s) (concatenated (map in_stmt body)) (stmt_declares s) (declarations_in body) (stmt_tries s) (tries_among body) (stmt_passes s) (body_passes body) h
