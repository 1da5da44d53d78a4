-- The names put back in a bound statement give the statement.
use Rattle.std.proofs.Common.{ℕ, ◌≡◌, ◌∙◌, List, [], ◌∷◌, ◌++◌, length, map, refl, sym, ap, subst}
use Rattle.shim_syntax.specs.declared.tree.Stmt.{Stmt, Stmt-F, fold-roll-Stmt, ind-Stmt, map-Stmt, roll-Stmt}
use Rattle.shim_syntax.specs.declared.tree.What.{What, What-F, fold-roll-What, map-What, roll-What}
use Rattle.shim_syntax.specs.declared.tree.What.TheVariants as st
use Rattle.shim_syntax.specs.declared.tree.Branch.{Branch, Branch-F, fold-roll-Branch, map-Branch, roll-Branch}
use Rattle.shim_syntax.specs.declared.tree.BranchWhat.{BranchWhat, BranchWhat-F, fold-roll-BranchWhat, map-BranchWhat, roll-BranchWhat}
use Rattle.shim_syntax.specs.declared.tree.BranchWhat.TheVariants as br
use Rattle.shim_scopes.specs.declared.scope.LocalDeclaration.{LocalDeclaration}
use Rattle.shim_scopes.specs.declared.tree.RStmt.{RStmt}
use Rattle.shim_scopes.specs.declared.tree.RBranch.{RBranch}
use Rattle.shim_scopes.specs.declared.tree.RWhat.{RWhat}
use Rattle.shim_scopes.specs.declared.tree.RWhat.TheVariants as bt
use Rattle.shim_scopes.specs.declared.tree.RBranchWhat.{RBranchWhat}
use Rattle.shim_scopes.specs.declared.tree.RBranchWhat.TheVariants as bb
use Rattle.shim_syntax.specs.Names.{Texts}
use Rattle.shim_scopes.specs.Statements.{Whole, Bind}
use Rattle.shim_scopes.specs.Bodies.{WhatMeans, StmtMeans, BranchMeans, BranchWhatMeans, bind_all, bind_fork, first_declares, bind_branch_what_step, bind_what_step, bind_branch_step, bind_stmt_step, stmt_meaning, bind_stmts, bind_branch}
use Rattle.shim_scopes.specs.declared.tree.RCall.{RCall}
use Rattle.shim_laws_binding.specs.Naming.{Naming, stmt_named}
use Rattle.shim_laws_binding.specs.TextOrder.{Declarations, concat, branch_declares, what_declares, stmt_declares, declarations_in, branch_tries, what_tries, stmt_tries, tries_among}
use Rattle.shim_laws_binding.specs.HandedOn.{stmt_calls, calls_among}
use Rattle.shim_laws_binding.proofs.Growth.{Grows, declared_by_branch_what, declared_by_what, declared_by_branch, tried_by_branch_what, tried_by_what, tried_by_branch, branch_what_means, what_means, stmt_grows, branch_grows, body_grows}
use Rattle.shim_laws_binding.proofs.NamedSteps.{branch_what_named, what_named, branch_named, stmts_named, branches_named, named_stmt, named_branch, named_block, named_call, named_par, named_block_branch, named_call_branch}
use Rattle.shim_laws_binding.proofs.Lists.{each_of_both}
use Rattle.shim_laws_binding.proofs.CallSteps.{calls_of_branch_what, calls_of_branch, calls_of_branches, calls_stmt, calls_branch, calls_block, calls_call, calls_par, calls_block_branch, calls_call_branch}
use Rattle.shim_laws_binding.proofs.NamedParts.{ReadBack, whats, bodies, HoldsOfCalls, GoesBack, first_to_come, next_to_come, answered, after_named, block_back, tree_back, declare_back, assign_back, next_assign_back, put_back, next_back, assign_next_back, get_back, throw_back, FunctionsNamed, called_back, if_back, while_back, try_back, for_back}
use Rattle.shim_scopes.proofs.Refusals.{first_ok}

module _ (n : Naming) (H : RCall → Type 0) (w : Whole) (functions : FunctionsNamed n H w) (holds : HoldsOfCalls n H w) where
  abbrev branch_whats : ReadBack RBranchWhat BranchWhat
  branch_whats = record { named = branch_what_named n; calls = calls_of_branch_what }

  abbrev one_branch : ReadBack RBranch Branch
  one_branch = record { named = branch_named n; calls = calls_of_branch }

  abbrev all_branches : ReadBack (List RBranch) (List Branch)
  all_branches = record { named = branches_named n; calls = calls_of_branches }

  abbrev one_stmt : ReadBack RStmt Stmt
  one_stmt = record { named = stmt_named n; calls = stmt_calls }

  abbrev OfBranchWhat : BranchWhat → Type 0
  OfBranchWhat x = (line : ℕ) → GoesBack n H branch_whats x (declared_by_branch_what w x) (tried_by_branch_what w x) (branch_what_means w x line)

  abbrev OfWhat : What → Type 0
  OfWhat x = (line : ℕ) → GoesBack n H (whats n) x (declared_by_what w x) (tried_by_what w x) ((what_means w x).bind line)

  abbrev OfBranch : Branch → Type 0
  OfBranch b = GoesBack n H one_branch b (declared_by_branch w b) (tried_by_branch w b) (bind_branch w b)

  abbrev OfStmt : Stmt → Type 0
  OfStmt s = GoesBack n H one_stmt s (stmt_declares s) (stmt_tries s) (stmt_meaning w s).bind

  -- a part that goes back
  abbrev BackBranchWhat : Type 0
  BackBranchWhat = (x : BranchWhat) × OfBranchWhat x

  abbrev BackWhat : Type 0
  BackWhat = (x : What) × OfWhat x

  abbrev BackBranch : Type 0
  BackBranch = (b : Branch) × OfBranch b

  abbrev BackStmt : Type 0
  BackStmt = (s : Stmt) × OfStmt s

  abbrev stmts : List BackStmt → List Stmt
  stmts ys = map (λ (e : BackStmt). e.0) ys

  abbrev branches : List BackBranch → List Branch
  branches ys = map (λ (e : BackBranch). e.0) ys

  one_then : (s : Stmt) (body : List Stmt) → OfStmt s → GoesBack n H (bodies n) body (declarations_in body) (tries_among body) (bind_all (map (stmt_meaning w) body))
      → GoesBack n H (bodies n) (s ∷ body) (stmt_declares s ++ declarations_in body) (stmt_tries s ++ tries_among body) (bind_all (map (stmt_meaning w) (s ∷ body)))
  one_then s body k l a b r is named t =
      let p = first_ok ((stmt_meaning w s).bind a b) _ r is in
      let q = first_ok (bind_all (map (stmt_meaning w) body) a p.0.before) _ r p.2 in
      let pb = k a b p.0 p.1 named (first_to_come n a b (stmt_declares s) (declarations_in body) (stmt_tries s) (tries_among body) t) in
      let qb = l a p.0.before q.0 q.1 (after_named n a b p.0.before named pb.own)
      (next_to_come n w.names ((stmt_meaning w s).declares (length b.slots)) a b p.0.before (stmt_declares s) (declarations_in body) (stmt_tries s) (tries_among body) (stmt_grows w s a b p.0 p.1) t) in
      answered n H (bodies n) (s ∷ body) (p.0.tree ∷ q.0.tree) q.0.before r q.2 (ap (λ y. y ∷ stmts_named n q.0.tree) pb.tree ∙ ap (λ ys. s ∷ ys) qb.tree) qb.own
      (each_of_both H (stmt_calls p.0.tree) (calls_among q.0.tree) pb.calls qb.calls)

  stmts_back : (ys : List BackStmt) → GoesBack n H (bodies n) (stmts ys) (declarations_in (stmts ys)) (tries_among (stmts ys)) (bind_all (map (stmt_meaning w) (stmts ys)))
  stmts_back [] a b r is named t = answered n H (bodies n) [] [] b r is refl named.own tt
  stmts_back (y ∷ ys) a b r is named t = one_then y.0 (stmts ys) y.1 (stmts_back ys) a b r is named t

  one_branch_then : (c : Branch) (bs : List Branch) → OfBranch c
      → GoesBack n H all_branches bs (concat (map (declared_by_branch w) bs)) (concat (map (tried_by_branch w) bs)) (bind_fork (map (bind_branch w) bs))
      → GoesBack n H all_branches (c ∷ bs) (concat (map (declared_by_branch w) (c ∷ bs))) (concat (map (tried_by_branch w) (c ∷ bs))) (bind_fork (map (bind_branch w) (c ∷ bs)))
  one_branch_then c bs k l a b r is named t =
      let ds = concat (map (declared_by_branch w) bs) in
      let ts = concat (map (tried_by_branch w) bs) in
      let p = first_ok (bind_branch w c a b) _ r is in
      let q = first_ok (bind_fork (map (bind_branch w) bs) a p.0.before) _ r p.2 in
      let pb = k a b p.0 p.1 named (first_to_come n a b (declared_by_branch w c) ds (tried_by_branch w c) ts t) in
      let qb = l a p.0.before q.0 q.1 (after_named n a b p.0.before named pb.own)
      (next_to_come n w.names [] a b p.0.before (declared_by_branch w c) ds (tried_by_branch w c) ts (branch_grows w c a b p.0 p.1) t) in
      answered n H all_branches (c ∷ bs) (p.0.tree ∷ q.0.tree) q.0.before r q.2 (ap (λ y. y ∷ branches_named n q.0.tree) pb.tree ∙ ap (λ ys. c ∷ ys) qb.tree) qb.own
      (each_of_both H (calls_of_branch p.0.tree) (calls_of_branches q.0.tree) pb.calls qb.calls)

  branches_back : (ys : List BackBranch)
      → GoesBack n H all_branches (branches ys) (concat (map (declared_by_branch w) (branches ys))) (concat (map (tried_by_branch w) (branches ys))) (bind_fork (map (bind_branch w) (branches ys)))
  branches_back [] a b r is named t = answered n H all_branches [] [] b r is refl named.own tt
  branches_back (y ∷ ys) a b r is named t = one_branch_then y.0 (branches ys) y.1 (branches_back ys) a b r is named t

  abbrev branch_what_of : BranchWhat-F BackBranchWhat BackWhat BackBranch BackStmt → BranchWhat-F BranchWhat What Branch Stmt
  branch_what_of y = map-BranchWhat BackBranchWhat BackWhat BackBranch BackStmt BranchWhat What Branch Stmt (λ e. e.0) (λ e. e.0) (λ e. e.0) (λ e. e.0) y

  abbrev what_of : What-F BackBranchWhat BackWhat BackBranch BackStmt → What-F BranchWhat What Branch Stmt
  what_of y = map-What BackBranchWhat BackWhat BackBranch BackStmt BranchWhat What Branch Stmt (λ e. e.0) (λ e. e.0) (λ e. e.0) (λ e. e.0) y

  abbrev branch_of : Branch-F BackBranchWhat BackWhat BackBranch BackStmt → Branch-F BranchWhat What Branch Stmt
  branch_of y = map-Branch BackBranchWhat BackWhat BackBranch BackStmt BranchWhat What Branch Stmt (λ e. e.0) (λ e. e.0) (λ e. e.0) (λ e. e.0) y

  abbrev stmt_of : Stmt-F BackBranchWhat BackWhat BackBranch BackStmt → Stmt-F BranchWhat What Branch Stmt
  stmt_of y = map-Stmt BackBranchWhat BackWhat BackBranch BackStmt BranchWhat What Branch Stmt (λ e. e.0) (λ e. e.0) (λ e. e.0) (λ e. e.0) y

  abbrev declared_at : BranchWhat-F BackBranchWhat BackWhat BackBranch BackStmt → Declarations
  declared_at y =
      branch_declares (map-BranchWhat BranchWhat What Branch Stmt Declarations Declarations Declarations Declarations (declared_by_branch_what w) (declared_by_what w) (declared_by_branch w) stmt_declares (branch_what_of y))

  abbrev tried_at : BranchWhat-F BackBranchWhat BackWhat BackBranch BackStmt → Texts
  tried_at y = branch_tries (map-BranchWhat BranchWhat What Branch Stmt Texts Texts Texts Texts (tried_by_branch_what w) (tried_by_what w) (tried_by_branch w) stmt_tries (branch_what_of y))

  abbrev means_at : BranchWhat-F BackBranchWhat BackWhat BackBranch BackStmt → BranchWhatMeans
  means_at y =
      bind_branch_what_step w (map-BranchWhat BranchWhat What Branch Stmt BranchWhatMeans WhatMeans BranchMeans StmtMeans (branch_what_means w) (what_means w) (bind_branch w) (stmt_meaning w) (branch_what_of y))

  branch_what_layer : (y : BranchWhat-F BackBranchWhat BackWhat BackBranch BackStmt) (line : ℕ)
      → GoesBack n H branch_whats (roll-BranchWhat (branch_what_of y)) (declared_at y) (tried_at y) (means_at y line)
  unfolding roll-BranchWhat denote.Hole.Carrier.roll
  branch_what_layer (BranchWhat-F.BranchWhat::Block body) line =
      tree_back n H (bodies n) (stmts body) branch_whats (br.Block (stmts body)) bb.Block _ _ _ (λ x e. named_block_branch n x ∙ ap br.Block e) calls_block_branch (block_back n H (bodies n) (stmts body) _ _ _ (stmts_back body))
  branch_what_layer (BranchWhat-F.BranchWhat::Call c) line = called_back n H w functions holds branch_whats br.Call bb.Call c line (named_call_branch n) calls_call_branch

  abbrev what_declared_at : What-F BackBranchWhat BackWhat BackBranch BackStmt → Declarations
  what_declared_at y = what_declares (map-What BranchWhat What Branch Stmt Declarations Declarations Declarations Declarations (declared_by_branch_what w) (declared_by_what w) (declared_by_branch w) stmt_declares (what_of y))

  abbrev what_tried_at : What-F BackBranchWhat BackWhat BackBranch BackStmt → Texts
  what_tried_at y = what_tries (map-What BranchWhat What Branch Stmt Texts Texts Texts Texts (tried_by_branch_what w) (tried_by_what w) (tried_by_branch w) stmt_tries (what_of y))

  abbrev what_means_at : What-F BackBranchWhat BackWhat BackBranch BackStmt → WhatMeans
  what_means_at y = bind_what_step w (map-What BranchWhat What Branch Stmt BranchWhatMeans WhatMeans BranchMeans StmtMeans (branch_what_means w) (what_means w) (bind_branch w) (stmt_meaning w) (what_of y))

  abbrev first_of : List BackStmt → ℕ → List LocalDeclaration
  first_of ys = first_declares (map (stmt_meaning w) (stmts ys))

  stmts_grow : (ys : List BackStmt) → Grows w.names (first_of ys) (declarations_in (stmts ys)) (tries_among (stmts ys)) (bind_all (map (stmt_meaning w) (stmts ys)))
  stmts_grow ys = body_grows w (stmts ys)

  what_layer : (y : What-F BackBranchWhat BackWhat BackBranch BackStmt) (line : ℕ) → GoesBack n H (whats n) (roll-What (what_of y)) (what_declared_at y) (what_tried_at y) ((what_means_at y).bind line)
  unfolding roll-What denote.Hole.Carrier.roll
  what_layer (What-F.Declare ty x e) line = declare_back n H w ty x e line
  what_layer (What-F.Assign x e) line = assign_back n H w x e line
  what_layer (What-F.Next x) line = next_back n H w x line
  what_layer (What-F.NextAssign x e) line = next_assign_back n H w x e line
  what_layer (What-F.AssignNext x y) line = assign_next_back n H w x y line
  what_layer (What-F.Get x y) line = get_back n H w x y line
  what_layer (What-F.Put x e) line = put_back n H w x e line
  what_layer (What-F.If e first other) line =
      if_back n H w e (stmts first) (stmts other) (first_of first) (declarations_in (stmts first)) (declarations_in (stmts other)) (tries_among (stmts first)) (tries_among (stmts other)) _ _ line
      (stmts_grow first) (stmts_back first) (stmts_back other)
  what_layer (What-F.While e body) line = while_back n H w e (stmts body) (declarations_in (stmts body)) (tries_among (stmts body)) _ line (stmts_back body)
  what_layer (What-F.For first test step body) line =
      for_back n H w (first_of first) test (stmts first) (stmts step) (stmts body) (first_of step) (first_of body) (declarations_in (stmts first)) (declarations_in (stmts step)) (declarations_in (stmts body))
      (tries_among (stmts first)) (tries_among (stmts step)) (tries_among (stmts body)) _ _ _ line (stmts_grow first) (stmts_grow step) (stmts_back first) (stmts_back step) (stmts_back body)
  what_layer (What-F.What::Block body) line =
      tree_back n H (bodies n) (stmts body) (whats n) (st.Block (stmts body)) bt.Block _ _ _ (λ x e. named_block n x ∙ ap st.Block e) calls_block (block_back n H (bodies n) (stmts body) _ _ _ (stmts_back body))
  what_layer (What-F.What::Call c) line = called_back n H w functions holds (whats n) st.Call bt.Call c line (named_call n) calls_call
  what_layer (What-F.Try body x y handler) line =
      try_back n H w x y (stmts body) (stmts handler) (first_of body) (declarations_in (stmts body)) (declarations_in (stmts handler)) (tries_among (stmts body)) (tries_among (stmts handler)) _ _
      (stmts_grow body) (stmts_back body) (stmts_back handler)
  what_layer (What-F.Throw x e) line = throw_back n H w x e line
  what_layer (What-F.Par bs) line = tree_back n H all_branches (branches bs) (whats n) (st.Par (branches bs)) bt.Par _ _ _ (λ x e. named_par n x ∙ ap st.Par e) calls_par (branches_back bs)

  -- the same, of a part and lists that are equal to these
  same_back : {T S : Type 0} (back : ReadBack T S) (s : S) (ds es : Declarations) (ts us : Texts) (f g : Bind T) → ds ≡ es → ts ≡ us → f ≡ g → GoesBack n H back s es us g → GoesBack n H back s ds ts f
  same_back back s ds es ts us f g p q e h =
      subst (λ d. GoesBack n H back s d ts f) (sym p) (subst (λ t. GoesBack n H back s es t f) (sym q) (subst (λ k. GoesBack n H back s es us k) (sym e) h))

  branch_what_case : (x : BranchWhat-F BranchWhat What Branch Stmt) (y : BranchWhat-F BackBranchWhat BackWhat BackBranch BackStmt) → branch_what_of y ≡ x → OfBranchWhat (roll-BranchWhat x)
  branch_what_case x y is = subst (λ z. OfBranchWhat (roll-BranchWhat z)) is (λ line.
      same_back branch_whats (roll-BranchWhat (branch_what_of y)) _ _ _ _ _ _
      (fold-roll-BranchWhat Declarations Declarations Declarations Declarations branch_declares what_declares (λ b. b.what) (λ s. s.what) (branch_what_of y))
      (fold-roll-BranchWhat Texts Texts Texts Texts branch_tries what_tries (λ b. b.what) (λ s. s.what) (branch_what_of y))
      (ap (λ (k : BranchWhatMeans). k line) (fold-roll-BranchWhat BranchWhatMeans WhatMeans BranchMeans StmtMeans (bind_branch_what_step w) (bind_what_step w) bind_branch_step bind_stmt_step (branch_what_of y)))
      (branch_what_layer y line))

  what_case : (x : What-F BranchWhat What Branch Stmt) (y : What-F BackBranchWhat BackWhat BackBranch BackStmt) → what_of y ≡ x → OfWhat (roll-What x)
  what_case x y is = subst (λ z. OfWhat (roll-What z)) is (λ line.
      same_back (whats n) (roll-What (what_of y)) _ _ _ _ _ _
      (fold-roll-What Declarations Declarations Declarations Declarations branch_declares what_declares (λ b. b.what) (λ s. s.what) (what_of y))
      (fold-roll-What Texts Texts Texts Texts branch_tries what_tries (λ b. b.what) (λ s. s.what) (what_of y))
      (ap (λ (k : WhatMeans). k.bind line) (fold-roll-What BranchWhatMeans WhatMeans BranchMeans StmtMeans (bind_branch_what_step w) (bind_what_step w) bind_branch_step bind_stmt_step (what_of y)))
      (what_layer y line))

  line_and_branch : (line : ℕ) (x : BranchWhat) (t : RBranchWhat) → branch_what_named n t ≡ x → branch_named n (record { line = line; what = t }) ≡ record { line = line; what = x }
  line_and_branch line x t e = named_branch n line t ∙ ap (λ (y : BranchWhat). let b : Branch = record { line = line; what = y } in b) e

  branch_case : (x : Branch-F BranchWhat What Branch Stmt) (y : Branch-F BackBranchWhat BackWhat BackBranch BackStmt) → branch_of y ≡ x → OfBranch (roll-Branch x)
  branch_case x y is = subst (λ z. OfBranch (roll-Branch z)) is
      (same_back one_branch (roll-Branch (branch_of y)) _ _ _ _ _ _
      (fold-roll-Branch Declarations Declarations Declarations Declarations branch_declares what_declares (λ b. b.what) (λ s. s.what) (branch_of y))
      (fold-roll-Branch Texts Texts Texts Texts branch_tries what_tries (λ b. b.what) (λ s. s.what) (branch_of y))
      (fold-roll-Branch BranchWhatMeans WhatMeans BranchMeans StmtMeans (bind_branch_what_step w) (bind_what_step w) bind_branch_step bind_stmt_step (branch_of y))
      (tree_back n H branch_whats y.what.0 one_branch (roll-Branch (branch_of y)) (λ t. record { line = y.line; what = t }) _ _ _ (line_and_branch y.line y.what.0) (calls_branch y.line) (y.what.1 y.line)))

  line_and_stmt : (line : ℕ) (x : What) (t : RWhat) → what_named n t ≡ x → stmt_named n (record { line = line; what = t }) ≡ record { line = line; what = x }
  line_and_stmt line x t e = named_stmt n line t ∙ ap (λ (y : What). let s : Stmt = record { line = line; what = y } in s) e

  stmt_case : (x : Stmt-F BranchWhat What Branch Stmt) (y : Stmt-F BackBranchWhat BackWhat BackBranch BackStmt) → stmt_of y ≡ x → OfStmt (roll-Stmt x)
  stmt_case x y is = subst (λ z. OfStmt (roll-Stmt z)) is
      (same_back one_stmt (roll-Stmt (stmt_of y)) _ _ _ _ _ _
      (fold-roll-Stmt Declarations Declarations Declarations Declarations branch_declares what_declares (λ b. b.what) (λ s. s.what) (stmt_of y))
      (fold-roll-Stmt Texts Texts Texts Texts branch_tries what_tries (λ b. b.what) (λ s. s.what) (stmt_of y))
      (ap (λ (k : StmtMeans). k.bind) (fold-roll-Stmt BranchWhatMeans WhatMeans BranchMeans StmtMeans (bind_branch_what_step w) (bind_what_step w) bind_branch_step bind_stmt_step (stmt_of y)))
      (tree_back n H (whats n) y.what.0 one_stmt (roll-Stmt (stmt_of y)) (λ t. record { line = y.line; what = t }) _ _ _ (line_and_stmt y.line y.what.0) (calls_stmt y.line) (y.what.1 y.line)))

  stmt_back : (s : Stmt) → OfStmt s
  stmt_back = ind-Stmt OfBranchWhat OfWhat OfBranch OfStmt branch_what_case what_case branch_case stmt_case

  pub body_back : (body : List Stmt) → GoesBack n H (bodies n) body (declarations_in body) (tries_among body) (bind_stmts w body)
  body_back [] a b r is named t = answered n H (bodies n) [] [] b r is refl named.own tt
  body_back (s ∷ body) a b r is named t = one_then s body (stmt_back s) (body_back body) a b r is named t
