-- Statements bind as before with their names replaced.
use Rattle.std.proofs.Common.{ℕ, ◌≡◌, ◌∙◌, List, [], ◌∷◌, map, refl, sym, ap, subst}
use Rattle.std.specs.Str.{bytes_eq}
use Rattle.shim_syntax.specs.declared.tree.Stmt.{Stmt}
use Rattle.shim_syntax.specs.declared.tree.What.{What, What-F, roll-What}
use Rattle.shim_syntax.specs.declared.tree.Branch.{Branch}
use Rattle.shim_syntax.specs.declared.tree.BranchWhat.{BranchWhat, BranchWhat-F, roll-BranchWhat}
use Rattle.shim_syntax.proofs.FormInduction.{InBranchWhat, InWhat, Each, each, each_stmt}
use Rattle.shim_scopes.specs.declared.scope.LocalDeclaration.{LocalDeclaration}
use Rattle.shim_scopes.specs.declared.tree.RWhat.TheVariants as bt
use Rattle.shim_scopes.specs.declared.tree.RBranchWhat.TheVariants as bb
use Rattle.shim_scopes.specs.Statements.{Whole, bind_block}
use Rattle.shim_scopes.specs.Bodies.{WhatMeans, StmtMeans, BranchWhatMeans, bind_all, bind_fork, first_declares, stmt_meaning, bind_stmts, bind_branch}
use Rattle.shim_scopes.proofs.MeaningSteps.{branch_what_means, what_means, branch_what_at, what_at, rolled_branch_what, rolled_what, branch_at, stmt_at, branch_means, stmt_means}
use Rattle.shim_up.specs.Renaming.{Renaming, renamed_stmt}
use Rattle.shim_laws_up.specs.Around.{local_renamed, whole_renamed, bound_renamed, Follows}
use Rattle.shim_laws_up.proofs.Around.{followed}
use Rattle.shim_laws_up.proofs.Statements.{declare_follows, store_follows, next_follows, assign_next_follows, get_follows, put_follows, throw_follows, block_follows, tree_follows, if_follows, while_follows, try_follows, for_follows}
use Rattle.shim_laws_up.proofs.Calls.{called_follows}
use Rattle.shim_laws_up.proofs.Layers.{branch_what_layer_renamed, what_layer_renamed, branch_what_below, what_below, new_branch_what, new_what, renamed_branch_what, renamed_what, renamed_branch, stmt_at_line, branch_at_line}

module _ (f : Renaming) (same : (x y : List ℕ) → bytes_eq (f x) (f y) ≡ bytes_eq x y) (w : Whole) where
  abbrev v : Whole
  v = whole_renamed f w

  abbrev locals : List LocalDeclaration → List LocalDeclaration
  locals around = map (local_renamed f) around

  abbrev BranchWhatsFollow : BranchWhatMeans → BranchWhatMeans → Type 0
  BranchWhatsFollow m n = (line : ℕ) → Follows f (m line) (n line)

  record WhatsFollow (m n : WhatMeans) : Type 0 where
    binds : (line : ℕ) → Follows f (m.bind line) (n.bind line)
    declares : (slot : ℕ) → n.declares slot ≡ locals (m.declares slot)

  record StmtsFollow (m n : StmtMeans) : Type 0 where
    binds : Follows f m.bind n.bind
    declares : (slot : ℕ) → n.declares slot ≡ locals (m.declares slot)

  abbrev OfBranchWhat : BranchWhat → Type 0
  OfBranchWhat x = BranchWhatsFollow (branch_what_means w x) (branch_what_means v (renamed_branch_what f x))

  abbrev OfWhat : What → Type 0
  OfWhat x = WhatsFollow (what_means w x) (what_means v (renamed_what f x))

  abbrev OfBranch : Branch → Type 0
  OfBranch b = Follows f (bind_branch w b) (bind_branch v (renamed_branch f b))

  abbrev OfStmt : Stmt → Type 0
  OfStmt s = StmtsFollow (stmt_meaning w s) (stmt_meaning v (renamed_stmt f s))

  abbrev old : List Stmt → List StmtMeans
  old body = map (stmt_meaning w) body

  abbrev new : List Stmt → List StmtMeans
  new body = map (stmt_meaning v) (map (renamed_stmt f) body)

  stmts_follow : (body : List Stmt) → Each OfStmt body → Follows f (bind_stmts w body) (bind_stmts v (map (renamed_stmt f) body))
  stmts_follow [] h a b = refl
  stmts_follow (s ∷ body) h a b =
      followed f (bound_renamed f) (bound_renamed f) ((stmt_meaning w s).bind a b) _ _ _ (h.0.binds a b) (λ r.
      followed f (bound_renamed f) (bound_renamed f) (bind_stmts w body a r.before) _ _ _ (stmts_follow body h.1 a r.before) (λ s. refl))

  first_follows : (body : List Stmt) → Each OfStmt body → (slot : ℕ) → first_declares (new body) slot ≡ locals (first_declares (old body) slot)
  first_follows [] h slot = refl
  first_follows (s ∷ body) h slot = h.0.declares slot

  branches_follow : (bs : List Branch) → Each OfBranch bs → Follows f (bind_fork (map (bind_branch w) bs)) (bind_fork (map (bind_branch v) (map (renamed_branch f) bs)))
  branches_follow [] h a b = refl
  branches_follow (x ∷ bs) h a b =
      followed f (bound_renamed f) (bound_renamed f) (bind_branch w x a b) _ _ _ (h.0 a b) (λ r.
      followed f (bound_renamed f) (bound_renamed f) (bind_fork (map (bind_branch w) bs) a r.before) _ _ _ (branches_follow bs h.1 a r.before) (λ s. refl))

  branch_what_layer : (y : BranchWhat-F BranchWhat What Branch Stmt) → InBranchWhat OfStmt y → BranchWhatsFollow (branch_what_at w y) (branch_what_at v (branch_what_layer_renamed f (branch_what_below f y)))
  branch_what_layer (BranchWhat-F.BranchWhat::Block body) h line =
      tree_follows f same bb.Block (bind_block (bind_all (old body))) (bind_block (bind_all (new body))) (block_follows f same (bind_all (old body)) (bind_all (new body)) (stmts_follow body h))
  branch_what_layer (BranchWhat-F.BranchWhat::Call c) h line = called_follows f same bb.Call w c line

  nothing_declared : (slot : ℕ) → (let none : List LocalDeclaration = [] in none) ≡ locals []
  nothing_declared slot = refl

  what_layer : (y : What-F BranchWhat What Branch Stmt) → InWhat OfBranch OfStmt y → WhatsFollow (what_at w y) (what_at v (what_layer_renamed f (what_below f y)))
  what_layer (What-F.Declare ty x e) h = record { binds = declare_follows f same w ty x e; declares = λ slot. refl }
  what_layer (What-F.Assign x e) h = record { binds = store_follows f same bt.Assign x e; declares = nothing_declared }
  what_layer (What-F.Next x) h = record { binds = next_follows f same x; declares = nothing_declared }
  what_layer (What-F.NextAssign x e) h = record { binds = store_follows f same bt.NextAssign x e; declares = nothing_declared }
  what_layer (What-F.AssignNext x y) h = record { binds = assign_next_follows f same x y; declares = nothing_declared }
  what_layer (What-F.Get x y) h = record { binds = get_follows f same x y; declares = nothing_declared }
  what_layer (What-F.Put x e) h = record { binds = put_follows f same x e; declares = nothing_declared }
  what_layer (What-F.If e first other) h = record {
    binds = λ line. if_follows f same e (bind_all (old first)) (bind_all (new first)) (bind_all (old other)) (bind_all (new other)) line (stmts_follow first h.0) (stmts_follow other h.1);
    declares = nothing_declared;
  }
  what_layer (What-F.While e body) h = record { binds = λ line. while_follows f same e (bind_all (old body)) (bind_all (new body)) line (stmts_follow body h); declares = nothing_declared }
  what_layer (What-F.For first test step body) h = record {
    binds = λ line. for_follows f same (first_declares (old first)) (first_declares (new first)) (first_follows first h.0) test (bind_all (old first)) (bind_all (new first))
        (bind_all (old step)) (bind_all (new step)) (bind_all (old body)) (bind_all (new body)) line (stmts_follow first h.0) (stmts_follow step h.1) (stmts_follow body h.2);
    declares = nothing_declared;
  }
  what_layer (What-F.What::Block body) h = record {
    binds = λ line. tree_follows f same bt.Block (bind_block (bind_all (old body))) (bind_block (bind_all (new body))) (block_follows f same (bind_all (old body)) (bind_all (new body)) (stmts_follow body h));
    declares = nothing_declared;
  }
  what_layer (What-F.What::Call c) h = record { binds = called_follows f same bt.Call w c; declares = nothing_declared }
  what_layer (What-F.Try body x y handler) h = record {
    binds = λ line. try_follows f same w x y (bind_all (old body)) (bind_all (new body)) (bind_all (old handler)) (bind_all (new handler)) (stmts_follow body h.0) (stmts_follow handler h.1);
    declares = nothing_declared;
  }
  what_layer (What-F.Throw x e) h = record { binds = throw_follows f same x e; declares = nothing_declared }
  what_layer (What-F.Par bs) h = record {
    binds = λ line. tree_follows f same bt.Par (bind_fork (map (bind_branch w) bs)) (bind_fork (map (bind_branch v) (map (renamed_branch f) bs))) (branches_follow bs h);
    declares = nothing_declared;
  }

  of_branch_what : (y : BranchWhat-F BranchWhat What Branch Stmt) → InBranchWhat OfStmt y → OfBranchWhat (roll-BranchWhat y)
  of_branch_what y h =
      subst (λ m. BranchWhatsFollow m (branch_what_means v (renamed_branch_what f (roll-BranchWhat y)))) (sym (rolled_branch_what w y))
      (subst (λ n. BranchWhatsFollow (branch_what_at w y) n) (sym (ap (branch_what_means v) (new_branch_what f y) ∙ rolled_branch_what v (branch_what_layer_renamed f (branch_what_below f y)))) (branch_what_layer y h))

  of_what : (y : What-F BranchWhat What Branch Stmt) → InWhat OfBranch OfStmt y → OfWhat (roll-What y)
  of_what y h =
      subst (λ m. WhatsFollow m (what_means v (renamed_what f (roll-What y)))) (sym (rolled_what w y))
      (subst (λ n. WhatsFollow (what_at w y) n) (sym (ap (what_means v) (new_what f y) ∙ rolled_what v (what_layer_renamed f (what_below f y)))) (what_layer y h))

  of_branch : (line : ℕ) (x : BranchWhat) → OfBranchWhat x → OfBranch (record { line = line; what = x })
  of_branch line x k =
      subst (λ m. Follows f m (bind_branch v (renamed_branch f (record { line = line; what = x })))) (sym (branch_means w line x))
      (subst (λ n. Follows f (branch_at w line x) n) (sym (ap (bind_branch v) (branch_at_line f line x) ∙ branch_means v line (renamed_branch_what f x)))
      (tree_follows f same (λ t. record { line = line; what = t }) (branch_what_means w x line) (branch_what_means v (renamed_branch_what f x) line) (k line)))

  of_stmt : (line : ℕ) (x : What) → OfWhat x → OfStmt (record { line = line; what = x })
  of_stmt line x k =
      subst (λ m. StmtsFollow m (stmt_meaning v (renamed_stmt f (record { line = line; what = x })))) (sym (stmt_means w line x))
      (subst (λ n. StmtsFollow (stmt_at w line x) n) (sym (ap (stmt_meaning v) (stmt_at_line f line x) ∙ stmt_means v line (renamed_what f x)))
      (record { binds = tree_follows f same (λ t. record { line = line; what = t }) ((what_means w x).bind line) ((what_means v (renamed_what f x)).bind line) (k.binds line); declares = k.declares }))

  pub body_follows : (body : List Stmt) → Follows f (bind_stmts w body) (bind_stmts v (map (renamed_stmt f) body))
  body_follows body = stmts_follow body (each OfStmt (each_stmt OfBranchWhat OfWhat OfBranch OfStmt of_branch_what of_what of_branch of_stmt) body)
