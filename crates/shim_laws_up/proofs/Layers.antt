-- Each layer of a statement with its names replaced.
use Rattle.std.proofs.Common.{ℕ, ◌≡◌, ◌∙◌, refl}
use Rattle.shim_syntax.specs.declared.tree.Stmt.{Stmt, fold-roll-Stmt}
use Rattle.shim_syntax.specs.declared.tree.What.{What, What-F, fold-What, fold-roll-What, map-What, roll-What}
use Rattle.shim_syntax.specs.declared.tree.Branch.{Branch, fold-Branch, fold-roll-Branch}
use Rattle.shim_syntax.specs.declared.tree.BranchWhat.{BranchWhat, BranchWhat-F, fold-BranchWhat, fold-roll-BranchWhat, map-BranchWhat, roll-BranchWhat}
use Rattle.shim_up.specs.Renaming as ren
use Rattle.shim_up.specs.Renaming.{Renaming, renamed_expr, renamed_option, renamed_variable, renamed_call, renamed_stmt}

-- a layer with its own names replaced
abbrev pub branch_what_layer_renamed : {A B C D : Type 0} → Renaming → BranchWhat-F A B C D → BranchWhat-F A B C D
branch_what_layer_renamed f (BranchWhat-F.BranchWhat::Block body) = BranchWhat-F.BranchWhat::Block body
branch_what_layer_renamed f (BranchWhat-F.BranchWhat::Call c) = BranchWhat-F.BranchWhat::Call (renamed_call f c)

abbrev pub what_layer_renamed : {A B C D : Type 0} → Renaming → What-F A B C D → What-F A B C D
what_layer_renamed f (What-F.Declare ty x a) = What-F.Declare ty (f x) (renamed_option f a)
what_layer_renamed f (What-F.Assign x a) = What-F.Assign (f x) (renamed_expr f a)
what_layer_renamed f (What-F.Next x) = What-F.Next (f x)
what_layer_renamed f (What-F.NextAssign x a) = What-F.NextAssign (f x) (renamed_expr f a)
what_layer_renamed f (What-F.AssignNext x y) = What-F.AssignNext (f x) (f y)
what_layer_renamed f (What-F.Get x y) = What-F.Get (f x) (f y)
what_layer_renamed f (What-F.Put x a) = What-F.Put (f x) (renamed_expr f a)
what_layer_renamed f (What-F.If test first other) = What-F.If (renamed_expr f test) first other
what_layer_renamed f (What-F.While test body) = What-F.While (renamed_expr f test) body
what_layer_renamed f (What-F.For first test step body) = What-F.For first (renamed_option f test) step body
what_layer_renamed f (What-F.What::Block body) = What-F.What::Block body
what_layer_renamed f (What-F.What::Call c) = What-F.What::Call (renamed_call f c)
what_layer_renamed f (What-F.Try body x y handler) = What-F.Try body (f x) (renamed_variable f y) handler
what_layer_renamed f (What-F.Throw x a) = What-F.Throw (f x) (renamed_option f a)
what_layer_renamed f (What-F.Par branches) = What-F.Par branches

branch_what_rolled : (f : Renaming) (z : BranchWhat-F BranchWhat What Branch Stmt) → ren.rename_branch_what_step f z ≡ roll-BranchWhat (branch_what_layer_renamed f z)
unfolding roll-BranchWhat denote.Hole.Carrier.roll
branch_what_rolled f (BranchWhat-F.BranchWhat::Block body) = refl
branch_what_rolled f (BranchWhat-F.BranchWhat::Call c) = refl

what_rolled : (f : Renaming) (z : What-F BranchWhat What Branch Stmt) → ren.rename_what_step f z ≡ roll-What (what_layer_renamed f z)
unfolding roll-What denote.Hole.Carrier.roll
what_rolled f (What-F.Declare ty x a) = refl
what_rolled f (What-F.Assign x a) = refl
what_rolled f (What-F.Next x) = refl
what_rolled f (What-F.NextAssign x a) = refl
what_rolled f (What-F.AssignNext x y) = refl
what_rolled f (What-F.Get x y) = refl
what_rolled f (What-F.Put x a) = refl
what_rolled f (What-F.If test first other) = refl
what_rolled f (What-F.While test body) = refl
what_rolled f (What-F.For first test step body) = refl
what_rolled f (What-F.What::Block body) = refl
what_rolled f (What-F.What::Call c) = refl
what_rolled f (What-F.Try body x y handler) = refl
what_rolled f (What-F.Throw x a) = refl
what_rolled f (What-F.Par branches) = refl

module _ (f : Renaming) where
  abbrev pub renamed_branch_what : BranchWhat → BranchWhat
  renamed_branch_what = fold-BranchWhat BranchWhat What Branch Stmt (ren.rename_branch_what_step f) (ren.rename_what_step f) ren.rename_branch_step ren.rename_stmt_step

  abbrev pub renamed_what : What → What
  renamed_what = fold-What BranchWhat What Branch Stmt (ren.rename_branch_what_step f) (ren.rename_what_step f) ren.rename_branch_step ren.rename_stmt_step

  abbrev pub renamed_branch : Branch → Branch
  renamed_branch = fold-Branch BranchWhat What Branch Stmt (ren.rename_branch_what_step f) (ren.rename_what_step f) ren.rename_branch_step ren.rename_stmt_step

  pub stmt_at_line : (line : ℕ) (x : What) → renamed_stmt f (record { line = line; what = x }) ≡ record { line = line; what = renamed_what x }
  stmt_at_line line x = fold-roll-Stmt BranchWhat What Branch Stmt (ren.rename_branch_what_step f) (ren.rename_what_step f) ren.rename_branch_step ren.rename_stmt_step (record { line = line; what = x })

  pub branch_at_line : (line : ℕ) (x : BranchWhat) → renamed_branch (record { line = line; what = x }) ≡ record { line = line; what = renamed_branch_what x }
  branch_at_line line x = fold-roll-Branch BranchWhat What Branch Stmt (ren.rename_branch_what_step f) (ren.rename_what_step f) ren.rename_branch_step ren.rename_stmt_step (record { line = line; what = x })

  -- the names below replaced
  abbrev pub branch_what_below : BranchWhat-F BranchWhat What Branch Stmt → BranchWhat-F BranchWhat What Branch Stmt
  branch_what_below z = map-BranchWhat BranchWhat What Branch Stmt BranchWhat What Branch Stmt renamed_branch_what renamed_what renamed_branch (renamed_stmt f) z

  abbrev pub what_below : What-F BranchWhat What Branch Stmt → What-F BranchWhat What Branch Stmt
  what_below z = map-What BranchWhat What Branch Stmt BranchWhat What Branch Stmt renamed_branch_what renamed_what renamed_branch (renamed_stmt f) z

  pub new_branch_what : (z : BranchWhat-F BranchWhat What Branch Stmt) → renamed_branch_what (roll-BranchWhat z) ≡ roll-BranchWhat (branch_what_layer_renamed f (branch_what_below z))
  new_branch_what z = fold-roll-BranchWhat BranchWhat What Branch Stmt (ren.rename_branch_what_step f) (ren.rename_what_step f) ren.rename_branch_step ren.rename_stmt_step z ∙ branch_what_rolled f (branch_what_below z)

  pub new_what : (z : What-F BranchWhat What Branch Stmt) → renamed_what (roll-What z) ≡ roll-What (what_layer_renamed f (what_below z))
  new_what z = fold-roll-What BranchWhat What Branch Stmt (ren.rename_branch_what_step f) (ren.rename_what_step f) ren.rename_branch_step ren.rename_stmt_step z ∙ what_rolled f (what_below z)
