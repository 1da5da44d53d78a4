-- Each form of an expression and of a statement with its names replaced.
use Rattle.std.proofs.Common.{ℕ, ℤ, ◌≡◌, ◌∙◌, List, Option, map, ap}
use Rattle.shim_base.specs.declared.types.Ty.{Ty}
use Rattle.shim_base.specs.declared.operators.BinOp.{BinOp}
use Rattle.shim_base.specs.declared.operators.UnOp.{UnOp}
use Rattle.shim_syntax.specs.declared.tree.Expr.{Expr, Expr-F, fold-roll-Expr, roll-Expr}
use Rattle.shim_syntax.specs.declared.tree.Expr.TheVariants as e
use Rattle.shim_syntax.specs.declared.tree.Call.{Call}
use Rattle.shim_syntax.specs.declared.tree.Stmt.{Stmt}
use Rattle.shim_syntax.specs.declared.tree.What.{What, What-F, fold-roll-What, map-What, roll-What}
use Rattle.shim_syntax.specs.declared.tree.What.TheVariants as st
use Rattle.shim_syntax.specs.declared.tree.Branch.{Branch}
use Rattle.shim_syntax.specs.declared.tree.BranchWhat.{BranchWhat, BranchWhat-F, fold-roll-BranchWhat, map-BranchWhat, roll-BranchWhat}
use Rattle.shim_syntax.specs.declared.tree.BranchWhat.TheVariants as br
use Rattle.shim_up.specs.Renaming as ren
use Rattle.shim_up.specs.Renaming.{Renaming, rename_expr_step, renamed_expr, renamed_option, renamed_variable, renamed_call, renamed_stmt}
use Rattle.shim_laws_up.proofs.Layers.{renamed_branch_what, renamed_what, renamed_branch, stmt_at_line, branch_at_line}

pub renamed_number : (f : Renaming) (n : ℤ) → renamed_expr f (e.Number n) ≡ e.Number n
unfolding renamed_expr roll-Expr denote.Hole.Carrier.roll
renamed_number f n = fold-roll-Expr (Expr) (rename_expr_step f) (Expr-F.Number n)

pub name_renamed : (f : Renaming) (x : List ℕ) → renamed_expr f (e.Var x) ≡ e.Var (f x)
unfolding renamed_expr roll-Expr denote.Hole.Carrier.roll
name_renamed f x = fold-roll-Expr (Expr) (rename_expr_step f) (Expr-F.Var x)

pub renamed_unary : (f : Renaming) (op : UnOp) (a : Expr) → renamed_expr f (e.Unary op a) ≡ e.Unary op (renamed_expr f a)
unfolding renamed_expr roll-Expr denote.Hole.Carrier.roll
renamed_unary f op a = fold-roll-Expr (Expr) (rename_expr_step f) (Expr-F.Unary op a)

pub renamed_binary : (f : Renaming) (op : BinOp) (a b : Expr) → renamed_expr f (e.Binary op a b) ≡ e.Binary op (renamed_expr f a) (renamed_expr f b)
unfolding renamed_expr roll-Expr denote.Hole.Carrier.roll
renamed_binary f op a b = fold-roll-Expr (Expr) (rename_expr_step f) (Expr-F.Binary op a b)

module _ (f : Renaming) where
  abbrev made : ℕ → What → Stmt
  made line x = record { line = line; what = x }

  abbrev made_branch : ℕ → BranchWhat → Branch
  made_branch line x = record { line = line; what = x }

  at_what : (y : What-F BranchWhat What Branch Stmt) → renamed_what f (roll-What y) ≡ ren.rename_what_step f (map-What BranchWhat What Branch Stmt BranchWhat What Branch Stmt (renamed_branch_what f) (renamed_what f) (renamed_branch f) (renamed_stmt f) y)
  at_what y = fold-roll-What BranchWhat What Branch Stmt (ren.rename_branch_what_step f) (ren.rename_what_step f) ren.rename_branch_step ren.rename_stmt_step y

  at_branch_what : (y : BranchWhat-F BranchWhat What Branch Stmt)
      → renamed_branch_what f (roll-BranchWhat y) ≡ ren.rename_branch_what_step f (map-BranchWhat BranchWhat What Branch Stmt BranchWhat What Branch Stmt (renamed_branch_what f) (renamed_what f) (renamed_branch f) (renamed_stmt f) y)
  at_branch_what y = fold-roll-BranchWhat BranchWhat What Branch Stmt (ren.rename_branch_what_step f) (ren.rename_what_step f) ren.rename_branch_step ren.rename_stmt_step y

  pub declare_renamed : (line : ℕ) (ty : Ty) (x : List ℕ) (a : Option Expr) → renamed_stmt f (made line (st.Declare ty x a)) ≡ made line (st.Declare ty (f x) (renamed_option f a))
  unfolding roll-What denote.Hole.Carrier.roll
  declare_renamed line ty x a = stmt_at_line f line (st.Declare ty x a) ∙ ap (made line) (at_what (What-F.Declare ty x a))

  pub assign_renamed : (line : ℕ) (x : List ℕ) (a : Expr) → renamed_stmt f (made line (st.Assign x a)) ≡ made line (st.Assign (f x) (renamed_expr f a))
  unfolding roll-What denote.Hole.Carrier.roll
  assign_renamed line x a = stmt_at_line f line (st.Assign x a) ∙ ap (made line) (at_what (What-F.Assign x a))

  pub next_renamed : (line : ℕ) (x : List ℕ) → renamed_stmt f (made line (st.Next x)) ≡ made line (st.Next (f x))
  unfolding roll-What denote.Hole.Carrier.roll
  next_renamed line x = stmt_at_line f line (st.Next x) ∙ ap (made line) (at_what (What-F.Next x))

  pub next_assign_renamed : (line : ℕ) (x : List ℕ) (a : Expr) → renamed_stmt f (made line (st.NextAssign x a)) ≡ made line (st.NextAssign (f x) (renamed_expr f a))
  unfolding roll-What denote.Hole.Carrier.roll
  next_assign_renamed line x a = stmt_at_line f line (st.NextAssign x a) ∙ ap (made line) (at_what (What-F.NextAssign x a))

  pub assign_next_renamed : (line : ℕ) (x y : List ℕ) → renamed_stmt f (made line (st.AssignNext x y)) ≡ made line (st.AssignNext (f x) (f y))
  unfolding roll-What denote.Hole.Carrier.roll
  assign_next_renamed line x y = stmt_at_line f line (st.AssignNext x y) ∙ ap (made line) (at_what (What-F.AssignNext x y))

  pub get_renamed : (line : ℕ) (x y : List ℕ) → renamed_stmt f (made line (st.Get x y)) ≡ made line (st.Get (f x) (f y))
  unfolding roll-What denote.Hole.Carrier.roll
  get_renamed line x y = stmt_at_line f line (st.Get x y) ∙ ap (made line) (at_what (What-F.Get x y))

  pub put_renamed : (line : ℕ) (x : List ℕ) (a : Expr) → renamed_stmt f (made line (st.Put x a)) ≡ made line (st.Put (f x) (renamed_expr f a))
  unfolding roll-What denote.Hole.Carrier.roll
  put_renamed line x a = stmt_at_line f line (st.Put x a) ∙ ap (made line) (at_what (What-F.Put x a))

  pub if_renamed : (line : ℕ) (a : Expr) (xs ys : List Stmt) → renamed_stmt f (made line (st.If a xs ys)) ≡ made line (st.If (renamed_expr f a) (map (renamed_stmt f) xs) (map (renamed_stmt f) ys))
  unfolding roll-What denote.Hole.Carrier.roll
  if_renamed line a xs ys = stmt_at_line f line (st.If a xs ys) ∙ ap (made line) (at_what (What-F.If a xs ys))

  pub while_renamed : (line : ℕ) (a : Expr) (xs : List Stmt) → renamed_stmt f (made line (st.While a xs)) ≡ made line (st.While (renamed_expr f a) (map (renamed_stmt f) xs))
  unfolding roll-What denote.Hole.Carrier.roll
  while_renamed line a xs = stmt_at_line f line (st.While a xs) ∙ ap (made line) (at_what (What-F.While a xs))

  pub for_renamed : (line : ℕ) (xs : List Stmt) (a : Option Expr) (ys zs : List Stmt) → renamed_stmt f (made line (st.For xs a ys zs)) ≡ made line (st.For (map (renamed_stmt f) xs) (renamed_option f a) (map (renamed_stmt f) ys) (map (renamed_stmt f) zs))
  unfolding roll-What denote.Hole.Carrier.roll
  for_renamed line xs a ys zs = stmt_at_line f line (st.For xs a ys zs) ∙ ap (made line) (at_what (What-F.For xs a ys zs))

  pub block_renamed : (line : ℕ) (xs : List Stmt) → renamed_stmt f (made line (st.Block xs)) ≡ made line (st.Block (map (renamed_stmt f) xs))
  unfolding roll-What denote.Hole.Carrier.roll
  block_renamed line xs = stmt_at_line f line (st.Block xs) ∙ ap (made line) (at_what (What-F.What::Block xs))

  pub call_renamed : (line : ℕ) (c : Call) → renamed_stmt f (made line (st.Call c)) ≡ made line (st.Call (renamed_call f c))
  unfolding roll-What denote.Hole.Carrier.roll
  call_renamed line c = stmt_at_line f line (st.Call c) ∙ ap (made line) (at_what (What-F.What::Call c))

  pub try_renamed : (line : ℕ) (xs : List Stmt) (x : List ℕ) (y : Option (List ℕ)) (ys : List Stmt)
      → renamed_stmt f (made line (st.Try xs x y ys)) ≡ made line (st.Try (map (renamed_stmt f) xs) (f x) (renamed_variable f y) (map (renamed_stmt f) ys))
  unfolding roll-What denote.Hole.Carrier.roll
  try_renamed line xs x y ys = stmt_at_line f line (st.Try xs x y ys) ∙ ap (made line) (at_what (What-F.Try xs x y ys))

  pub throw_renamed : (line : ℕ) (x : List ℕ) (a : Option Expr) → renamed_stmt f (made line (st.Throw x a)) ≡ made line (st.Throw (f x) (renamed_option f a))
  unfolding roll-What denote.Hole.Carrier.roll
  throw_renamed line x a = stmt_at_line f line (st.Throw x a) ∙ ap (made line) (at_what (What-F.Throw x a))

  pub par_renamed : (line : ℕ) (bs : List Branch) → renamed_stmt f (made line (st.Par bs)) ≡ made line (st.Par (map (renamed_branch f) bs))
  unfolding roll-What denote.Hole.Carrier.roll
  par_renamed line bs = stmt_at_line f line (st.Par bs) ∙ ap (made line) (at_what (What-F.Par bs))

  pub block_branch_renamed : (line : ℕ) (xs : List Stmt) → renamed_branch f (made_branch line (br.Block xs)) ≡ made_branch line (br.Block (map (renamed_stmt f) xs))
  unfolding roll-BranchWhat denote.Hole.Carrier.roll
  block_branch_renamed line xs = branch_at_line f line (br.Block xs) ∙ ap (made_branch line) (at_branch_what (BranchWhat-F.BranchWhat::Block xs))

  pub call_branch_renamed : (line : ℕ) (c : Call) → renamed_branch f (made_branch line (br.Call c)) ≡ made_branch line (br.Call (renamed_call f c))
  unfolding roll-BranchWhat denote.Hole.Carrier.roll
  call_branch_renamed line c = branch_at_line f line (br.Call c) ∙ ap (made_branch line) (at_branch_what (BranchWhat-F.BranchWhat::Call c))
