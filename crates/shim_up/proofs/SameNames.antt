-- A program whose identifiers are replaced by themselves is the same.
use Rattle.std.proofs.Common.{ℕ, ◌≡◌, ◌∙◌, ◌⊎◌, inl, inr, List, [], ◌∷◌, Option, Some, None, true, false, map, refl, sym, ap, subst}
use Rattle.std.specs.Str.{bytes_eq}
use Rattle.std.proofs.lemmas.Bool.{cases_Bool}
use Rattle.std.proofs.lemmas.Slice.Eq.{bytes_eq-Decides}
use Rattle.shim_syntax.specs.declared.tree.Expr.{Expr, Expr-F, fold-roll-Expr, ind-Expr, map-Expr, roll-Expr}
use Rattle.shim_syntax.specs.declared.tree.Expr.TheVariants as e
use Rattle.shim_syntax.specs.declared.tree.Call.{Call}
use Rattle.shim_syntax.specs.declared.tree.Param.{Param}
use Rattle.shim_syntax.specs.declared.tree.Function.{Function}
use Rattle.shim_syntax.specs.declared.tree.Stmt.{Stmt, fold-roll-Stmt}
use Rattle.shim_syntax.specs.declared.tree.What.{What, What-F, fold-roll-What, map-What, roll-What}
use Rattle.shim_syntax.specs.declared.tree.What.TheVariants as st
use Rattle.shim_syntax.specs.declared.tree.Branch.{Branch, fold-roll-Branch}
use Rattle.shim_syntax.specs.declared.tree.BranchWhat.{BranchWhat, BranchWhat-F, fold-roll-BranchWhat, map-BranchWhat, roll-BranchWhat}
use Rattle.shim_syntax.specs.declared.tree.BranchWhat.TheVariants as br
use Rattle.shim_syntax.specs.Terminals.{new_word}
use Rattle.shim_up.specs.Renaming.{Renaming, rename_expr_step, rename_branch_what_step, rename_what_step, rename_branch_step, rename_stmt_step, renamed_expr, renamed_option, renamed_variable, renamed_call, renamed_stmt, renamed_what, renamed_branch, renamed_branch_what, renamed_param, renamed_function, renamed_functions}
use Rattle.shim_up.specs.Up.{replaced}
use Rattle.shim_syntax.proofs.FormInduction.{InBranchWhat, InWhat, Each, each, each_stmt}

module _ (f : Renaming) (same : (x : List ℕ) → f x ≡ x) where
  texts_stay : (xs : List (List ℕ)) → map f xs ≡ xs
  texts_stay [] = refl
  texts_stay (x ∷ xs) = λ i. same x i ∷ texts_stay xs i

  params_stay : (ps : List Param) → map (renamed_param f) ps ≡ ps
  params_stay [] = refl
  params_stay (p ∷ ps) = λ i. record { sort = p.sort; by_ref = p.by_ref; name = same p.name i } ∷ params_stay ps i

  abbrev ExprStays : Type 0
  ExprStays = (a : Expr) × (renamed_expr f a ≡ a)

  expr_layer : (y : Expr-F ExprStays) → rename_expr_step f (map-Expr Expr Expr (renamed_expr f) (map-Expr ExprStays Expr (λ a. a.0) y)) ≡ roll-Expr (map-Expr ExprStays Expr (λ a. a.0) y)
  unfolding roll-Expr denote.Hole.Carrier.roll
  expr_layer (Expr-F.Number n) = refl
  expr_layer (Expr-F.Var x) = λ i. e.Var (same x i)
  expr_layer (Expr-F.Unary op a) = λ i. e.Unary op (a.1 i)
  expr_layer (Expr-F.Binary op a b) = λ i. e.Binary op (a.1 i) (b.1 i)

  expr_stays : (a : Expr) → renamed_expr f a ≡ a
  unfolding renamed_expr
  expr_stays = ind-Expr (λ a. renamed_expr f a ≡ a) (λ x y is.
      subst (λ z. renamed_expr f (roll-Expr z) ≡ roll-Expr z) is
      (fold-roll-Expr Expr (rename_expr_step f) (map-Expr ExprStays Expr (λ a. a.0) y) ∙ expr_layer y))

  exprs_stay : (xs : List Expr) → map (renamed_expr f) xs ≡ xs
  exprs_stay [] = refl
  exprs_stay (x ∷ xs) = λ i. expr_stays x i ∷ exprs_stay xs i

  option_stays : (a : Option Expr) → renamed_option f a ≡ a
  option_stays None = refl
  option_stays (Some a) = ap Some (expr_stays a)

  variable_stays : (y : Option (List ℕ)) → renamed_variable f y ≡ y
  variable_stays None = refl
  variable_stays (Some x) = ap Some (same x)

  call_stays : (c : Call) → renamed_call f c ≡ c
  call_stays c = λ i. record { function = same c.function i; args = exprs_stay c.args i }

  abbrev BranchStays : Branch → Type 0
  BranchStays b = renamed_branch f b ≡ b

  abbrev StmtStays : Stmt → Type 0
  StmtStays s = renamed_stmt f s ≡ s

  all_stay : (body : List Stmt) → Each StmtStays body → map (renamed_stmt f) body ≡ body
  all_stay [] h = refl
  all_stay (s ∷ body) h = λ i. h.0 i ∷ all_stay body h.1 i

  branches_stay : (bs : List Branch) → Each BranchStays bs → map (renamed_branch f) bs ≡ bs
  branches_stay [] h = refl
  branches_stay (b ∷ bs) h = λ i. h.0 i ∷ branches_stay bs h.1 i

  branch_what_layer : (y : BranchWhat-F BranchWhat What Branch Stmt) → InBranchWhat StmtStays y
      → rename_branch_what_step f (map-BranchWhat BranchWhat What Branch Stmt BranchWhat What Branch Stmt (renamed_branch_what f) (renamed_what f) (renamed_branch f) (renamed_stmt f) y) ≡ roll-BranchWhat y
  unfolding roll-BranchWhat denote.Hole.Carrier.roll
  branch_what_layer (BranchWhat-F.BranchWhat::Block body) h = λ i. br.Block (all_stay body h i)
  branch_what_layer (BranchWhat-F.BranchWhat::Call c) h = λ i. br.Call (call_stays c i)

  what_layer : (y : What-F BranchWhat What Branch Stmt) → InWhat BranchStays StmtStays y
      → rename_what_step f (map-What BranchWhat What Branch Stmt BranchWhat What Branch Stmt (renamed_branch_what f) (renamed_what f) (renamed_branch f) (renamed_stmt f) y) ≡ roll-What y
  unfolding roll-What denote.Hole.Carrier.roll
  what_layer (What-F.Declare ty x a) h = λ i. st.Declare ty (same x i) (option_stays a i)
  what_layer (What-F.Assign x a) h = λ i. st.Assign (same x i) (expr_stays a i)
  what_layer (What-F.Next x) h = λ i. st.Next (same x i)
  what_layer (What-F.NextAssign x a) h = λ i. st.NextAssign (same x i) (expr_stays a i)
  what_layer (What-F.AssignNext x y) h = λ i. st.AssignNext (same x i) (same y i)
  what_layer (What-F.Get x y) h = λ i. st.Get (same x i) (same y i)
  what_layer (What-F.Put x a) h = λ i. st.Put (same x i) (expr_stays a i)
  what_layer (What-F.If test first other) h = λ i. st.If (expr_stays test i) (all_stay first h.0 i) (all_stay other h.1 i)
  what_layer (What-F.While test body) h = λ i. st.While (expr_stays test i) (all_stay body h i)
  what_layer (What-F.For first test step body) h = λ i. st.For (all_stay first h.0 i) (option_stays test i) (all_stay step h.1 i) (all_stay body h.2 i)
  what_layer (What-F.What::Block body) h = λ i. st.Block (all_stay body h i)
  what_layer (What-F.What::Call c) h = λ i. st.Call (call_stays c i)
  what_layer (What-F.Try body x y handler) h = λ i. st.Try (all_stay body h.0 i) (same x i) (variable_stays y i) (all_stay handler h.1 i)
  what_layer (What-F.Throw x a) h = λ i. st.Throw (same x i) (option_stays a i)
  what_layer (What-F.Par bs) h = λ i. st.Par (branches_stay bs h i)

  stmt_stays : (s : Stmt) → renamed_stmt f s ≡ s
  stmt_stays = each_stmt (λ w. renamed_branch_what f w ≡ w) (λ w. renamed_what f w ≡ w) BranchStays StmtStays
      (λ y h. fold-roll-BranchWhat BranchWhat What Branch Stmt (rename_branch_what_step f) (rename_what_step f) rename_branch_step rename_stmt_step y ∙ branch_what_layer y h)
      (λ y h. fold-roll-What BranchWhat What Branch Stmt (rename_branch_what_step f) (rename_what_step f) rename_branch_step rename_stmt_step y ∙ what_layer y h)
      (λ line x h. fold-roll-Branch BranchWhat What Branch Stmt (rename_branch_what_step f) (rename_what_step f) rename_branch_step rename_stmt_step (record { line = line; what = x }) ∙ ap (λ w. let b : Branch = record { line = line; what = w } in b) h)
      (λ line x h. fold-roll-Stmt BranchWhat What Branch Stmt (rename_branch_what_step f) (rename_what_step f) rename_branch_step rename_stmt_step (record { line = line; what = x }) ∙ ap (λ w. let s : Stmt = record { line = line; what = w } in s) h)

  function_stays : (g : Function) → renamed_function f g ≡ g
  function_stays g = λ i. record {
    line = g.line;
    name = same g.name i;
    params = params_stay g.params i;
    throws = texts_stay g.throws i;
    body = all_stay g.body (each StmtStays stmt_stays g.body) i;
  }

  functions_stay : (fs : List Function) → renamed_functions f fs ≡ fs
  functions_stay [] = refl
  functions_stay (g ∷ fs) = λ i. function_stays g i ∷ functions_stay fs i

replaced_by_itself : (x : List ℕ) → (bytes_eq x new_word ≡ true) ⊎ (bytes_eq x new_word ≡ false) → replaced new_word x ≡ x
replaced_by_itself x (inl same) = rw same (sym ((bytes_eq-Decides x new_word).0 same))
replaced_by_itself x (inr other) = rw other refl

-- with the new word for the new word all functions stay
pub same_functions : (fs : List Function) → renamed_functions (replaced new_word) fs ≡ fs
same_functions = functions_stay (replaced new_word) (λ x. replaced_by_itself x (cases_Bool (bytes_eq x new_word)))
