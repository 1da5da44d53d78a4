-- The identifiers of a program with its names replaced are those that replace its identifiers.
use Rattle.std.proofs.Common.{ℕ, ◌≡◌, ◌∙◌, List, [], ◌∷◌, ◌++◌, Option, Some, None, map, refl, sym, ap, subst}
use Rattle.std.specs.List.{find}
use Rattle.std.specs.Option.{option_map}
use Rattle.std.specs.Str.{bytes_eq}
use Rattle.std.proofs.lemmas.List.{map-append}
use Rattle.shim_syntax.specs.declared.tree.Expr.{Expr, Expr-F, fold-roll-Expr, ind-Expr, map-Expr, roll-Expr}
use Rattle.shim_syntax.specs.declared.tree.Call.{Call}
use Rattle.shim_syntax.specs.declared.tree.Param.{Param}
use Rattle.shim_syntax.specs.declared.tree.Function.{Function}
use Rattle.shim_syntax.specs.declared.tree.Stmt.{Stmt}
use Rattle.shim_syntax.specs.declared.tree.What.{What, What-F}
use Rattle.shim_syntax.specs.declared.tree.Branch.{Branch}
use Rattle.shim_syntax.specs.declared.tree.BranchWhat.{BranchWhat, BranchWhat-F}
use Rattle.shim_syntax.specs.Names.{Texts, unless_there, with_name, with_texts, param_names, with_functions}
use Rattle.shim_syntax.specs.Occurrences.{concatenated, expr_occurs, in_expr, in_exprs, in_option, in_variable, in_call, in_stmt, in_function, identifiers}
use Rattle.shim_syntax.proofs.FormInduction.{InBranchWhat, InWhat, Each, each, each_stmt}
use Rattle.shim_syntax.proofs.OccurrenceLemmas.{in_branch_what, in_what, in_branch, branch_what_at, what_at, rolled_branch_what, rolled_what, stmt_of_line, branch_of_line, names_are_the_identifiers}
use Rattle.shim_up.specs.Renaming.{Renaming, renamed_expr, renamed_option, renamed_variable, renamed_call, renamed_stmt, renamed_param, renamed_function, renamed_functions}
use Rattle.shim_laws_up.proofs.Names.{declared_name_same}
use Rattle.shim_laws_up.proofs.RenamedSteps.{renamed_number, name_renamed, renamed_unary, renamed_binary}
use Rattle.shim_laws_up.proofs.Layers.{branch_what_layer_renamed, what_layer_renamed, branch_what_below, what_below, new_branch_what, new_what, renamed_branch_what, renamed_what, renamed_branch, stmt_at_line, branch_at_line}

module _ (f : Renaming) where
  both_mapped : (a b c d : Texts) → a ≡ map f c → b ≡ map f d → a ++ b ≡ map f (c ++ d)
  both_mapped a b c d p q = ap (λ l. l ++ b) p ∙ ap (λ l. map f c ++ l) q ∙ sym (map-append f c d)

  abbrev OfExpr : Expr → Type 0
  OfExpr a = in_expr (renamed_expr f a) ≡ map f (in_expr a)

  abbrev Part : Type 0
  Part = (a : Expr) × OfExpr a

  at_expr : (z : Expr-F Expr) → in_expr (roll-Expr z) ≡ expr_occurs (map-Expr Expr Texts in_expr z)
  at_expr z = fold-roll-Expr Texts expr_occurs z

  expr_layer : (y : Expr-F Part) → OfExpr (roll-Expr (map-Expr Part Expr (λ e. e.0) y))
  unfolding roll-Expr denote.Hole.Carrier.roll
  expr_layer (Expr-F.Number n) = ap in_expr (renamed_number f n) ∙ at_expr (Expr-F.Number n) ∙ sym (ap (map f) (at_expr (Expr-F.Number n)))
  expr_layer (Expr-F.Var x) = ap in_expr (name_renamed f x) ∙ at_expr (Expr-F.Var (f x)) ∙ sym (ap (map f) (at_expr (Expr-F.Var x)))
  expr_layer (Expr-F.Unary op a) = ap in_expr (renamed_unary f op a.0) ∙ at_expr (Expr-F.Unary op (renamed_expr f a.0)) ∙ a.1 ∙ sym (ap (map f) (at_expr (Expr-F.Unary op a.0)))
  expr_layer (Expr-F.Binary op a b) =
      ap in_expr (renamed_binary f op a.0 b.0) ∙ at_expr (Expr-F.Binary op (renamed_expr f a.0) (renamed_expr f b.0)) ∙ both_mapped _ _ _ _ a.1 b.1 ∙ sym (ap (map f) (at_expr (Expr-F.Binary op a.0 b.0)))

  expr_mapped : (a : Expr) → OfExpr a
  expr_mapped = ind-Expr OfExpr (λ x y is. subst (λ z. OfExpr (roll-Expr z)) is (expr_layer y))

  exprs_mapped : (es : List Expr) → in_exprs (map (renamed_expr f) es) ≡ map f (in_exprs es)
  exprs_mapped [] = refl
  exprs_mapped (e ∷ es) = both_mapped _ _ _ _ (expr_mapped e) (exprs_mapped es)

  option_mapped : (e : Option Expr) → in_option (renamed_option f e) ≡ map f (in_option e)
  option_mapped None = refl
  option_mapped (Some e) = expr_mapped e

  call_mapped : (c : Call) → in_call (renamed_call f c) ≡ map f (in_call c)
  call_mapped c = ap (λ l. f c.function ∷ l) (exprs_mapped c.args)

  abbrev OfBranchWhat : BranchWhat → Type 0
  OfBranchWhat x = in_branch_what (renamed_branch_what f x) ≡ map f (in_branch_what x)

  abbrev OfWhat : What → Type 0
  OfWhat x = in_what (renamed_what f x) ≡ map f (in_what x)

  abbrev OfBranch : Branch → Type 0
  OfBranch b = in_branch (renamed_branch f b) ≡ map f (in_branch b)

  abbrev OfStmt : Stmt → Type 0
  OfStmt s = in_stmt (renamed_stmt f s) ≡ map f (in_stmt s)

  stmts_mapped : (body : List Stmt) → Each OfStmt body → concatenated (map in_stmt (map (renamed_stmt f) body)) ≡ map f (concatenated (map in_stmt body))
  stmts_mapped [] h = refl
  stmts_mapped (s ∷ body) h = both_mapped _ _ _ _ h.0 (stmts_mapped body h.1)

  branches_mapped : (bs : List Branch) → Each OfBranch bs → concatenated (map in_branch (map (renamed_branch f) bs)) ≡ map f (concatenated (map in_branch bs))
  branches_mapped [] h = refl
  branches_mapped (b ∷ bs) h = both_mapped _ _ _ _ h.0 (branches_mapped bs h.1)

  branch_what_layer : (y : BranchWhat-F BranchWhat What Branch Stmt) → InBranchWhat OfStmt y → branch_what_at (branch_what_layer_renamed f (branch_what_below f y)) ≡ map f (branch_what_at y)
  branch_what_layer (BranchWhat-F.BranchWhat::Block body) h = stmts_mapped body h
  branch_what_layer (BranchWhat-F.BranchWhat::Call c) h = call_mapped c

  variable_mapped : (y : Option (List ℕ)) → in_variable (renamed_variable f y) ≡ map f (in_variable y)
  variable_mapped None = refl
  variable_mapped (Some x) = refl

  what_layer : (y : What-F BranchWhat What Branch Stmt) → InWhat OfBranch OfStmt y → what_at (what_layer_renamed f (what_below f y)) ≡ map f (what_at y)
  what_layer (What-F.Declare ty x e) h = ap (λ l. f x ∷ l) (option_mapped e)
  what_layer (What-F.Assign x e) h = ap (λ l. f x ∷ l) (expr_mapped e)
  what_layer (What-F.Next x) h = refl
  what_layer (What-F.NextAssign x e) h = ap (λ l. f x ∷ l) (expr_mapped e)
  what_layer (What-F.AssignNext x y) h = refl
  what_layer (What-F.Get x y) h = refl
  what_layer (What-F.Put x e) h = ap (λ l. f x ∷ l) (expr_mapped e)
  what_layer (What-F.If e first other) h = both_mapped _ _ _ _ (expr_mapped e) (both_mapped _ _ _ _ (stmts_mapped first h.0) (stmts_mapped other h.1))
  what_layer (What-F.While e body) h = both_mapped _ _ _ _ (expr_mapped e) (stmts_mapped body h)
  what_layer (What-F.For first test step body) h =
      both_mapped _ _ _ _ (stmts_mapped first h.0) (both_mapped _ _ _ _ (option_mapped test) (both_mapped _ _ _ _ (stmts_mapped step h.1) (stmts_mapped body h.2)))
  what_layer (What-F.What::Block body) h = stmts_mapped body h
  what_layer (What-F.What::Call c) h = call_mapped c
  what_layer (What-F.Try body x y handler) h = both_mapped _ _ _ _ (stmts_mapped body h.0) (ap (λ l. f x ∷ l) (both_mapped _ _ _ _ (variable_mapped y) (stmts_mapped handler h.1)))
  what_layer (What-F.Throw x e) h = ap (λ l. f x ∷ l) (option_mapped e)
  what_layer (What-F.Par bs) h = branches_mapped bs h

  of_branch : (line : ℕ) (x : BranchWhat) → OfBranchWhat x → OfBranch (record { line = line; what = x })
  of_branch line x k =
      ap in_branch (branch_at_line f line x)
      ∙ branch_of_line line (renamed_branch_what f x) ∙ k ∙ sym (ap (map f) (branch_of_line line x))

  of_stmt : (line : ℕ) (x : What) → OfWhat x → OfStmt (record { line = line; what = x })
  of_stmt line x k =
      ap in_stmt (stmt_at_line f line x)
      ∙ stmt_of_line line (renamed_what f x) ∙ k ∙ sym (ap (map f) (stmt_of_line line x))

  stmt_mapped : (s : Stmt) → OfStmt s
  stmt_mapped = each_stmt OfBranchWhat OfWhat OfBranch OfStmt
      (λ y h. ap in_branch_what (new_branch_what f y) ∙ rolled_branch_what (branch_what_layer_renamed f (branch_what_below f y)) ∙ branch_what_layer y h ∙ sym (ap (map f) (rolled_branch_what y)))
      (λ y h. ap in_what (new_what f y) ∙ rolled_what (what_layer_renamed f (what_below f y)) ∙ what_layer y h ∙ sym (ap (map f) (rolled_what y))) of_branch of_stmt

  params_mapped : (ps : List Param) → param_names (map (renamed_param f) ps) ≡ map f (param_names ps)
  params_mapped [] = refl
  params_mapped (p ∷ ps) = ap (λ xs. f p.name ∷ xs) (params_mapped ps)

  function_mapped : (g : Function) → in_function (renamed_function f g) ≡ map f (in_function g)
  function_mapped g = ap (λ l. f g.name ∷ l) (both_mapped _ _ _ _ (params_mapped g.params) (both_mapped _ _ _ _ refl (stmts_mapped g.body (each OfStmt stmt_mapped g.body))))

  pub identifiers_mapped : (fs : List Function) → identifiers (renamed_functions f fs) ≡ map f (identifiers fs)
  identifiers_mapped [] = refl
  identifiers_mapped (g ∷ fs) = both_mapped (in_function (renamed_function f g)) (identifiers (renamed_functions f fs)) (in_function g) (identifiers fs) (function_mapped g) (identifiers_mapped fs)

module _ (f : Renaming) (same : (x y : List ℕ) → bytes_eq (f x) (f y) ≡ bytes_eq x y) where
  unless_mapped : (o : Option (List ℕ)) (new old : Texts) → unless_there (option_map f o) (map f new) (map f old) ≡ map f (unless_there o new old)
  unless_mapped None new old = refl
  unless_mapped (Some n) new old = refl

  name_mapped : (x : List ℕ) (known : Texts) → with_name (f x) (map f known) ≡ map f (with_name x known)
  name_mapped x known =
      ap (λ o. unless_there o (map f known ++ f x ∷ []) (map f known)) (declared_name_same f same known x)
      ∙ ap (λ l. unless_there (option_map f (find (λ n. bytes_eq n x) known)) l (map f known)) (sym (map-append f known (x ∷ [])))
      ∙ unless_mapped (find (λ n. bytes_eq n x) known) (known ++ x ∷ []) known

  texts_mapped : (xs known : Texts) → with_texts (map f xs) (map f known) ≡ map f (with_texts xs known)
  texts_mapped [] known = refl
  texts_mapped (x ∷ xs) known = ap (λ l. with_texts (map f xs) l) (name_mapped x known) ∙ texts_mapped xs (with_name x known)

  pub names_renamed : (fs : List Function) → with_functions (renamed_functions f fs) [] ≡ map f (with_functions fs [])
  names_renamed fs =
      names_are_the_identifiers (renamed_functions f fs)
      ∙ ap (λ xs. with_texts xs []) (identifiers_mapped f fs)
      ∙ texts_mapped (identifiers fs) []
      ∙ sym (ap (map f) (names_are_the_identifiers fs))
