-- A program with its names replaced in two ways that agree on its identifiers is one program.
use Rattle.std.proofs.Common.{ℕ, ◌≡◌, ◌∙◌, List, [], ◌∷◌, ◌++◌, Option, Some, None, map, refl, sym, ap, subst}
use Rattle.std.specs.List.{find}
use Rattle.std.specs.Str.{bytes_eq}
use Rattle.shim_syntax.specs.declared.tree.Expr.{Expr, Expr-F, fold-roll-Expr, ind-Expr, map-Expr, roll-Expr}
use Rattle.shim_syntax.specs.declared.tree.Expr.TheVariants as e
use Rattle.shim_syntax.specs.declared.tree.Call.{Call}
use Rattle.shim_syntax.specs.declared.tree.Param.{Param}
use Rattle.shim_syntax.specs.declared.tree.Function.{Function}
use Rattle.shim_syntax.specs.declared.tree.Stmt.{Stmt}
use Rattle.shim_syntax.specs.declared.tree.What.{What, What-F, fold-roll-What, map-What, roll-What}
use Rattle.shim_syntax.specs.declared.tree.What.TheVariants as st
use Rattle.shim_syntax.specs.declared.tree.Branch.{Branch}
use Rattle.shim_syntax.specs.declared.tree.BranchWhat.{BranchWhat, BranchWhat-F, fold-roll-BranchWhat, map-BranchWhat, roll-BranchWhat}
use Rattle.shim_syntax.specs.declared.tree.BranchWhat.TheVariants as br
use Rattle.shim_syntax.specs.Names.{Texts, unless_there, with_name, with_texts, param_names, with_functions}
use Rattle.shim_syntax.specs.Occurrences.{concatenated, expr_occurs, in_expr, in_exprs, in_option, in_variable, in_call, in_stmt, in_function, identifiers}
use Rattle.shim_syntax.proofs.FormInduction.{InBranchWhat, InWhat, Each, each, each_stmt}
use Rattle.shim_syntax.proofs.OccurrenceLemmas.{in_branch_what, in_what, in_branch, branch_what_at, what_at, rolled_branch_what, rolled_what, stmt_of_line, branch_of_line, names_are_the_identifiers}
use Rattle.shim_up.specs.Renaming as ren
use Rattle.shim_up.specs.Renaming.{Renaming, renamed_expr, renamed_option, renamed_variable, renamed_call, renamed_stmt, renamed_param, renamed_function, renamed_functions}
use Rattle.shim_laws_up.proofs.RenamedSteps.{renamed_number, name_renamed, renamed_unary, renamed_binary}
use Rattle.shim_laws_up.proofs.Layers.{renamed_branch_what, renamed_what, renamed_branch, stmt_at_line, branch_at_line}

module _ (f g : Renaming) where
  -- both replace each of these by one name
  abbrev pub Agree : Texts → Type 0
  Agree [] = Unit {0}
  Agree (x ∷ xs) = (f x ≡ g x) × Agree xs

  agree_first : (xs ys : Texts) → Agree (xs ++ ys) → Agree xs
  agree_first [] ys h = tt
  agree_first (x ∷ xs) ys h = (h.0, agree_first xs ys h.1)

  agree_second : (xs ys : Texts) → Agree (xs ++ ys) → Agree ys
  agree_second [] ys h = h
  agree_second (x ∷ xs) ys h = agree_second xs ys h.1

  agree_same : (xs ys : Texts) → xs ≡ ys → Agree xs → Agree ys
  agree_same xs ys e h = subst Agree e h

  -- what takes two parts
  same_parts : {A B C : Type 0} (k : A → B → C) (a b : A) (c d : B) → a ≡ b → c ≡ d → k a c ≡ k b d
  same_parts k a b c d p q = ap (λ x. k x c) p ∙ ap (k b) q

  abbrev OfExpr : Expr → Type 0
  OfExpr a = Agree (in_expr a) → renamed_expr f a ≡ renamed_expr g a

  abbrev Part : Type 0
  Part = (a : Expr) × OfExpr a

  at_expr : (z : Expr-F Expr) → in_expr (roll-Expr z) ≡ expr_occurs (map-Expr Expr Texts in_expr z)
  at_expr z = fold-roll-Expr Texts expr_occurs z

  expr_layer : (y : Expr-F Part) → OfExpr (roll-Expr (map-Expr Part Expr (λ e. e.0) y))
  unfolding roll-Expr denote.Hole.Carrier.roll
  expr_layer (Expr-F.Number n) h = renamed_number f n ∙ sym (renamed_number g n)
  expr_layer (Expr-F.Var x) h = let k = agree_same _ _ (at_expr (Expr-F.Var x)) h in name_renamed f x ∙ ap e.Var k.0 ∙ sym (name_renamed g x)
  expr_layer (Expr-F.Unary op a) h = let k = agree_same _ _ (at_expr (Expr-F.Unary op a.0)) h in renamed_unary f op a.0 ∙ ap (e.Unary op) (a.1 k) ∙ sym (renamed_unary g op a.0)
  expr_layer (Expr-F.Binary op a b) h =
      let k = agree_same _ _ (at_expr (Expr-F.Binary op a.0 b.0)) h in
      renamed_binary f op a.0 b.0 ∙ same_parts (e.Binary op) _ _ _ _ (a.1 (agree_first (in_expr a.0) (in_expr b.0) k)) (b.1 (agree_second (in_expr a.0) (in_expr b.0) k)) ∙ sym (renamed_binary g op a.0 b.0)

  expr_agrees : (a : Expr) → OfExpr a
  expr_agrees = ind-Expr OfExpr (λ x y is. subst (λ z. OfExpr (roll-Expr z)) is (expr_layer y))

  exprs_agree : (es : List Expr) → Agree (in_exprs es) → map (renamed_expr f) es ≡ map (renamed_expr g) es
  exprs_agree [] h = refl
  exprs_agree (e ∷ es) h = same_parts (λ x xs. x ∷ xs) _ _ _ _ (expr_agrees e (agree_first (in_expr e) (in_exprs es) h)) (exprs_agree es (agree_second (in_expr e) (in_exprs es) h))

  option_agrees : (e : Option Expr) → Agree (in_option e) → renamed_option f e ≡ renamed_option g e
  option_agrees None h = refl
  option_agrees (Some e) h = ap Some (expr_agrees e h)

  call_agrees : (c : Call) → Agree (in_call c) → renamed_call f c ≡ renamed_call g c
  call_agrees c h = same_parts (λ x xs. let d : Call = record { function = x; args = xs } in d) _ _ _ _ h.0 (exprs_agree c.args h.1)

  abbrev OfBranchWhat : BranchWhat → Type 0
  OfBranchWhat x = Agree (in_branch_what x) → renamed_branch_what f x ≡ renamed_branch_what g x

  abbrev OfWhat : What → Type 0
  OfWhat x = Agree (in_what x) → renamed_what f x ≡ renamed_what g x

  abbrev OfBranch : Branch → Type 0
  OfBranch b = Agree (in_branch b) → renamed_branch f b ≡ renamed_branch g b

  abbrev OfStmt : Stmt → Type 0
  OfStmt s = Agree (in_stmt s) → renamed_stmt f s ≡ renamed_stmt g s

  abbrev texts : List Stmt → Texts
  texts body = concatenated (map in_stmt body)

  stmts_agree : (body : List Stmt) → Each OfStmt body → Agree (texts body) → map (renamed_stmt f) body ≡ map (renamed_stmt g) body
  stmts_agree [] k h = refl
  stmts_agree (s ∷ body) k h = same_parts (λ x xs. x ∷ xs) _ _ _ _ (k.0 (agree_first (in_stmt s) (texts body) h)) (stmts_agree body k.1 (agree_second (in_stmt s) (texts body) h))

  branches_agree : (bs : List Branch) → Each OfBranch bs → Agree (concatenated (map in_branch bs)) → map (renamed_branch f) bs ≡ map (renamed_branch g) bs
  branches_agree [] k h = refl
  branches_agree (b ∷ bs) k h =
      same_parts (λ x xs. x ∷ xs) _ _ _ _ (k.0 (agree_first (in_branch b) (concatenated (map in_branch bs)) h)) (branches_agree bs k.1 (agree_second (in_branch b) (concatenated (map in_branch bs)) h))

  branch_what_below : Renaming → BranchWhat-F BranchWhat What Branch Stmt → BranchWhat
  branch_what_below u z = ren.rename_branch_what_step u (map-BranchWhat BranchWhat What Branch Stmt BranchWhat What Branch Stmt (renamed_branch_what u) (renamed_what u) (renamed_branch u) (renamed_stmt u) z)

  what_below : Renaming → What-F BranchWhat What Branch Stmt → What
  what_below u z = ren.rename_what_step u (map-What BranchWhat What Branch Stmt BranchWhat What Branch Stmt (renamed_branch_what u) (renamed_what u) (renamed_branch u) (renamed_stmt u) z)

  branch_what_layer : (y : BranchWhat-F BranchWhat What Branch Stmt) → InBranchWhat OfStmt y → Agree (branch_what_at y) → branch_what_below f y ≡ branch_what_below g y
  unfolding branch_what_below
  branch_what_layer (BranchWhat-F.BranchWhat::Block body) p h = ap br.Block (stmts_agree body p h)
  branch_what_layer (BranchWhat-F.BranchWhat::Call c) p h = ap br.Call (call_agrees c h)

  variable_agrees : (y : Option (List ℕ)) → Agree (in_variable y) → renamed_variable f y ≡ renamed_variable g y
  variable_agrees None h = refl
  variable_agrees (Some x) h = ap Some h.0

  what_layer : (y : What-F BranchWhat What Branch Stmt) → InWhat OfBranch OfStmt y → Agree (what_at y) → what_below f y ≡ what_below g y
  unfolding what_below
  what_layer (What-F.Declare ty x a) p h = same_parts (st.Declare ty) _ _ _ _ h.0 (option_agrees a h.1)
  what_layer (What-F.Assign x a) p h = same_parts st.Assign _ _ _ _ h.0 (expr_agrees a h.1)
  what_layer (What-F.Next x) p h = ap st.Next h.0
  what_layer (What-F.NextAssign x a) p h = same_parts st.NextAssign _ _ _ _ h.0 (expr_agrees a h.1)
  what_layer (What-F.AssignNext x y) p h = same_parts st.AssignNext _ _ _ _ h.0 h.1.0
  what_layer (What-F.Get x y) p h = same_parts st.Get _ _ _ _ h.0 h.1.0
  what_layer (What-F.Put x a) p h = same_parts st.Put _ _ _ _ h.0 (expr_agrees a h.1)
  what_layer (What-F.If a first other) p h =
      let k = agree_second (in_expr a) (texts first ++ texts other) h in
      same_parts (λ x y. st.If x y (map (renamed_stmt f) other)) _ _ _ _ (expr_agrees a (agree_first (in_expr a) (texts first ++ texts other) h)) (stmts_agree first p.0 (agree_first (texts first) (texts other) k))
      ∙ ap (λ z. st.If (renamed_expr g a) (map (renamed_stmt g) first) z) (stmts_agree other p.1 (agree_second (texts first) (texts other) k))
  what_layer (What-F.While a body) p h = same_parts st.While _ _ _ _ (expr_agrees a (agree_first (in_expr a) (texts body) h)) (stmts_agree body p (agree_second (in_expr a) (texts body) h))
  what_layer (What-F.For first test step body) p h =
      let k = agree_second (texts first) (in_option test ++ (texts step ++ texts body)) h in
      let l = agree_second (in_option test) (texts step ++ texts body) k in
      same_parts (λ x y. st.For x y (map (renamed_stmt f) step) (map (renamed_stmt f) body)) _ _ _ _
      (stmts_agree first p.0 (agree_first (texts first) (in_option test ++ (texts step ++ texts body)) h)) (option_agrees test (agree_first (in_option test) (texts step ++ texts body) k))
      ∙ same_parts (λ x y. st.For (map (renamed_stmt g) first) (renamed_option g test) x y) _ _ _ _ (stmts_agree step p.1 (agree_first (texts step) (texts body) l)) (stmts_agree body p.2 (agree_second (texts step) (texts body) l))
  what_layer (What-F.What::Block body) p h = ap st.Block (stmts_agree body p h)
  what_layer (What-F.What::Call c) p h = ap st.Call (call_agrees c h)
  what_layer (What-F.Try body x y handler) p h =
      let rest : Texts = in_variable y ++ texts handler in
      let k = agree_second (texts body) (x ∷ rest) h in
      same_parts (λ b n. st.Try b n (renamed_variable f y) (map (renamed_stmt f) handler)) _ _ _ _ (stmts_agree body p.0 (agree_first (texts body) (x ∷ rest) h)) k.0
      ∙ same_parts (λ v z. st.Try (map (renamed_stmt g) body) (g x) v z) _ _ _ _ (variable_agrees y (agree_first (in_variable y) (texts handler) k.1))
      (stmts_agree handler p.1 (agree_second (in_variable y) (texts handler) k.1))
  what_layer (What-F.Throw x a) p h = same_parts st.Throw _ _ _ _ h.0 (option_agrees a h.1)
  what_layer (What-F.Par bs) p h = ap st.Par (branches_agree bs p h)

  below_branch_what : (u : Renaming) (z : BranchWhat-F BranchWhat What Branch Stmt) → renamed_branch_what u (roll-BranchWhat z) ≡ branch_what_below u z
  unfolding branch_what_below
  below_branch_what u z = fold-roll-BranchWhat BranchWhat What Branch Stmt (ren.rename_branch_what_step u) (ren.rename_what_step u) ren.rename_branch_step ren.rename_stmt_step z

  below_what : (u : Renaming) (z : What-F BranchWhat What Branch Stmt) → renamed_what u (roll-What z) ≡ what_below u z
  unfolding what_below
  below_what u z = fold-roll-What BranchWhat What Branch Stmt (ren.rename_branch_what_step u) (ren.rename_what_step u) ren.rename_branch_step ren.rename_stmt_step z

  of_branch : (line : ℕ) (x : BranchWhat) → OfBranchWhat x → OfBranch (record { line = line; what = x })
  of_branch line x k h =
      branch_at_line f line x ∙ ap (λ y. let b : Branch = record { line = line; what = y } in b) (k (agree_same _ _ (branch_of_line line x) h)) ∙ sym (branch_at_line g line x)

  of_stmt : (line : ℕ) (x : What) → OfWhat x → OfStmt (record { line = line; what = x })
  of_stmt line x k h =
      stmt_at_line f line x ∙ ap (λ y. let s : Stmt = record { line = line; what = y } in s) (k (agree_same _ _ (stmt_of_line line x) h)) ∙ sym (stmt_at_line g line x)

  stmt_agrees : (s : Stmt) → OfStmt s
  stmt_agrees = each_stmt OfBranchWhat OfWhat OfBranch OfStmt
      (λ y p h. below_branch_what f y ∙ branch_what_layer y p (agree_same _ _ (rolled_branch_what y) h) ∙ sym (below_branch_what g y))
      (λ y p h. below_what f y ∙ what_layer y p (agree_same _ _ (rolled_what y) h) ∙ sym (below_what g y)) of_branch of_stmt

  params_agree : (ps : List Param) → Agree (param_names ps) → map (renamed_param f) ps ≡ map (renamed_param g) ps
  params_agree [] h = refl
  params_agree (p ∷ ps) h = same_parts (λ x xs. (let q : Param = record { sort = p.sort; by_ref = p.by_ref; name = x } in q) ∷ xs) _ _ _ _ h.0 (params_agree ps h.1)

  pub texts_agree : (xs : Texts) → Agree xs → map f xs ≡ map g xs
  texts_agree [] h = refl
  texts_agree (x ∷ xs) h = same_parts (λ y ys. y ∷ ys) _ _ _ _ h.0 (texts_agree xs h.1)

  function_agrees : (k : Function) → Agree (in_function k) → renamed_function f k ≡ renamed_function g k
  function_agrees k h =
      let rest = k.throws ++ texts k.body in
      let made : List ℕ → List Param → Texts → List Stmt → Function = λ x ps ts body. record { line = k.line; name = x; params = ps; throws = ts; body = body } in
      let second = agree_second (param_names k.params) rest h.1 in
      same_parts (λ x ps. made x ps (map f k.throws) (map (renamed_stmt f) k.body)) _ _ _ _ h.0 (params_agree k.params (agree_first (param_names k.params) rest h.1))
      ∙ same_parts (λ ts body. made (g k.name) (map (renamed_param g) k.params) ts body) _ _ _ _
      (texts_agree k.throws (agree_first k.throws (texts k.body) second)) (stmts_agree k.body (each OfStmt stmt_agrees k.body) (agree_second k.throws (texts k.body) second))

  pub functions_agree : (fs : List Function) → Agree (identifiers fs) → renamed_functions f fs ≡ renamed_functions g fs
  functions_agree [] h = refl
  functions_agree (k ∷ fs) h = same_parts (λ x xs. x ∷ xs) _ _ _ _ (function_agrees k (agree_first (in_function k) (identifiers fs) h)) (functions_agree fs (agree_second (in_function k) (identifiers fs) h))

  agree_both : (xs ys : Texts) → Agree xs → Agree ys → Agree (xs ++ ys)
  agree_both [] ys h k = k
  agree_both (x ∷ xs) ys h k = (h.0, agree_both xs ys h.1 k)

  agree_unless : (o : Option (List ℕ)) (new old : Texts) → Agree new → Agree old → Agree (unless_there o new old)
  agree_unless None new old h k = h
  agree_unless (Some x) new old h k = k

  agree_on_texts : (xs known : Texts) → Agree xs → Agree known → Agree (with_texts xs known)
  agree_on_texts [] known h k = k
  agree_on_texts (x ∷ xs) known h k = agree_on_texts xs (with_name x known) h.1 (agree_unless (find (λ n. bytes_eq n x) known) (known ++ x ∷ []) known (agree_both known (x ∷ []) k (h.0, tt)) k)

  pub agree_on_names : (fs : List Function) → Agree (identifiers fs) → Agree (with_functions fs [])
  agree_on_names fs h = subst Agree (sym (names_are_the_identifiers fs)) (agree_on_texts (identifiers fs) [] h tt)
