-- Each kind of statement is bound by the rules of lexical scope, where its parts are.
use Rattle.std.proofs.Common.{ℕ, suc, ◌+◌, ◌≡◌, ◌∙◌, List, [], ◌∷◌, ◌++◌, Option, Some, None, Ok, length, refl, sym, ap, subst, arith, append_assoc, length-append}
use Rattle.std.specs.Option.{option_or}
use Rattle.std.proofs.lemmas.List.{append-nil}
use Rattle.shim_base.specs.declared.types.Ty.{Ty}
use Rattle.shim_base.specs.declared.types.Ty.TheVariants.{Int32}
use Rattle.shim_syntax.specs.declared.tree.Sort.{Sort}
use Rattle.shim_syntax.specs.declared.tree.Sort.TheVariants.{Value}
use Rattle.shim_syntax.specs.declared.tree.Expr.{Expr}
use Rattle.shim_syntax.specs.declared.tree.Call.{Call}
use Rattle.shim_syntax.specs.declared.tree.Stmt.{Stmt}
use Rattle.shim_syntax.specs.declared.tree.What.{What}
use Rattle.shim_syntax.specs.declared.tree.What.TheVariants as st
use Rattle.shim_scopes.specs.declared.fault.ScopeKind.TheVariants.{UnknownName, UnknownException, Twice, WrongKind}
use Rattle.shim_scopes.specs.declared.scope.LocalDeclaration.{LocalDeclaration}
use Rattle.shim_scopes.specs.declared.scope.Handled.{Handled}
use Rattle.shim_scopes.specs.declared.tree.RCall.{RCall}
use Rattle.shim_scopes.specs.declared.tree.RStmt.{RStmt}
use Rattle.shim_scopes.specs.declared.tree.RWhat.{RWhat}
use Rattle.shim_scopes.specs.declared.tree.RWhat.TheVariants as rt
use Rattle.shim_scopes.specs.declared.tree.UExpr.{UExpr}
use Rattle.shim_scopes.specs.Binding.{unknown, unknown_in, unknown_in_option, stream_in, stream_in_option, no_number, no_input, no_output, slot_of, placed, placed_option, exception_number, unhandled}
use Rattle.shim_syntax.specs.Names.{Texts, name_index}
use Rattle.shim_scopes.specs.Refusals.{refused_for}
use Rattle.shim_scopes.specs.Statements.{Whole, Around, Before, BoundTo, Bind, with_declaration, local_of, inside_block, opened, after_block, with_handled, tried, variable_declared, variable_slot, bind_handler, bind_declare, bind_store, bind_next, bind_assign_next, bind_get, bind_put, bind_throw, bind_block, on_tree, bind_test, bind_if, bind_while, bind_try, bind_parts, bind_first_test, bind_for, visible, declared_in, unknown_in_both, unknown_of_two}
use Rattle.shim_scopes.specs.Calls.{bind_call, bind_called}
use Rattle.shim_laws_binding.specs.TextOrder.{Declarations}
use Rattle.shim_laws_binding.specs.LexicalScope.{Point, point_after_declaration, inside_try, point_after_block, point_after_variable, slot_of_variable, BindsExpr, BindsOption, BindsCall, BindsWhat, declare, assign, next, next_assign, assign_next, get, put, if_else, while, for_loop, try, throw, BindsStmts, BindsBlock, in_block}
use Rattle.shim_laws_binding.specs.Innermost.{IsSlotOfInnermost}
use Rattle.shim_laws_binding.proofs.Bound.{asked, is_bound, its_before}
use Rattle.shim_laws_binding.proofs.Growth.{Grows}
use Rattle.shim_laws_binding.proofs.Lists.{neither}
use Rattle.shim_laws_binding.proofs.NamedParts.{known_grown, same_known}
use Rattle.shim_laws_binding.proofs.ScopeExprs.{point, slot_is_innermost, number_is_innermost, expr_placed, option_placed, call_bound}
use Rattle.shim_scopes.proofs.Refusals.{passed, first_ok, bound}

-- what is bound at a point is so by the rules, up to the point after it
abbrev pub ByRules : {T S : Type 0} → (Point → S → T → Point → Type 0) → S → Bind T → Type 0
ByRules {T = T} Rule s f = (a : Around) (b : Before) (r : BoundTo T) → f a b ≡ Ok r → Rule (point a b) s r.tree (point a r.before)

pub by_answer : {T S : Type 0} (Rule : Point → S → T → Point → Type 0) (s : S) (p : Point) (a : Around) (t : T) (b : Before) (r : BoundTo T) → bound t b ≡ Ok r → Rule p s t (point a b) → Rule p s r.tree (point a r.before)
by_answer {T = T} Rule s p a t b r e h = subst (λ (x : BoundTo T). Rule p s x.tree (point a x.before)) (sym (is_bound t b r e)) h

abbrev pub point_of : List LocalDeclaration → List Handled → ℕ → ℕ → Point
point_of ls hs m i = record { declared = ls; handled = hs; slots = m; exceptions = i }

pub same_point : (ls ks : List LocalDeclaration) (hs gs : List Handled) (m n i j : ℕ) → ls ≡ ks → hs ≡ gs → m ≡ n → i ≡ j → point_of ls hs m i ≡ point_of ks gs n j
same_point ls ks hs gs m n i j p o q r =
    ap (λ l. point_of l hs m i) p ∙ ap (λ l. point_of ks l m i) o ∙ ap (λ l. point_of ks gs l i) q ∙ ap (point_of ks gs n) r

point_declared : (names : Texts) (x : List ℕ) (sort : Sort) (a : Around) (b : Before) → point a (with_declaration names x sort b) ≡ point_after_declaration x sort (point a b)
point_declared names x sort a b =
    same_point (a.outer ++ (b.own ++ local_of x sort (length b.slots) ∷ [])) ((a.outer ++ b.own) ++ local_of x sort (length b.slots) ∷ []) a.handled a.handled
    (length (b.slots ++ sort ∷ [])) (suc (length b.slots)) (a.throws + length b.tries) (a.throws + length b.tries)
    (sym (append_assoc a.outer b.own (local_of x sort (length b.slots) ∷ []))) refl (omega (arith, length-append b.slots (sort ∷ []))) refl

-- a block begins at the point where it stands
point_within : (a : Around) (b : Before) → point (inside_block a b) (opened b) ≡ point a b
point_within a b = same_point ((a.outer ++ b.own) ++ []) (a.outer ++ b.own) a.handled a.handled (length b.slots) (length b.slots) (a.throws + length b.tries) (a.throws + length b.tries) (append-nil (a.outer ++ b.own)) refl refl refl

point_tried : (w : Whole) (x : List ℕ) (a : Around) (b : Before) → point (with_handled x a b) (tried w x b) ≡ inside_try x (point a b)
point_tried w x a b =
    let inside : List Handled = a.handled ++ record { name = x; number = a.throws + length b.tries } ∷ [] in
    same_point (a.outer ++ b.own) (a.outer ++ b.own) inside inside (length b.slots) (length b.slots)
    (a.throws + length (b.tries ++ name_index w.names x ∷ [])) (suc (a.throws + length b.tries)) refl refl refl (omega (arith, length-append b.tries (name_index w.names x ∷ [])))

-- and after a handler's variable, where it has one
point_variable : (names : Texts) (y : Option (List ℕ)) (a : Around) (b : Before) → point a (variable_declared names y b) ≡ point_after_variable y (point a b)
point_variable names None a b = refl
point_variable names (Some y) a b = point_declared names y (Value Int32) a b

module _ (w : Whole) where
  abbrev pub Stmts : Point → List Stmt → List RStmt → Point → Type 0
  Stmts = BindsStmts w.functions

  abbrev pub Block : Point → List Stmt → List RStmt → Point → Type 0
  Block = BindsBlock w.functions

  abbrev pub Whats : Point → What → RWhat → Point → Type 0
  Whats = BindsWhat w.functions

  pub block_by_rules : (body : List Stmt) (f : Bind (List RStmt)) → ByRules Stmts body f → ByRules Block body (bind_block f)
  block_by_rules body f k a b r h =
      let p = first_ok (f (inside_block a b) (opened b)) _ r h in
      let q = subst (λ (x : Point). Stmts x body p.0.tree (point (inside_block a b) p.0.before)) (point_within a b) (k (inside_block a b) (opened b) p.0 p.1) in
      by_answer Block body (point a b) a p.0.tree (after_block b p.0.before) r p.2 (in_block q)

  pub tree_by_rules : {R T S U : Type 0} (Rule : Point → S → R → Point → Type 0) (Over : Point → U → T → Point → Type 0) (s : S) (v : U) (g : R → T) (f : Bind R)
      → ((p q : Point) (t : R) → Rule p s t q → Over p v (g t) q) → ByRules Rule s f → ByRules Over v (on_tree g f)
  tree_by_rules Rule Over s v g f up k a b r h =
      let p = first_ok (f a b) _ r h in
      by_answer Over v (point a b) a (g p.0.tree) p.0.before r p.2 (up (point a b) (point a p.0.before) p.0.tree (k a b p.0 p.1))

  slot_by_rules : (a : Around) (b : Before) (x : List ℕ) → unknown (visible a b) x ≡ None → IsSlotOfInnermost x (visible a b) (slot_of (visible a b) x)
  slot_by_rules a b x h = slot_is_innermost x (visible a b) h

  expr_by_rules : (a : Around) (b : Before) (e : Expr) → unknown_in (visible a b) e ≡ None → BindsExpr (visible a b) e (placed (visible a b) e)
  expr_by_rules a b e h = expr_placed (visible a b) (visible a b) (same_known (visible a b)) e h

  pub declare_by_rules : (ty : Ty) (x : List ℕ) (e : Option Expr) (line : ℕ) → ByRules Whats (st.Declare ty x e) (bind_declare w ty x e line)
  declare_by_rules ty x e line a b r h =
      let v : List LocalDeclaration = visible a b in
      let known = asked line UnknownName (unknown_in_option v e) _ r h in
      let p = passed line UnknownName (unknown_in_option v e) _ r h in
      let q = passed line Twice (declared_in b.own x) _ r p in
      let s = passed line WrongKind (stream_in_option v e) _ r q in
      by_answer Whats (st.Declare ty x e) (point a b) a (rt.Declare ty (length b.slots) (placed_option v e)) (with_declaration w.names x (Value ty) b) r s
      (subst (λ (z : Point). Whats (point a b) (st.Declare ty x e) (rt.Declare ty (length b.slots) (placed_option v e)) z) (sym (point_declared w.names x (Value ty) a b))
      (declare {p = point a b} {ty = ty} {x = x} (option_placed v v (same_known v) e known)))

  -- a statement that adds nothing, and that two questions come before
  two_asked : (line : ℕ) (o p : Option (List ℕ)) (x : What) (t : RWhat) (a : Around) (b : Before) (r : BoundTo RWhat)
      → refused_for line UnknownName o (refused_for line WrongKind p (bound t b)) ≡ Ok r → (o ≡ None → Whats (point a b) x t (point a b)) → Whats (point a b) x r.tree (point a r.before)
  two_asked line o p x t a b r h rule = by_answer Whats x (point a b) a t b r (passed line WrongKind p _ r (passed line UnknownName o _ r h)) (rule (asked line UnknownName o _ r h))

  store_by_rules : (g : ℕ → UExpr → RWhat) (made : List ℕ → Expr → What) (x : List ℕ) (e : Expr) (line : ℕ)
      → ((p : Point) (slot : ℕ) (t : UExpr) → IsSlotOfInnermost x p.declared slot → BindsExpr p.declared e t → Whats p (made x e) (g slot t) p) → ByRules Whats (made x e) (bind_store g x e line)
  store_by_rules g made x e line rule a b r h =
      let v : List LocalDeclaration = visible a b in
      two_asked line (unknown_in_both v x e) (option_or (no_number v x) (stream_in v e)) (made x e) (g (slot_of v x) (placed v e)) a b r h (λ none.
      let both = neither (unknown v x) (unknown_in v e) none in
      rule (point a b) (slot_of v x) (placed v e) (slot_by_rules a b x both.0) (expr_by_rules a b e both.1))

  pub assign_by_rules : (x : List ℕ) (e : Expr) (line : ℕ) → ByRules Whats (st.Assign x e) (bind_store rt.Assign x e line)
  assign_by_rules x e line = store_by_rules rt.Assign st.Assign x e line (λ p slot t i k. assign i k)

  pub next_assign_by_rules : (x : List ℕ) (e : Expr) (line : ℕ) → ByRules Whats (st.NextAssign x e) (bind_store rt.NextAssign x e line)
  next_assign_by_rules x e line = store_by_rules rt.NextAssign st.NextAssign x e line (λ p slot t i k. next_assign i k)

  pub put_by_rules : (x : List ℕ) (e : Expr) (line : ℕ) → ByRules Whats (st.Put x e) (bind_put x e line)
  put_by_rules x e line a b r h =
      let v : List LocalDeclaration = visible a b in
      two_asked line (unknown_in_both v x e) (option_or (no_output v x) (stream_in v e)) (st.Put x e) (rt.Put (slot_of v x) (placed v e)) a b r h (λ none.
      let both = neither (unknown v x) (unknown_in v e) none in
      put {p = point a b} (slot_by_rules a b x both.0) (expr_by_rules a b e both.1))

  pub next_by_rules : (x : List ℕ) (line : ℕ) → ByRules Whats (st.Next x) (bind_next x line)
  next_by_rules x line a b r h =
      let v : List LocalDeclaration = visible a b in
      two_asked line (unknown v x) (no_number v x) (st.Next x) (rt.Next (slot_of v x)) a b r h (λ none. next {p = point a b} (slot_by_rules a b x none))

  pub assign_next_by_rules : (x y : List ℕ) (line : ℕ) → ByRules Whats (st.AssignNext x y) (bind_assign_next x y line)
  assign_next_by_rules x y line a b r h =
      let v : List LocalDeclaration = visible a b in
      two_asked line (unknown_of_two v x y) (option_or (no_number v x) (no_number v y)) (st.AssignNext x y) (rt.AssignNext (slot_of v x) (slot_of v y)) a b r h (λ none.
      let both = neither (unknown v x) (unknown v y) none in
      assign_next {p = point a b} (slot_by_rules a b x both.0) (slot_by_rules a b y both.1))

  pub get_by_rules : (x y : List ℕ) (line : ℕ) → ByRules Whats (st.Get x y) (bind_get x y line)
  get_by_rules x y line a b r h =
      let v : List LocalDeclaration = visible a b in
      two_asked line (unknown_of_two v x y) (option_or (no_number v x) (no_input v y)) (st.Get x y) (rt.Get (slot_of v x) (slot_of v y)) a b r h (λ none.
      let both = neither (unknown v x) (unknown v y) none in
      get {p = point a b} (slot_by_rules a b x both.0) (slot_by_rules a b y both.1))

  pub throw_by_rules : (x : List ℕ) (e : Option Expr) (line : ℕ) → ByRules Whats (st.Throw x e) (bind_throw x e line)
  throw_by_rules x e line a b r h =
      let v : List LocalDeclaration = visible a b in
      let known = asked line UnknownName (unknown_in_option v e) _ r h in
      let p = passed line UnknownName (unknown_in_option v e) _ r h in
      let q = passed line UnknownException (unhandled a.handled x) _ r p in
      let s = passed line WrongKind (stream_in_option v e) _ r q in
      by_answer Whats (st.Throw x e) (point a b) a (rt.Throw (exception_number a.handled x) (placed_option v e)) b r s
      (throw {p = point a b} (number_is_innermost x a.handled (asked line UnknownException (unhandled a.handled x) _ r p)) (option_placed v v (same_known v) e known))

  pub called_by_rules : {T S : Type 0} (Rule : Point → S → T → Point → Type 0) (made : Call → S) (g : RCall → T) (c : Call) (line : ℕ)
      → ((p : Point) (r : RCall) → BindsCall w.functions p c r → Rule p (made c) (g r) p) → ByRules Rule (made c) (bind_called g w c line)
  called_by_rules Rule made g c line up a b r h =
      let p = first_ok (bind_call w c line a b) _ r h in
      by_answer Rule (made c) (point a b) a (g p.0) b r p.2 (up (point a b) p.0 (call_bound w c line a b p.0 p.1))

  test_by_rules : (e : Expr) (line : ℕ) (a : Around) (b : Before) (t : UExpr) → bind_test e line a b ≡ Ok t → BindsExpr (visible a b) e t
  test_by_rules e line a b t h =
      let v : List LocalDeclaration = visible a b in
      let p = passed line WrongKind (stream_in v e) _ t (passed line UnknownName (unknown_in v e) _ t h) in
      let same : placed v e ≡ t = cc p in
      subst (λ (x : UExpr). BindsExpr v e x) same (expr_by_rules a b e (asked line UnknownName (unknown_in v e) _ t h))

  pub if_by_rules : (e : Expr) (s z : List Stmt) (f h : Bind (List RStmt)) (line : ℕ) → ByRules Stmts s f → ByRules Stmts z h → ByRules Whats (st.If e s z) (bind_if e f h line)
  if_by_rules e s z f h line k l a b r is =
      let t = first_ok (bind_test e line a b) _ r is in
      let p = first_ok (bind_block f a b) _ r t.2 in
      let q = first_ok (bind_block h a p.0.before) _ r p.2 in
      by_answer Whats (st.If e s z) (point a b) a (rt.If t.0 p.0.tree q.0.tree) q.0.before r q.2
      (if_else {p = point a b} (test_by_rules e line a b t.0 t.1) (block_by_rules s f k a b p.0 p.1) (block_by_rules z h l a p.0.before q.0 q.1))

  pub while_by_rules : (e : Expr) (s : List Stmt) (f : Bind (List RStmt)) (line : ℕ) → ByRules Stmts s f → ByRules Whats (st.While e s) (bind_while e f line)
  while_by_rules e s f line k a b r is =
      let t = first_ok (bind_test e line a b) _ r is in
      let p = first_ok (bind_block f a b) _ r t.2 in
      by_answer Whats (st.While e s) (point a b) a (rt.While t.0 p.0.tree) p.0.before r p.2
      (while {p = point a b} (test_by_rules e line a b t.0 t.1) (block_by_rules s f k a b p.0 p.1))

  -- after a block the declarations of the block before it go on
  block_keeps : (f : Bind (List RStmt)) (a : Around) (b : Before) (r : BoundTo (List RStmt)) → bind_block f a b ≡ Ok r → r.before.own ≡ b.own
  block_keeps f a b r h =
      let p = first_ok (f (inside_block a b) (opened b)) _ r h in
      ap (λ (c : Before). c.own) (sym (its_before p.0.tree (after_block b p.0.before) r p.2))

  -- the slot of a handler's variable is that of its declaration
  same_slot : (y : Option (List ℕ)) (a : Around) (b : Before) → slot_of_variable y (point a b) ≡ variable_slot y b
  same_slot None a b = refl
  same_slot (Some y) a b = refl

  pub try_by_rules : (x : List ℕ) (y : Option (List ℕ)) (s z : List Stmt) (f h : Bind (List RStmt)) → ByRules Stmts s f → ByRules Stmts z h → ByRules Whats (st.Try s x y z) (bind_try w x y f h)
  try_by_rules x y s z f h k l a b r is =
      let p = first_ok (bind_block f (with_handled x a b) (tried w x b)) _ r is in
      let q = first_ok (bind_block (bind_handler w y h) a p.0.before) _ r p.2 in
      let begun : Before = variable_declared w.names y (opened p.0.before) in
      let o = first_ok (h (inside_block a p.0.before) begun) _ q.0 q.1 in
      let number : ℕ = a.throws + length b.tries in
      let body = subst (λ (v : Point). Block v s p.0.tree (point (with_handled x a b) p.0.before)) (point_tried w x a b) (block_by_rules s f k (with_handled x a b) (tried w x b) p.0 p.1) in
      let own : visible a p.0.before ≡ visible a b = ap (λ ls. a.outer ++ ls) (block_keeps f (with_handled x a b) (tried w x b) p.0 p.1) in
      let behind : point a p.0.before ≡ point_after_block (point a b) (point (with_handled x a b) p.0.before) =
      same_point (visible a p.0.before) (visible a b) a.handled a.handled (length p.0.before.slots) (length p.0.before.slots) (a.throws + length p.0.before.tries) (a.throws + length p.0.before.tries) own refl refl refl in
      let begins : point (inside_block a p.0.before) begun ≡ point_after_variable y (point_after_block (point a b) (point (with_handled x a b) p.0.before)) =
      point_variable w.names y (inside_block a p.0.before) (opened p.0.before) ∙ ap (λ v. point_after_variable y v) (point_within a p.0.before ∙ behind) in
      let handler = subst (λ (v : Point). Stmts v z o.0.tree (point (inside_block a p.0.before) o.0.before)) begins (l (inside_block a p.0.before) begun o.0 o.1) in
      let after : point_after_block (point a b) (point (inside_block a p.0.before) o.0.before) ≡ point a (after_block p.0.before o.0.before) =
      same_point (visible a b) (visible a p.0.before) a.handled a.handled (length o.0.before.slots) (length o.0.before.slots) (a.throws + length o.0.before.tries) (a.throws + length o.0.before.tries)
      (sym own) refl refl refl in
      let rule = try {p = point a b} {x = x} {y = y} body handler in
      let placed : Whats (point a b) (st.Try s x y z) (rt.Try p.0.tree number (variable_slot y p.0.before) o.0.tree) (point a (after_block p.0.before o.0.before)) =
      subst (λ (v : Point). Whats (point a b) (st.Try s x y z) (rt.Try p.0.tree number (variable_slot y p.0.before) o.0.tree) v) after
      (subst (λ v. Whats (point a b) (st.Try s x y z) (rt.Try p.0.tree number v o.0.tree) (point_after_block (point a b) (point (inside_block a p.0.before) o.0.before))) (same_slot y (with_handled x a b) p.0.before) rule) in
      by_answer Whats (st.Try s x y z) (point a b) a (rt.Try p.0.tree number (variable_slot y p.0.before) q.0.tree) q.0.before r q.2
      (subst (λ (v : BoundTo (List RStmt)). Whats (point a b) (st.Try s x y z) (rt.Try p.0.tree number (variable_slot y p.0.before) v.tree) (point a v.before))
      (sym (is_bound o.0.tree (after_block p.0.before o.0.before) q.0 o.2)) placed)

  behind_parts : (x : What) (p : Point) (a : Around) (t : RWhat) (b : Before) (r : BoundTo RWhat) → bound t b ≡ Ok r → Whats p x t (point_after_block p (point a b)) → Whats p x r.tree (point_after_block p (point a r.before))
  behind_parts x p a t b r e h = subst (λ (y : BoundTo RWhat). Whats p x y.tree (point_after_block p (point a y.before))) (sym (is_bound t b r e)) h

  -- the test is bound after the first statement, whose declaration was known when it was examined
  parts_by_rules : (declares : ℕ → List LocalDeclaration) (test : Option Expr) (s v z : List Stmt) (ds : Declarations) (ts : Texts) (f g h : Bind (List RStmt)) (a : Around) (b : Before) (r : BoundTo RWhat)
      → Grows w.names declares ds ts f → ByRules Stmts s f → ByRules Stmts v g → ByRules Stmts z h → b.own ≡ [] → unknown_in_option (a.outer ++ declares (length b.slots)) test ≡ None
      → bind_parts test f g h a b ≡ Ok r → Whats (point a b) (st.For s test v z) r.tree (point_after_block (point a b) (point a r.before))
  parts_by_rules declares test s v z ds ts f g h a b r grows k l m none known is =
      let p = first_ok (f a b) _ r is in
      let q = first_ok (g a p.0.before) _ r p.2 in
      let o = first_ok (bind_block h a q.0.before) _ r q.2 in
      let test_is : BindsOption (visible a p.0.before) test (placed_option (visible a p.0.before) test) =
      option_placed (a.outer ++ declares (length b.slots)) (visible a p.0.before)
      (known_grown w.names (declares (length b.slots)) ds ts a b p.0.before (grows a b p.0 p.1) none) test known in
      let parts = for_loop {p = point a b} (k a b p.0 p.1) test_is (l a p.0.before q.0 q.1) (block_by_rules z h m a q.0.before o.0 o.1) in
      let made : RWhat = rt.For p.0.tree (placed_option (visible a p.0.before) test) q.0.tree o.0.tree in
      behind_parts (st.For s test v z) (point a b) a made o.0.before r o.2 parts

  pub for_by_rules : (declares : ℕ → List LocalDeclaration) (test : Option Expr) (s v z : List Stmt) (ds : Declarations) (ts : Texts) (f g h : Bind (List RStmt)) (line : ℕ)
      → Grows w.names declares ds ts f → ByRules Stmts s f → ByRules Stmts v g → ByRules Stmts z h → ByRules Whats (st.For s test v z) (bind_for declares test f g h line)
  for_by_rules declares test s v z ds ts f g h line grows k l m a b r is =
      let p = first_ok (bind_first_test declares test line a b) _ r is in
      let known = asked line UnknownName (unknown_in_option (visible a b ++ declares (length b.slots)) test) _ p.0 p.1 in
      let q = first_ok (bind_parts test f g h (inside_block a b) (opened b)) _ r p.2 in
      let parts = parts_by_rules declares test s v z ds ts f g h (inside_block a b) (opened b) q.0 grows k l m refl known q.1 in
      by_answer Whats (st.For s test v z) (point a b) a q.0.tree (after_block b q.0.before) r q.2
      (subst (λ (y : Point). Whats y (st.For s test v z) q.0.tree (point_after_block y (point (inside_block a b) q.0.before))) (point_within a b) parts)
