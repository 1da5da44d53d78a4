-- The names put back in a bound statement give the statement, where they do so in its parts.
use Rattle.std.proofs.Common.{ℕ, ◌+◌, ◌≡◌, ◌∙◌, List, [], ◌∷◌, ◌++◌, Option, Some, None, Ok, Bool, true, false, length, map, nat_eq, refl, sym, ap, subst, arith, append_assoc, length-append}
use Rattle.std.specs.Option.{option_or}
use Rattle.std.proofs.lemmas.List.{length-map}
use Rattle.std.proofs.lemmas.Bool.{eqb-true}
use Rattle.shim_base.specs.declared.types.Ty.{Ty}
use Rattle.shim_base.specs.declared.types.Ty.TheVariants.{Int32}
use Rattle.shim_syntax.specs.declared.tree.Sort.TheVariants.{Value}
use Rattle.shim_syntax.specs.declared.tree.Expr.{Expr}
use Rattle.shim_syntax.specs.declared.tree.Call.{Call}
use Rattle.shim_syntax.specs.declared.tree.Function.{Function}
use Rattle.shim_syntax.specs.declared.tree.Stmt.{Stmt}
use Rattle.shim_syntax.specs.declared.tree.What.{What}
use Rattle.shim_syntax.specs.declared.tree.What.TheVariants as st
use Rattle.shim_scopes.specs.declared.fault.ScopeKind.TheVariants.{UnknownName, UnknownException, Twice, WrongKind, Arity}
use Rattle.shim_scopes.specs.declared.scope.LocalDeclaration.{LocalDeclaration}
use Rattle.shim_scopes.specs.declared.scope.Handled.{Handled}
use Rattle.shim_scopes.specs.declared.tree.RCall.{RCall}
use Rattle.shim_scopes.specs.declared.tree.RStmt.{RStmt}
use Rattle.shim_scopes.specs.declared.tree.RWhat.{RWhat}
use Rattle.shim_scopes.specs.declared.tree.RWhat.TheVariants as bt
use Rattle.shim_scopes.specs.declared.tree.UExpr.{UExpr}
use Rattle.shim_scopes.specs.Binding.{unknown, unknown_in, unknown_in_option, unknown_in_all, stream_in, stream_in_option, no_number, no_input, no_output, slot_of, placed, placed_all, placed_option, exception_number, unhandled}
use Rattle.shim_syntax.specs.Names.{Texts, name_index}
use Rattle.shim_scopes.specs.Refusals.{refused_for}
use Rattle.shim_scopes.specs.Statements.{Whole, Around, Before, BoundTo, Bind, with_declaration, local_of, inside_block, opened, after_block, with_handled, tried, variable_declared, variable_slot, bind_handler, bind_declare, bind_store, bind_next, bind_assign_next, bind_get, bind_put, bind_throw, bind_block, on_tree, bind_two, bind_test, bind_if, bind_while, bind_try, bind_parts, bind_first_test, bind_for, visible, declared_in, unknown_in_both, unknown_of_two}
use Rattle.shim_scopes.specs.Calls.{function_number, function_of, unhandled_of_all, if_false, wrong_in_all, bind_known, bind_call, bind_called}
use Rattle.shim_scopes.specs.Bodies.{no_locals}
use Rattle.shim_laws_binding.specs.Naming.{Naming, expr_named, option_named, slot_named, call_named}
use Rattle.shim_laws_binding.specs.TextOrder.{Declaration, Declarations, declared_variable, sorts_of}
use Rattle.shim_laws_binding.specs.HandedOn.{Calls, calls_among}
use Rattle.shim_laws_binding.proofs.Bound.{asked, is_bound}
use Rattle.shim_laws_binding.proofs.Growth.{IsGrown, Grows, block_grows, variable_grown, as_was}
use Rattle.shim_laws_binding.proofs.Lists.{Each, each_of_both, each_same, neither, AreFrom, earlier, later}
use Rattle.shim_laws_binding.proofs.NamedSteps.{what_named, stmts_named, named_declare, named_assign, named_next, named_next_assign, named_assign_next, named_get, named_put, named_if, named_while, named_for, named_try, named_throw}
use Rattle.shim_laws_binding.proofs.CallSteps.{calls_of_what, calls_declare, calls_assign, calls_next, calls_next_assign, calls_assign_next, calls_get, calls_put, calls_if, calls_while, calls_for, calls_try, calls_throw}
use Rattle.shim_laws_binding.proofs.NamedExprs.{VariableNamed, ExceptionNamed, slot_back, exception_back, known_behind, expr_back, option_back, exprs_back}
use Rattle.shim_scopes.proofs.Refusals.{passed, first_ok, bound}

-- what is declared and in force at a place has its names
pub record IsNamed (n : Naming) (a : Around) (b : Before) : Type 0 where
  pub outer : Each (VariableNamed n.variable) a.outer
  pub own : Each (VariableNamed n.variable) b.own
  pub handled : Each (ExceptionNamed n.exception) a.handled

abbrev pub declared_name : Declaration → List ℕ
declared_name d = d.name

abbrev pub own_name : List ℕ → List ℕ
own_name x = x

-- so will have these declarations and `try` statements that follow
pub record AreToCome (n : Naming) (a : Around) (b : Before) (ds : Declarations) (ts : Texts) : Type 0 where
  pub slots : AreFrom declared_name n.variable (length b.slots) ds
  pub tries : AreFrom own_name n.exception (a.throws + length b.tries) ts

-- how what was bound is read: with its names put back, and as its calls
pub record ReadBack (T S : Type 0) : Type 0 where
  pub named : T → S
  pub calls : T → Calls

-- What was bound gives its source when its names are put back, and H holds of each of its calls.
pub record IsBack {T S : Type 0} (n : Naming) (H : RCall → Type 0) (back : ReadBack T S) (s : S) (r : BoundTo T) : Type 0 where
  pub tree : back.named r.tree ≡ s
  pub own : Each (VariableNamed n.variable) r.before.own
  pub calls : Each H (back.calls r.tree)

abbrev pub GoesBack : {T S : Type 0} → Naming → (RCall → Type 0) → ReadBack T S → S → Declarations → Texts → Bind T → Type 0
GoesBack {T = T} n H back s ds ts f = (a : Around) (b : Before) (r : BoundTo T) → f a b ≡ Ok r → IsNamed n a b → AreToCome n a b ds ts → IsBack n H back s r

abbrev pub whats : Naming → ReadBack RWhat What
whats n = record { named = what_named n; calls = calls_of_what }

abbrev pub bodies : Naming → ReadBack (List RStmt) (List Stmt)
bodies n = record { named = stmts_named n; calls = calls_among }

pub all_named : (n : Naming) (a : Around) (b : Before) → IsNamed n a b → Each (VariableNamed n.variable) (visible a b)
all_named n a b h = each_of_both (VariableNamed n.variable) a.outer b.own h.outer h.own

pub first_to_come : (n : Naming) (a : Around) (b : Before) (ds es : Declarations) (ts us : Texts) → AreToCome n a b (ds ++ es) (ts ++ us) → AreToCome n a b ds ts
first_to_come n a b ds es ts us c = record { slots = earlier declared_name n.variable (length b.slots) ds es c.slots; tries = earlier own_name n.exception (a.throws + length b.tries) ts us c.tries }

-- after the first of them the others are still to come
pub next_to_come : (n : Naming) (names : Texts) (ls : List LocalDeclaration) (a : Around) (b c : Before) (ds es : Declarations) (ts us : Texts)
    → IsGrown names ls ds ts b c → AreToCome n a b (ds ++ es) (ts ++ us) → AreToCome n a c es us
next_to_come n names ls a b c ds es ts us g t =
    let slots : length c.slots ≡ length b.slots + length ds = omega (arith, ap length g.slots, length-append b.slots (sorts_of ds), length-map ds (λ (d : Declaration). d.sort)) in
    let tries : a.throws + length c.tries ≡ (a.throws + length b.tries) + length ts = omega (arith, ap length g.tries, length-append b.tries (map (name_index names) ts), length-map ts (name_index names)) in
    record { slots = later declared_name n.variable (length b.slots) ds es (length c.slots) slots t.slots; tries = later own_name n.exception (a.throws + length b.tries) ts us (a.throws + length c.tries) tries t.tries }

pub answered : {T S : Type 0} (n : Naming) (H : RCall → Type 0) (back : ReadBack T S) (s : S) (t : T) (b : Before) (r : BoundTo T)
    → bound t b ≡ Ok r → back.named t ≡ s → Each (VariableNamed n.variable) b.own → Each H (back.calls t) → IsBack n H back s r
answered n H back s t b r e p q c = subst (λ r. IsBack n H back s r) (sym (is_bound t b r e)) (record { tree = p; own = q; calls = c })

pub block_back : {T S : Type 0} (n : Naming) (H : RCall → Type 0) (back : ReadBack T S) (s : S) (ds : Declarations) (ts : Texts) (f : Bind T) → GoesBack n H back s ds ts f → GoesBack n H back s ds ts (bind_block f)
block_back n H back s ds ts f k a b r h named t =
    let p = first_ok (f (inside_block a b) (opened b)) _ r h in
    let q = k (inside_block a b) (opened b) p.0 p.1 (record { outer = all_named n a b named; own = tt; handled = named.handled }) (record { slots = t.slots; tries = t.tries }) in
    answered n H back s p.0.tree (after_block b p.0.before) r p.2 q.tree named.own q.calls

pub tree_back : {R S T U : Type 0} (n : Naming) (H : RCall → Type 0) (back : ReadBack R S) (s : S) (over : ReadBack T U) (u : U) (g : R → T) (ds : Declarations) (ts : Texts) (f : Bind R)
    → ((x : R) → back.named x ≡ s → over.named (g x) ≡ u) → ((x : R) → over.calls (g x) ≡ back.calls x) → GoesBack n H back s ds ts f → GoesBack n H over u ds ts (on_tree g f)
tree_back n H back s over u g ds ts f up same k a b r h named t =
    let p = first_ok (f a b) _ r h in
    let q = k a b p.0 p.1 named t in
    answered n H over u (g p.0.tree) p.0.before r p.2 (up p.0.tree q.tree) q.own (each_same H (over.calls (g p.0.tree)) (back.calls p.0.tree) (same p.0.tree) q.calls)

pub after_named : (n : Naming) (a : Around) (b c : Before) → IsNamed n a b → Each (VariableNamed n.variable) c.own → IsNamed n a c
after_named n a b c named own = record { outer = named.outer; own = own; handled = named.handled }

-- what is known with what is sure to be declared is so after all that was
pub known_grown : (names : Texts) (ls : List LocalDeclaration) (ds : Declarations) (ts : Texts) (a : Around) (b c : Before) → IsGrown names ls ds ts b c → b.own ≡ [] → (x : List ℕ) → unknown (a.outer ++ ls) x ≡ None → unknown (visible a c) x ≡ None
known_grown names ls ds ts a b c g none x e =
    let whole : visible a c ≡ (a.outer ++ ls) ++ g.own.more = ap (λ l. a.outer ++ l) g.own.whole ∙ ap (λ l. a.outer ++ (l ++ (ls ++ g.own.more))) none ∙ sym (append_assoc a.outer ls g.own.more) in
    subst (λ (v : List LocalDeclaration). unknown v x ≡ None) (sym whole) (known_behind (a.outer ++ ls) g.own.more x e)

pub same_known : (around : List LocalDeclaration) (x : List ℕ) → unknown around x ≡ None → unknown around x ≡ None
same_known around x e = e

module _ (n : Naming) (H : RCall → Type 0) (w : Whole) where
  abbrev pub StmtsBack : List Stmt → Declarations → Texts → Bind (List RStmt) → Type 0
  StmtsBack s ds ts f = GoesBack n H (bodies n) s ds ts f

  abbrev pub WhatBack : What → Declarations → Texts → Bind RWhat → Type 0
  WhatBack x ds ts f = GoesBack n H (whats n) x ds ts f

  expr_is_back : (a : Around) (b : Before) (e : Expr) → IsNamed n a b → unknown_in (visible a b) e ≡ None → expr_named n.variable (placed (visible a b) e) ≡ e
  expr_is_back a b e named h = expr_back n.variable (visible a b) (visible a b) (same_known (visible a b)) (all_named n a b named) e h

  slot_is_back : (a : Around) (b : Before) (x : List ℕ) → IsNamed n a b → unknown (visible a b) x ≡ None → n.variable (slot_of (visible a b) x) ≡ x
  slot_is_back a b x named h = slot_back n.variable (visible a b) x (all_named n a b named) h

  -- a statement without calls
  none_called : (t : RWhat) → calls_of_what t ≡ [] → Each H (calls_of_what t)
  none_called t e = each_same H (calls_of_what t) [] e tt

  pub declare_back : (ty : Ty) (x : List ℕ) (e : Option Expr) (line : ℕ) → WhatBack (st.Declare ty x e) (record { name = x; sort = Value ty } ∷ []) [] (bind_declare w ty x e line)
  declare_back ty x e line a b r h named t =
      let v : List LocalDeclaration = visible a b in
      let known = asked line UnknownName (unknown_in_option v e) _ r h in
      let p = passed line UnknownName (unknown_in_option v e) _ r h in
      let q = passed line Twice (declared_in b.own x) _ r p in
      let s = passed line WrongKind (stream_in_option v e) _ r q in
      answered n H (whats n) (st.Declare ty x e) (bt.Declare ty (length b.slots) (placed_option v e)) (with_declaration w.names x (Value ty) b) r s
      (named_declare n ty (length b.slots) (placed_option v e) ∙ ap (λ y. st.Declare ty y (option_named n.variable (placed_option v e))) t.slots.0
      ∙ ap (λ y. st.Declare ty x y) (option_back n.variable v v (same_known v) (all_named n a b named) e known))
      (each_of_both (VariableNamed n.variable) b.own (local_of x (Value ty) (length b.slots) ∷ []) named.own (t.slots.0, tt))
      (none_called (bt.Declare ty (length b.slots) (placed_option v e)) (calls_declare ty (length b.slots) (placed_option v e)))

  -- a statement that adds nothing, and that two questions come before
  two_asked : (line : ℕ) (o p : Option (List ℕ)) (x : What) (t : RWhat) (b : Before) (r : BoundTo RWhat)
      → refused_for line UnknownName o (refused_for line WrongKind p (bound t b)) ≡ Ok r → Each (VariableNamed n.variable) b.own → calls_of_what t ≡ [] → (o ≡ None → what_named n t ≡ x) → IsBack n H (whats n) x r
  two_asked line o p x t b r h named none back =
      answered n H (whats n) x t b r (passed line WrongKind p _ r (passed line UnknownName o _ r h)) (back (asked line UnknownName o _ r h)) named (none_called t none)

  store_back : (g : ℕ → UExpr → RWhat) (made : List ℕ → Expr → What) (x : List ℕ) (e : Expr) (line : ℕ)
      → ((slot : ℕ) (a : UExpr) → what_named n (g slot a) ≡ made (n.variable slot) (expr_named n.variable a)) → ((slot : ℕ) (a : UExpr) → calls_of_what (g slot a) ≡ []) → WhatBack (made x e) [] [] (bind_store g x e line)
  store_back g made x e line step calls a b r h named t =
      let v : List LocalDeclaration = visible a b in
      two_asked line (unknown_in_both v x e) (option_or (no_number v x) (stream_in v e)) (made x e) (g (slot_of v x) (placed v e)) b r h named.own (calls (slot_of v x) (placed v e)) (λ none.
      let both = neither (unknown v x) (unknown_in v e) none in
      step (slot_of v x) (placed v e) ∙ ap (λ y. made y (expr_named n.variable (placed v e))) (slot_is_back a b x named both.0) ∙ ap (λ y. made x y) (expr_is_back a b e named both.1))

  pub assign_back : (x : List ℕ) (e : Expr) (line : ℕ) → WhatBack (st.Assign x e) [] [] (bind_store bt.Assign x e line)
  assign_back x e line = store_back bt.Assign st.Assign x e line (named_assign n) calls_assign

  pub next_assign_back : (x : List ℕ) (e : Expr) (line : ℕ) → WhatBack (st.NextAssign x e) [] [] (bind_store bt.NextAssign x e line)
  next_assign_back x e line = store_back bt.NextAssign st.NextAssign x e line (named_next_assign n) calls_next_assign

  pub put_back : (x : List ℕ) (e : Expr) (line : ℕ) → WhatBack (st.Put x e) [] [] (bind_put x e line)
  put_back x e line a b r h named t =
      let v : List LocalDeclaration = visible a b in
      two_asked line (unknown_in_both v x e) (option_or (no_output v x) (stream_in v e)) (st.Put x e) (bt.Put (slot_of v x) (placed v e)) b r h named.own (calls_put (slot_of v x) (placed v e)) (λ none.
      let both = neither (unknown v x) (unknown_in v e) none in
      named_put n (slot_of v x) (placed v e) ∙ ap (λ y. st.Put y (expr_named n.variable (placed v e))) (slot_is_back a b x named both.0) ∙ ap (λ y. st.Put x y) (expr_is_back a b e named both.1))

  pub next_back : (x : List ℕ) (line : ℕ) → WhatBack (st.Next x) [] [] (bind_next x line)
  next_back x line a b r h named t =
      let v : List LocalDeclaration = visible a b in
      two_asked line (unknown v x) (no_number v x) (st.Next x) (bt.Next (slot_of v x)) b r h named.own (calls_next (slot_of v x)) (λ none. named_next n (slot_of v x) ∙ ap st.Next (slot_is_back a b x named none))

  pub assign_next_back : (x y : List ℕ) (line : ℕ) → WhatBack (st.AssignNext x y) [] [] (bind_assign_next x y line)
  assign_next_back x y line a b r h named t =
      let v : List LocalDeclaration = visible a b in
      two_asked line (unknown_of_two v x y) (option_or (no_number v x) (no_number v y)) (st.AssignNext x y) (bt.AssignNext (slot_of v x) (slot_of v y)) b r h named.own (calls_assign_next (slot_of v x) (slot_of v y)) (λ none.
      let both = neither (unknown v x) (unknown v y) none in
      named_assign_next n (slot_of v x) (slot_of v y) ∙ ap (λ z. st.AssignNext z (n.variable (slot_of v y))) (slot_is_back a b x named both.0) ∙ ap (λ z. st.AssignNext x z) (slot_is_back a b y named both.1))

  pub get_back : (x y : List ℕ) (line : ℕ) → WhatBack (st.Get x y) [] [] (bind_get x y line)
  get_back x y line a b r h named t =
      let v : List LocalDeclaration = visible a b in
      two_asked line (unknown_of_two v x y) (option_or (no_number v x) (no_input v y)) (st.Get x y) (bt.Get (slot_of v x) (slot_of v y)) b r h named.own (calls_get (slot_of v x) (slot_of v y)) (λ none.
      let both = neither (unknown v x) (unknown v y) none in
      named_get n (slot_of v x) (slot_of v y) ∙ ap (λ z. st.Get z (n.variable (slot_of v y))) (slot_is_back a b x named both.0) ∙ ap (λ z. st.Get x z) (slot_is_back a b y named both.1))

  pub throw_back : (x : List ℕ) (e : Option Expr) (line : ℕ) → WhatBack (st.Throw x e) [] [] (bind_throw x e line)
  throw_back x e line a b r h named t =
      let v : List LocalDeclaration = visible a b in
      let number : ℕ = exception_number a.handled x in
      let known = asked line UnknownName (unknown_in_option v e) _ r h in
      let p = passed line UnknownName (unknown_in_option v e) _ r h in
      let q = passed line UnknownException (unhandled a.handled x) _ r p in
      let s = passed line WrongKind (stream_in_option v e) _ r q in
      answered n H (whats n) (st.Throw x e) (bt.Throw number (placed_option v e)) b r s
      (named_throw n number (placed_option v e)
      ∙ ap (λ y. st.Throw y (option_named n.variable (placed_option v e))) (exception_back n.exception a.handled x named.handled (asked line UnknownException (unhandled a.handled x) _ r p))
      ∙ ap (λ y. st.Throw x y) (option_back n.variable v v (same_known v) (all_named n a b named) e known)) named.own
      (none_called (bt.Throw number (placed_option v e)) (calls_throw number (placed_option v e)))

  -- the number of a function has its name
  abbrev pub FunctionsNamed : Type 0
  FunctionsNamed = (x : List ℕ) (f : Function) → function_of w.functions x ≡ Some f → n.function (function_number w.functions x) ≡ x

  known_call_back : FunctionsNamed → (o : Option Function) (c : Call) (line : ℕ) (a : Around) (b : Before) (r : RCall) → function_of w.functions c.function ≡ o → bind_known o w.functions c line a b ≡ Ok r
      → map (expr_named n.variable) (placed_all (visible a b) c.args) ≡ c.args → call_named n r ≡ c
  known_call_back fs None c line a b r is h args = absurd (cc h)
  known_call_back fs (Some f) c line a b r is h args =
      let p = passed line UnknownException (unhandled_of_all a.handled f.throws) _ r h in
      let q = passed line Arity (if_false c.function (nat_eq (length c.args) (length f.params))) _ r p in
      let s = passed line WrongKind (wrong_in_all (visible a b) f.params c.args) _ r q in
      let made : RCall = record { function = function_number w.functions c.function; args = placed_all (visible a b) c.args; throws = map (exception_number a.handled) f.throws } in
      let same : made ≡ r = cc s in
      let back : Call = record { function = n.function (function_number w.functions c.function); args = map (expr_named n.variable) (placed_all (visible a b) c.args) } in
      let made_back : call_named n made ≡ back = refl in
      let function_back : back ≡ record { function = c.function; args = map (expr_named n.variable) (placed_all (visible a b) c.args) } =
      ap (λ (x : List ℕ). let d : Call = record { function = x; args = map (expr_named n.variable) (placed_all (visible a b) c.args) } in d) (fs c.function f is) in
      ap (call_named n) (sym same) ∙ made_back ∙ function_back ∙ ap (λ (es : List Expr). let d : Call = record { function = c.function; args = es } in d) args

  call_back : FunctionsNamed → (c : Call) (line : ℕ) (a : Around) (b : Before) (r : RCall) → bind_call w c line a b ≡ Ok r → IsNamed n a b → call_named n r ≡ c
  call_back fs c line a b r h named =
      let v : List LocalDeclaration = visible a b in
      known_call_back fs (function_of w.functions c.function) c line a b r refl (passed line UnknownName (unknown_in_all v c.args) _ r h)
      (exprs_back n.variable v v (same_known v) (all_named n a b named) c.args (asked line UnknownName (unknown_in_all v c.args) _ r h))

  -- H holds of a call whose arguments and exceptions are those of the function that it calls
  abbrev pub HoldsOfCalls : Type 0
  HoldsOfCalls = (f : Function) (x : List ℕ) (c : RCall) → function_of w.functions x ≡ Some f → c.function ≡ function_number w.functions x
      → length c.args ≡ length f.params → map n.exception c.throws ≡ f.throws → H c

  exceptions_back : (around : List Handled) (xs : Texts) → Each (ExceptionNamed n.exception) around → unhandled_of_all around xs ≡ None → map n.exception (map (exception_number around) xs) ≡ xs
  exceptions_back around [] named h = refl
  exceptions_back around (x ∷ xs) named h =
      let both = neither (unhandled around x) (unhandled_of_all around xs) h in
      ap (λ y. y ∷ map n.exception (map (exception_number around) xs)) (exception_back n.exception around x named both.0) ∙ ap (λ ys. x ∷ ys) (exceptions_back around xs named both.1)

  is_true : (x : List ℕ) (b : Bool) → if_false x b ≡ None → b ≡ true
  is_true x true e = refl
  is_true x false e = absurd (cc e)

  known_call_holds : HoldsOfCalls → (o : Option Function) (c : Call) (line : ℕ) (a : Around) (b : Before) (r : RCall) → function_of w.functions c.function ≡ o → bind_known o w.functions c line a b ≡ Ok r
      → IsNamed n a b → H r
  known_call_holds holds None c line a b r is h named = absurd (cc h)
  known_call_holds holds (Some f) c line a b r is h named =
      let p = passed line UnknownException (unhandled_of_all a.handled f.throws) _ r h in
      let q = passed line Arity (if_false c.function (nat_eq (length c.args) (length f.params))) _ r p in
      let s = passed line WrongKind (wrong_in_all (visible a b) f.params c.args) _ r q in
      let made : RCall = record { function = function_number w.functions c.function; args = placed_all (visible a b) c.args; throws = map (exception_number a.handled) f.throws } in
      let same : made ≡ r = cc s in
      let equal : length c.args ≡ length f.params =
      eqb-true (length c.args) (length f.params) (is_true c.function (nat_eq (length c.args) (length f.params)) (asked line Arity (if_false c.function (nat_eq (length c.args) (length f.params))) _ r p)) in
      subst H same (holds f c.function made is refl (length-map c.args (placed (visible a b)) ∙ equal)
      (exceptions_back a.handled f.throws named.handled (asked line UnknownException (unhandled_of_all a.handled f.throws) _ r h)))

  call_holds : HoldsOfCalls → (c : Call) (line : ℕ) (a : Around) (b : Before) (r : RCall) → bind_call w c line a b ≡ Ok r → IsNamed n a b → H r
  call_holds holds c line a b r h named =
      known_call_holds holds (function_of w.functions c.function) c line a b r refl (passed line UnknownName (unknown_in_all (visible a b) c.args) _ r h) named

  pub called_back : FunctionsNamed → HoldsOfCalls → {T S : Type 0} (back : ReadBack T S) (made : Call → S) (g : RCall → T) (c : Call) (line : ℕ) → ((r : RCall) → back.named (g r) ≡ made (call_named n r))
      → ((r : RCall) → back.calls (g r) ≡ r ∷ []) → GoesBack n H back (made c) [] [] (bind_called g w c line)
  called_back fs holds back made g c line step calls a b r h named t =
      let p = first_ok (bind_call w c line a b) _ r h in
      answered n H back (made c) (g p.0) b r p.2 (step p.0 ∙ ap made (call_back fs c line a b p.0 p.1 named)) named.own
      (each_same H (back.calls (g p.0)) (p.0 ∷ []) (calls p.0) (call_holds holds c line a b p.0 p.1 named, tt))

  test_back : (e : Expr) (line : ℕ) (a : Around) (b : Before) (t : UExpr) → bind_test e line a b ≡ Ok t → IsNamed n a b → expr_named n.variable t ≡ e
  test_back e line a b t h named =
      let v : List LocalDeclaration = visible a b in
      let p = passed line WrongKind (stream_in v e) _ t (passed line UnknownName (unknown_in v e) _ t h) in
      let same : placed v e ≡ t = cc p in
      ap (expr_named n.variable) (sym same) ∙ expr_is_back a b e named (asked line UnknownName (unknown_in v e) _ t h)

  both_hold : (t : RWhat) (p q : List RStmt) → calls_of_what t ≡ calls_among p ++ calls_among q → Each H (calls_among p) → Each H (calls_among q) → Each H (calls_of_what t)
  both_hold t p q e x y = each_same H (calls_of_what t) (calls_among p ++ calls_among q) e (each_of_both H (calls_among p) (calls_among q) x y)

  -- one block and then another
  two_back : (g : List RStmt → List RStmt → RWhat) (x : What) (s u : List Stmt) (ls : ℕ → List LocalDeclaration) (ds es : Declarations) (ts us : Texts) (f h : Bind (List RStmt))
      → ((p q : List RStmt) → stmts_named n p ≡ s → stmts_named n q ≡ u → what_named n (g p q) ≡ x) → ((p q : List RStmt) → calls_of_what (g p q) ≡ calls_among p ++ calls_among q)
      → Grows w.names ls ds ts f → StmtsBack s ds ts f → StmtsBack u es us h → WhatBack x (ds ++ es) (ts ++ us) (bind_two g f h)
  two_back g x s u ls ds es ts us f h up calls grows k l a b r e named t =
      let p = first_ok (f a b) _ r e in
      let q = first_ok (h a p.0.before) _ r p.2 in
      let pb = k a b p.0 p.1 named (first_to_come n a b ds es ts us t) in
      let qb = l a p.0.before q.0 q.1 (after_named n a b p.0.before named pb.own)
      (next_to_come n w.names (ls (length b.slots)) a b p.0.before ds es ts us (grows a b p.0 p.1) t) in
      answered n H (whats n) x (g p.0.tree q.0.tree) q.0.before r q.2 (up p.0.tree q.0.tree pb.tree qb.tree) qb.own
      (both_hold (g p.0.tree q.0.tree) p.0.tree q.0.tree (calls p.0.tree q.0.tree) pb.calls qb.calls)

  pub if_back : (e : Expr) (s u : List Stmt) (ls : ℕ → List LocalDeclaration) (ds es : Declarations) (ts us : Texts) (f h : Bind (List RStmt)) (line : ℕ)
      → Grows w.names ls ds ts f → StmtsBack s ds ts f → StmtsBack u es us h → WhatBack (st.If e s u) (ds ++ es) (ts ++ us) (bind_if e f h line)
  if_back e s u ls ds es ts us f h line grows k l a b r is named t =
      let p = first_ok (bind_test e line a b) _ r is in
      let te : expr_named n.variable p.0 ≡ e = test_back e line a b p.0 p.1 named in
      two_back (bt.If p.0) (st.If e s u) s u no_locals ds es ts us (bind_block f) (bind_block h)
      (λ first other one two. named_if n p.0 first other ∙ ap (λ y. st.If y (stmts_named n first) (stmts_named n other)) te ∙ ap (λ y. st.If e y (stmts_named n other)) one ∙ ap (λ y. st.If e s y) two) (calls_if p.0)
      (block_grows w.names ls ds ts f grows) (block_back n H (bodies n) s ds ts f k) (block_back n H (bodies n) u es us h l) a b r p.2 named t

  pub while_back : (e : Expr) (s : List Stmt) (ds : Declarations) (ts : Texts) (f : Bind (List RStmt)) (line : ℕ) → StmtsBack s ds ts f → WhatBack (st.While e s) ds ts (bind_while e f line)
  while_back e s ds ts f line k a b r is named t =
      let p = first_ok (bind_test e line a b) _ r is in
      let te : expr_named n.variable p.0 ≡ e = test_back e line a b p.0 p.1 named in
      tree_back n H (bodies n) s (whats n) (st.While e s) (bt.While p.0) ds ts (bind_block f)
      (λ body one. named_while n p.0 body ∙ ap (λ y. st.While y (stmts_named n body)) te ∙ ap (λ y. st.While e y) one) (calls_while p.0) (block_back n H (bodies n) s ds ts f k) a b r p.2 named t

  -- the variable of a handler has its name, where this is to come
  variable_named : (y : Option (List ℕ)) (es : Declarations) (us : Texts) (a : Around) (b : Before) → IsNamed n a b → AreToCome n a b (declared_variable y ++ es) us
      → Each (VariableNamed n.variable) (variable_declared w.names y b).own
  variable_named None es us a b named t = named.own
  variable_named (Some y) es us a b named t = each_of_both (VariableNamed n.variable) b.own (local_of y (Value Int32) (length b.slots) ∷ []) named.own (t.slots.0, tt)

  variable_back : (y : Option (List ℕ)) (es : Declarations) (us : Texts) (a : Around) (b : Before) → AreToCome n a b (declared_variable y ++ es) us → slot_named n.variable (variable_slot y b) ≡ y
  variable_back None es us a b t = refl
  variable_back (Some y) es us a b t = ap Some t.slots.0

  handler_back : (y : Option (List ℕ)) (u : List Stmt) (es : Declarations) (us : Texts) (h : Bind (List RStmt)) → StmtsBack u es us h → StmtsBack u (declared_variable y ++ es) us (bind_handler w y h)
  handler_back y u es us h k a b r is named t =
      k a (variable_declared w.names y b) r is (after_named n a b (variable_declared w.names y b) named (variable_named y es us a b named t))
      (next_to_come n w.names [] a b (variable_declared w.names y b) (declared_variable y) es [] us (variable_grown w y b) t)

  pub try_back : (x : List ℕ) (y : Option (List ℕ)) (s u : List Stmt) (ls : ℕ → List LocalDeclaration) (ds es : Declarations) (ts us : Texts) (f h : Bind (List RStmt))
      → Grows w.names ls ds ts f → StmtsBack s ds ts f → StmtsBack u es us h → WhatBack (st.Try s x y u) (ds ++ (declared_variable y ++ es)) (x ∷ (ts ++ us)) (bind_try w x y f h)
  try_back x y s u ls ds es ts us f h grows k l a b r is named t =
      let p = first_ok (bind_block f (with_handled x a b) (tried w x b)) _ r is in
      let q = first_ok (bind_block (bind_handler w y h) a p.0.before) _ r p.2 in
      let number : ℕ = a.throws + length b.tries in
      let slot : Option ℕ = variable_slot y p.0.before in
      let all : Declarations = declared_variable y ++ es in
      let here : IsGrown w.names [] [] (x ∷ []) b (tried w x b) = record { own = record { more = []; whole = as_was b.own }; slots = as_was b.slots; slot_names = as_was b.slot_names; tries = refl } in
      let inside : AreToCome n a (tried w x b) (ds ++ all) (ts ++ us) = next_to_come n w.names [] a b (tried w x b) [] (ds ++ all) (x ∷ []) (ts ++ us) here t in
      let first = first_to_come n a (tried w x b) ds all ts us inside in
      let known : n.exception (a.throws + length b.tries) ≡ x = t.tries.0 in
      let in_force = each_of_both (ExceptionNamed n.exception) a.handled (record { name = x; number = a.throws + length b.tries } ∷ []) named.handled (known, tt) in
      let pb = block_back n H (bodies n) s ds ts f k (with_handled x a b) (tried w x b) p.0 p.1 (record { outer = named.outer; own = named.own; handled = in_force }) (record { slots = first.slots; tries = first.tries }) in
      let behind : AreToCome n a p.0.before all us =
      next_to_come n w.names [] a (tried w x b) p.0.before ds all ts us (block_grows w.names ls ds ts f grows (with_handled x a b) (tried w x b) p.0 p.1) inside in
      let qb = block_back n H (bodies n) u all us (bind_handler w y h) (handler_back y u es us h l) a p.0.before q.0 q.1 (after_named n a b p.0.before named pb.own) behind in
      answered n H (whats n) (st.Try s x y u) (bt.Try p.0.tree number slot q.0.tree) q.0.before r q.2
      (named_try n p.0.tree number slot q.0.tree ∙ ap (λ z. st.Try z (n.exception number) (slot_named n.variable slot) (stmts_named n q.0.tree)) pb.tree
      ∙ ap (λ z. st.Try s z (slot_named n.variable slot) (stmts_named n q.0.tree)) known
      ∙ ap (λ z. st.Try s x z (stmts_named n q.0.tree)) (variable_back y es us a p.0.before behind) ∙ ap (λ z. st.Try s x y z) qb.tree) qb.own
      (both_hold (bt.Try p.0.tree number slot q.0.tree) p.0.tree q.0.tree (calls_try p.0.tree number slot q.0.tree) pb.calls qb.calls)

  -- the test is bound after the first statement, whose declaration was known when it was examined
  parts_back : (declares : ℕ → List LocalDeclaration) (test : Option Expr) (s u z : List Stmt) (ks js : ℕ → List LocalDeclaration) (ds es fs : Declarations) (ts us vs : Texts) (f g h : Bind (List RStmt))
      (a : Around) (b : Before) (r : BoundTo RWhat)
      → Grows w.names declares ds ts f → Grows w.names ks es us g → StmtsBack s ds ts f → StmtsBack u es us g → StmtsBack z fs vs h
      → b.own ≡ [] → unknown_in_option (a.outer ++ declares (length b.slots)) test ≡ None → bind_parts test f g h a b ≡ Ok r → IsNamed n a b
      → AreToCome n a b (ds ++ (es ++ fs)) (ts ++ (us ++ vs)) → IsBack n H (whats n) (st.For s test u z) r
  parts_back declares test s u z ks js ds es fs ts us vs f g h a b r fg gg k l m none known is named t =
      let p = first_ok (f a b) _ r is in
      let q = first_ok (g a p.0.before) _ r p.2 in
      let o = first_ok (bind_block h a q.0.before) _ r q.2 in
      let pb = k a b p.0 p.1 named (first_to_come n a b ds (es ++ fs) ts (us ++ vs) t) in
      let grown = fg a b p.0 p.1 in
      let named_p = after_named n a b p.0.before named pb.own in
      let t_p = next_to_come n w.names (declares (length b.slots)) a b p.0.before ds (es ++ fs) ts (us ++ vs) grown t in
      let qb = l a p.0.before q.0 q.1 named_p (first_to_come n a p.0.before es fs us vs t_p) in
      let named_q = after_named n a b q.0.before named qb.own in
      let t_q = next_to_come n w.names (ks (length p.0.before.slots)) a p.0.before q.0.before es fs us vs (gg a p.0.before q.0 q.1) t_p in
      let ob = block_back n H (bodies n) z fs vs h m a q.0.before o.0 o.1 named_q t_q in
      let test_is : option_named n.variable (placed_option (visible a p.0.before) test) ≡ test =
      option_back n.variable (a.outer ++ declares (length b.slots)) (visible a p.0.before)
      (known_grown w.names (declares (length b.slots)) ds ts a b p.0.before grown none) (all_named n a p.0.before named_p) test known in
      answered n H (whats n) (st.For s test u z) (bt.For p.0.tree (placed_option (visible a p.0.before) test) q.0.tree o.0.tree) o.0.before r o.2
      (named_for n p.0.tree (placed_option (visible a p.0.before) test) q.0.tree o.0.tree
      ∙ ap (λ y. st.For y (option_named n.variable (placed_option (visible a p.0.before) test)) (stmts_named n q.0.tree) (stmts_named n o.0.tree)) pb.tree
      ∙ ap (λ y. st.For s y (stmts_named n q.0.tree) (stmts_named n o.0.tree)) test_is ∙ ap (λ y. st.For s test y (stmts_named n o.0.tree)) qb.tree ∙ ap (λ y. st.For s test u y) ob.tree) ob.own
      (each_same H _ (calls_among p.0.tree ++ (calls_among q.0.tree ++ calls_among o.0.tree)) (calls_for p.0.tree (placed_option (visible a p.0.before) test) q.0.tree o.0.tree)
      (each_of_both H (calls_among p.0.tree) (calls_among q.0.tree ++ calls_among o.0.tree) pb.calls (each_of_both H (calls_among q.0.tree) (calls_among o.0.tree) qb.calls ob.calls)))

  pub for_back : (declares : ℕ → List LocalDeclaration) (test : Option Expr) (s u z : List Stmt) (ks js : ℕ → List LocalDeclaration) (ds es fs : Declarations) (ts us vs : Texts) (f g h : Bind (List RStmt)) (line : ℕ)
      → Grows w.names declares ds ts f → Grows w.names ks es us g → StmtsBack s ds ts f → StmtsBack u es us g → StmtsBack z fs vs h
      → WhatBack (st.For s test u z) (ds ++ (es ++ fs)) (ts ++ (us ++ vs)) (bind_for declares test f g h line)
  for_back declares test s u z ks js ds es fs ts us vs f g h line fg gg k l m a b r is named t =
      let p = first_ok (bind_first_test declares test line a b) _ r is in
      let known = asked line UnknownName (unknown_in_option (visible a b ++ declares (length b.slots)) test) _ p.0 p.1 in
      let q = first_ok (bind_parts test f g h (inside_block a b) (opened b)) _ r p.2 in
      let qb = parts_back declares test s u z ks js ds es fs ts us vs f g h (inside_block a b) (opened b) q.0 fg gg k l m refl known q.1
      (record { outer = all_named n a b named; own = tt; handled = named.handled }) (record { slots = t.slots; tries = t.tries }) in
      answered n H (whats n) (st.For s test u z) q.0.tree (after_block b q.0.before) r q.2 qb.tree named.own qb.calls
