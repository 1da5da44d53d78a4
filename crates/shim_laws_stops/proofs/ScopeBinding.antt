-- What each kind of statement is bound to names what is in scope.
use Rattle.std.proofs.Common.{ℕ, ◌+◌, ◌≤◌, ◌≡◌, ◌∙◌, Bool, true, false, List, [], ◌∷◌, ◌++◌, Option, Some, None, Ok, length, map, nat_eq, eqb-true, slice_get, refl, sym, ap, subst, arith, append_assoc, length-append}
use Rattle.std.specs.Option.{option_or}
use Rattle.std.proofs.lemmas.List.{append-nil, map-append}
use Rattle.shim_base.specs.declared.types.Ty.{Ty}
use Rattle.shim_base.specs.declared.types.Ty.TheVariants.{Int32}
use Rattle.shim_syntax.specs.declared.tree.Call.{Call}
use Rattle.shim_syntax.specs.declared.tree.Expr.{Expr}
use Rattle.shim_syntax.specs.declared.tree.Function.{Function}
use Rattle.shim_syntax.specs.declared.tree.Param.{Param}
use Rattle.shim_syntax.specs.declared.tree.Sort.{Sort}
use Rattle.shim_syntax.specs.declared.tree.Sort.TheVariants.{Value}
use Rattle.shim_syntax.specs.Names.{Texts}
use Rattle.shim_laws_binding.specs.TextOrder.{Declarations}
use Rattle.shim_scopes.specs.declared.fault.ScopeKind.TheVariants.{UnknownName, UnknownException, Twice, WrongKind, Arity}
use Rattle.shim_scopes.specs.declared.scope.LocalDeclaration.{LocalDeclaration}
use Rattle.shim_scopes.specs.declared.tree.RCall.{RCall}
use Rattle.shim_scopes.specs.declared.tree.RFunction.{RFunction}
use Rattle.shim_scopes.specs.declared.tree.RStmt.{RStmt}
use Rattle.shim_scopes.specs.declared.tree.RWhat.{RWhat}
use Rattle.shim_scopes.specs.declared.tree.RWhat.TheVariants as to
use Rattle.shim_scopes.specs.declared.tree.UExpr.{UExpr}
use Rattle.shim_scopes.specs.declared.tree.UParam.{UParam}
use Rattle.shim_scopes.specs.Binding.{unknown, unknown_in, unknown_in_all, unknown_in_option, stream_in, stream_in_option, no_number, no_input, no_output, slot_of, placed, placed_all, placed_option, exception_number, unhandled}
use Rattle.shim_scopes.specs.Refusals.{refused_for}
use Rattle.shim_scopes.specs.Statements.{Whole, Around, Before, BoundTo, Bind, local_of, with_declaration, inside_block, opened, after_block, with_handled, tried, variable_slot, bind_handler, bind_declare, bind_store, bind_next, bind_assign_next, bind_get, bind_put, bind_throw, bind_block, on_tree, bind_test, bind_if, bind_while, bind_try, bind_parts, bind_first_test, bind_for, visible, declared_in, unknown_in_both, unknown_of_two}
use Rattle.shim_scopes.specs.Calls.{function_number, function_of, unhandled_of_all, if_false, wrong_arg, wrong_in_all, bind_known, bind_call, bind_called}
use Rattle.shim_units.specs.declared.form.Form.{Form}
use Rattle.shim_units.specs.Calls.{params_at, lends}
use Rattle.shim_units.specs.Uses.{names_in, names_in_option, arg_uses, args_uses}
use Rattle.shim_process.specs.LocalState.{unit_at}
use Rattle.shim_laws_binding.specs.LexicalScope.{Pairwise, BindsExpr}
use Rattle.shim_laws_binding.proofs.Bound.{is_bound, asked}
use Rattle.shim_laws_binding.proofs.Growth.{IsGrown, Grows}
use Rattle.shim_laws_binding.proofs.Known.{function_stands_at}
use Rattle.shim_laws_binding.proofs.Lists.{Each, each_of_both, each_of_second, neither}
use Rattle.shim_laws_binding.proofs.NamedParts.{same_known, known_grown}
use Rattle.shim_laws_binding.proofs.ScopeExprs.{slot_is_innermost, expr_placed, option_placed, exprs_placed}
use Rattle.shim_laws_sources.proofs.Lists.{at_length, each_weaker}
use Rattle.shim_laws_sources.proofs.SortedBinding.{GoesOn, as_it_was, goes_twice}
use Rattle.shim_scopes.proofs.Refusals.{passed, first_ok, bound}
use Rattle.shim_laws_stops.specs.InScope.{is_number}
use Rattle.shim_laws_stops.proofs.Among.{Among}
use Rattle.shim_laws_stops.proofs.ScopeLifting.{OnlyNames, ReadsNumbers}
use Rattle.shim_laws_stops.proofs.ScopeExprs.{slots, slot_among, only_none, only_both, bare_named, IsPlaced, ArePlaced, number_bound, input_bound, output_bound, IsNumber, placed_numbers, number_behind, expr_reads, option_reads, arg_suits, arg_names}
use Rattle.shim_laws_stops.proofs.ScopeCalls.{ArgsSuit, CallSuits}
use Rattle.shim_laws_stops.proofs.ScopeParts.{BodyIn, HandlerIn, handler_is_in, WhatIn, StmtIn, part_declare, part_next, part_assign_next, part_get, part_put, part_throw, part_call, part_if, part_while, part_for, part_block, part_try}

pub longer : (xs ys : List Sort) → GoesOn xs ys → length xs ≤ length ys
longer xs ys g = let e : length ys ≡ length (xs ++ g.more) = ap length g.whole in omega (arith, e, length-append xs g.more)

pub placed_later : (m n : ℕ) (all : List Sort) (ls : List LocalDeclaration) → m ≤ n → ArePlaced m all ls → ArePlaced n all ls
placed_later m n all ls less h = each_weaker (IsPlaced m all) (IsPlaced n all) (λ l p. let below = p.below in record { sort = p.sort; below = omega (arith, below, less) }) ls h

-- What is right is decided by the slots in scope, how many slots stand before and after, all slots of the function, and those that come into scope.
abbrev pub Right : Type 0 → Type 1
Right T = List ℕ → ℕ → ℕ → List Sort → List ℕ → T → Type 0

-- The slots go on from those before, so do the declarations of the block, and the tree is right in a function whose slots go on from these.
pub record IsScopedBy {T : Type 0} (right : Right T) (a : Around) (old : Before) (r : BoundTo T) : Type 0 where
  pub slots_on : GoesOn old.slots r.before.slots
  pub more : List LocalDeclaration
  pub own : r.before.own ≡ old.own ++ more
  pub placed : (all : List Sort) → GoesOn r.before.slots all → ArePlaced (length r.before.slots) all more
  pub tree : (all : List Sort) → GoesOn r.before.slots all → ArePlaced (length old.slots) all (visible a old) → right (slots (visible a old)) (length old.slots) (length r.before.slots) all (slots more) r.tree

abbrev pub Scopes : {T : Type 0} → Right T → Bind T → Type 0
Scopes {T = T} right f = (a : Around) (b : Before) (r : BoundTo T) → f a b ≡ Ok r → IsScopedBy right a b r

pub at_answer : {T : Type 0} (right : Right T) (a : Around) (old new : Before) (t : T) (r : BoundTo T) → bound t new ≡ Ok r → IsScopedBy right a old (record { tree = t; before = new }) → IsScopedBy right a old r
at_answer right a old new t r e h = subst (λ s. IsScopedBy right a old s) (sym (is_bound t new r e)) h

-- what comes into no scope
pub stays : {T : Type 0} (right : Right T) (a : Around) (t : T) (b : Before) (r : BoundTo T)
    → ((all : List Sort) → ArePlaced (length b.slots) all (visible a b) → right (slots (visible a b)) (length b.slots) (length b.slots) all [] t) → bound t b ≡ Ok r → IsScopedBy right a b r
stays right a t b r so e = at_answer right a b b t r e (record {
  slots_on = as_it_was b.slots;
  more = [];
  own = sym (append-nil b.own);
  placed = λ all on. tt;
  tree = λ all on placed. so all placed;
})

-- a block: nothing of it comes into scope after it
pub record IsBlockBy {T : Type 0} (right : Right T) (a : Around) (old : Before) (r : BoundTo T) : Type 0 where
  pub slots_on : GoesOn old.slots r.before.slots
  pub own : r.before.own ≡ old.own
  pub top : List ℕ
  pub tree : (all : List Sort) → GoesOn r.before.slots all → ArePlaced (length old.slots) all (visible a old) → right (slots (visible a old)) (length old.slots) (length r.before.slots) all top r.tree

pub block_scoped : {T : Type 0} (right : Right T) (f : Bind T) → Scopes right f → (a : Around) (b : Before) (r : BoundTo T) → bind_block f a b ≡ Ok r → IsBlockBy right a b r
block_scoped {T = T} right f k a b r h =
    let p = first_ok (f (inside_block a b) (opened b)) _ r h in
    let g = k (inside_block a b) (opened b) p.0 p.1 in
    let same : visible (inside_block a b) (opened b) ≡ visible a b = append-nil (visible a b) in
    let made : BoundTo T = record { tree = p.0.tree; before = after_block b p.0.before } in
    let here : IsBlockBy right a b made = record {
      slots_on = g.slots_on;
      own = refl;
      top = slots g.more;
      tree = λ all on placed.
          subst (λ ls. right (slots ls) (length b.slots) (length p.0.before.slots) all (slots g.more) p.0.tree) same (g.tree all on (subst (ArePlaced (length b.slots) all) (sym same) placed));
    } in
    subst (λ (s : BoundTo T). IsBlockBy right a b s) (sym (is_bound p.0.tree (after_block b p.0.before) r p.2)) here

-- the parameters of a function, as in its text

abbrev pub ParamsSuit : List Param → List UParam → Type 0
ParamsSuit [] [] = Unit {0}
ParamsSuit [] (q ∷ qs) = ⊥
ParamsSuit (p ∷ ps) [] = ⊥
ParamsSuit (p ∷ ps) (q ∷ qs) = (q.sort ≡ p.sort) × (q.by_ref ≡ p.by_ref) × (p.by_ref ≡ false → is_number (Some p.sort) ≡ true) × ParamsSuit ps qs

pub record HeaderSuits (form : Form) (fs : List RFunction) (n : ℕ) (f : Function) : Type 0 where
  pub params : (unit_at form n).params ≡ params_at fs n
  pub suits : ParamsSuit f.params (params_at fs n)

abbrev pub HeadersSuit : Form → List RFunction → List Function → Type 0
HeadersSuit form fs functions = (n : ℕ) (f : Function) → slice_get functions n ≡ Some f → HeaderSuits form fs n f

pub condition_holds : (x : List ℕ) (b : Bool) → if_false x b ≡ None → b ≡ true
condition_holds x true h = refl
condition_holds x false h = absurd (cc h)

module _ (ls : List LocalDeclaration) (lo : ℕ) (all : List Sort) (are : ArePlaced lo all ls) where
  args_suit : (ps : List Param) (qs : List UParam) (es : List Expr) (rs : List UExpr) → ParamsSuit ps qs → Pairwise (BindsExpr ls) es rs → length es ≡ length ps → wrong_in_all ls ps es ≡ None → ArgsSuit all qs rs × OnlyNames (slots ls) (args_uses qs rs)
  args_suit [] [] [] [] s b many none = (tt, only_none (slots ls))
  args_suit [] [] [] (r ∷ rs) s b many none = absurd b
  args_suit [] [] (a ∷ es) rs s b many none = absurd (omega (arith, many))
  args_suit [] (q ∷ qs) es rs s b many none = absurd s
  args_suit (p ∷ ps) [] es rs s b many none = absurd s
  args_suit (p ∷ ps) (q ∷ qs) [] rs s b many none = absurd (omega (arith, many))
  args_suit (p ∷ ps) (q ∷ qs) (a ∷ es) [] s b many none = absurd b
  args_suit (p ∷ ps) (q ∷ qs) (a ∷ es) (r ∷ rs) s b many none =
      let both = neither (wrong_arg ls p a) (wrong_in_all ls ps es) none in
      let rest = args_suit ps qs es rs s.3 b.1 (omega (arith, many)) both.1 in (
        (arg_suits ls lo all are a r p q b.0 s.0 s.1 s.2 both.0, bare_named b.0, rest.0),
        only_both (slots ls) (arg_uses (lends q) r) (args_uses qs rs) (arg_names (lends q) b.0) rest.1,
      )

module _ (w : Whole) (form : Form) (fs : List RFunction) (headers : HeadersSuit form fs w.functions) where
  -- what a call comes to
  pub record CallComes (ls : List LocalDeclaration) (r : RCall) : Type 0 where
    pub suits : (lo : ℕ) (all : List Sort) → ArePlaced lo all ls → CallSuits fs (slots ls) all r
    pub params : (unit_at form r.function).params ≡ params_at fs r.function

  known_comes : (o : Option Function) (c : Call) (line : ℕ) (a : Around) (b : Before) (r : RCall) → function_of w.functions c.function ≡ o → bind_known o w.functions c line a b ≡ Ok r → unknown_in_all (visible a b) c.args ≡ None → CallComes (visible a b) r
  known_comes None c line a b r is h known = absurd (cc h)
  known_comes (Some f) c line a b r is h known =
      let v : List LocalDeclaration = visible a b in
      let p = passed line UnknownException (unhandled_of_all a.handled f.throws) _ r h in
      let many : length c.args ≡ length f.params = eqb-true (length c.args) (length f.params) (condition_holds c.function (nat_eq (length c.args) (length f.params)) (asked line Arity (if_false c.function (nat_eq (length c.args) (length f.params))) _ r p)) in
      let q = passed line Arity (if_false c.function (nat_eq (length c.args) (length f.params))) _ r p in
      let none = asked line WrongKind (wrong_in_all v f.params c.args) _ r q in
      let s = passed line WrongKind (wrong_in_all v f.params c.args) _ r q in
      let n : ℕ = function_number w.functions c.function in
      let made : RCall = record { function = n; args = placed_all v c.args; throws = map (exception_number a.handled) f.throws } in
      let same : made ≡ r = cc s in
      let header = headers n f (function_stands_at w.functions c.function f is) in
      subst (λ (x : RCall). CallComes v x) same (record {
        suits = λ lo all are.
            let k = args_suit v lo all are f.params (params_at fs n) c.args (placed_all v c.args) header.suits (exprs_placed v v (same_known v) c.args known) many none in
            record { arguments = k.0; names = k.1 };
        params = header.params;
      })

  pub call_comes : (c : Call) (line : ℕ) (a : Around) (b : Before) (r : RCall) → bind_call w c line a b ≡ Ok r → CallComes (visible a b) r
  call_comes c line a b r h =
      known_comes (function_of w.functions c.function) c line a b r refl (passed line UnknownName (unknown_in_all (visible a b) c.args) _ r h) (asked line UnknownName (unknown_in_all (visible a b) c.args) _ r h)

  pub called_scopes : {T : Type 0} (right : Right T) (g : RCall → T) (c : Call) (line : ℕ)
      → ((ls : List LocalDeclaration) (lo : ℕ) (all : List Sort) (d : RCall) → ArePlaced lo all ls → CallSuits fs (slots ls) all d → (unit_at form d.function).params ≡ params_at fs d.function → right (slots ls) lo lo all [] (g d)) → Scopes right (bind_called g w c line)
  called_scopes right g c line so a b r h =
      let p = first_ok (bind_call w c line a b) _ r h in
      let k = call_comes c line a b p.0 p.1 in
      stays right a (g p.0) b r (λ all are. so (visible a b) (length b.slots) all p.0 are (k.suits (length b.slots) all are) k.params) p.2

  abbrev pub what_right : Right RWhat
  what_right around lo hi all top t = WhatIn form fs around lo hi all top t

  abbrev pub body_right : Right (List RStmt)
  body_right around lo hi all top body = BodyIn form fs around lo hi all top body

  abbrev pub stmt_right : Right RStmt
  stmt_right around lo hi all top s = StmtIn form fs around lo hi all top s

  -- a statement of any line
  abbrev pub WhatScopes : (ℕ → Bind RWhat) → Type 0
  WhatScopes f = (line : ℕ) → Scopes what_right (f line)

  -- two questions before a statement that puts nothing into scope
  two_asked : (line : ℕ) (o p : Option (List ℕ)) (a : Around) (t : RWhat) (b : Before) (r : BoundTo RWhat)
      → (o ≡ None → p ≡ None → (all : List Sort) → ArePlaced (length b.slots) all (visible a b) → what_right (slots (visible a b)) (length b.slots) (length b.slots) all [] t)
      → refused_for line UnknownName o (refused_for line WrongKind p (bound t b)) ≡ Ok r → IsScopedBy what_right a b r
  two_asked line o p a t b r so h =
      let q = passed line UnknownName o _ r h in
      stays what_right a t b r (so (asked line UnknownName o _ r h) (asked line WrongKind p _ r q)) (passed line WrongKind p _ r q)

  -- an expression of which no name is unknown or a stream
  expr_right : (ls : List LocalDeclaration) (lo : ℕ) (all : List Sort) (e : Expr) → ArePlaced lo all ls → unknown_in ls e ≡ None → stream_in ls e ≡ None → ReadsNumbers (slots ls) all (names_in (placed ls e))
  expr_right ls lo all e are h none = expr_reads ls ls lo all are (λ x k. k) (expr_placed ls ls (same_known ls) e h) none

  option_right : (ls : List LocalDeclaration) (lo : ℕ) (all : List Sort) (e : Option Expr) → ArePlaced lo all ls → unknown_in_option ls e ≡ None → stream_in_option ls e ≡ None → ReadsNumbers (slots ls) all (names_in_option (placed_option ls e))
  option_right ls lo all e are h none = option_reads ls ls lo all are (λ x k. k) (option_placed ls ls (same_known ls) e h) none

  is_around : (ls : List LocalDeclaration) (x : List ℕ) → unknown ls x ≡ None → Among (slots ls) (slot_of ls x)
  is_around ls x h = slot_among x ls (slot_of ls x) (slot_is_innermost x ls h)

  a_number : (ls : List LocalDeclaration) (lo : ℕ) (all : List Sort) (x : List ℕ) → ArePlaced lo all ls → unknown ls x ≡ None → no_number ls x ≡ None → is_number (slice_get all (slot_of ls x)) ≡ true
  a_number ls lo all x are h none = number_bound ls lo all x (slot_of ls x) are (slot_is_innermost x ls h) none

  -- the slot of a declaration is the next one, and has its sort
  declared_at : (old : List Sort) (ty : Ty) (all : List Sort) → GoesOn (old ++ Value ty ∷ []) all → slice_get all (length old) ≡ Some (Value ty)
  declared_at old ty all on = ap (λ l. slice_get l (length old)) (on.whole ∙ append_assoc old (Value ty ∷ []) on.more) ∙ at_length old (Value ty) on.more

  pub declare_scopes : (ty : Ty) (x : List ℕ) (e : Option Expr) → WhatScopes (bind_declare w ty x e)
  declare_scopes ty x e line a b r h =
      let v : List LocalDeclaration = visible a b in
      let none = asked line UnknownName (unknown_in_option v e) _ r h in
      let p = passed line UnknownName (unknown_in_option v e) _ r h in
      let q = passed line Twice (declared_in b.own x) _ r p in
      let kind = asked line WrongKind (stream_in_option v e) _ r q in
      let s = passed line WrongKind (stream_in_option v e) _ r q in
      let slot : ℕ = length b.slots in
      let long : length (b.slots ++ Value ty ∷ []) ≡ length b.slots + 1 = length-append b.slots (Value ty ∷ []) in
      at_answer what_right a b (with_declaration w.names x (Value ty) b) (to.Declare ty slot (placed_option v e)) r s (record {
        slots_on = record { more = Value ty ∷ []; whole = refl };
        more = local_of x (Value ty) slot ∷ [];
        own = refl;
        placed = λ all on. (record { sort = declared_at b.slots ty all on; below = omega (arith, long) }, tt);
        tree = λ all on are.
            part_declare form fs (slots v) slot (length (b.slots ++ Value ty ∷ [])) all ty (placed_option v e) (omega (arith, long)) (ap is_number (declared_at b.slots ty all on)) (option_right v slot all e are none kind);
      })

  pub store_scopes : (g : ℕ → UExpr → RWhat) (x : List ℕ) (e : Expr)
      → ((around : List ℕ) (lo : ℕ) (all : List Sort) (y : ℕ) (a : UExpr) → Among around y → is_number (slice_get all y) ≡ true → ReadsNumbers around all (names_in a) → WhatIn form fs around lo lo all [] (g y a)) → WhatScopes (bind_store g x e)
  store_scopes g x e so line a b r h =
      let v : List LocalDeclaration = visible a b in
      two_asked line (unknown_in_both v x e) (option_or (no_number v x) (stream_in v e)) a (g (slot_of v x) (placed v e)) b r
      (λ none kinds all are.
      let both = neither (unknown v x) (unknown_in v e) none in
      let kind = neither (no_number v x) (stream_in v e) kinds in
      so (slots v) (length b.slots) all (slot_of v x) (placed v e) (is_around v x both.0) (a_number v (length b.slots) all x are both.0 kind.0) (expr_right v (length b.slots) all e are both.1 kind.1))
      h

  pub next_scopes : (x : List ℕ) → WhatScopes (bind_next x)
  next_scopes x line a b r h =
      let v : List LocalDeclaration = visible a b in
      two_asked line (unknown v x) (no_number v x) a (to.Next (slot_of v x)) b r
      (λ none kind all are. part_next form fs (slots v) (length b.slots) all (slot_of v x) (is_around v x none) (a_number v (length b.slots) all x are none kind)) h

  pub assign_next_scopes : (x y : List ℕ) → WhatScopes (bind_assign_next x y)
  assign_next_scopes x y line a b r h =
      let v : List LocalDeclaration = visible a b in
      two_asked line (unknown_of_two v x y) (option_or (no_number v x) (no_number v y)) a (to.AssignNext (slot_of v x) (slot_of v y)) b r
      (λ none kinds all are.
      let both = neither (unknown v x) (unknown v y) none in
      let kind = neither (no_number v x) (no_number v y) kinds in
      part_assign_next form fs (slots v) (length b.slots) all (slot_of v x) (slot_of v y) (is_around v x both.0) (a_number v (length b.slots) all x are both.0 kind.0) (is_around v y both.1) (a_number v (length b.slots) all y are both.1 kind.1))
      h

  pub get_scopes : (x y : List ℕ) → WhatScopes (bind_get x y)
  get_scopes x y line a b r h =
      let v : List LocalDeclaration = visible a b in
      two_asked line (unknown_of_two v x y) (option_or (no_number v x) (no_input v y)) a (to.Get (slot_of v x) (slot_of v y)) b r
      (λ none kinds all are.
      let both = neither (unknown v x) (unknown v y) none in
      let kind = neither (no_number v x) (no_input v y) kinds in
      part_get form fs (slots v) (length b.slots) all (slot_of v x) (slot_of v y) (is_around v x both.0) (a_number v (length b.slots) all x are both.0 kind.0) (is_around v y both.1)
      (input_bound v (length b.slots) all y (slot_of v y) are (slot_is_innermost y v both.1) kind.1))
      h

  pub put_scopes : (x : List ℕ) (e : Expr) → WhatScopes (bind_put x e)
  put_scopes x e line a b r h =
      let v : List LocalDeclaration = visible a b in
      two_asked line (unknown_in_both v x e) (option_or (no_output v x) (stream_in v e)) a (to.Put (slot_of v x) (placed v e)) b r
      (λ none kinds all are.
      let both = neither (unknown v x) (unknown_in v e) none in
      let kind = neither (no_output v x) (stream_in v e) kinds in
      part_put form fs (slots v) (length b.slots) all (slot_of v x) (placed v e) (is_around v x both.0) (output_bound v (length b.slots) all x (slot_of v x) are (slot_is_innermost x v both.0) kind.0) (expr_right v (length b.slots) all e are both.1 kind.1))
      h

  pub throw_scopes : (x : List ℕ) (e : Option Expr) → WhatScopes (bind_throw x e)
  throw_scopes x e line a b r h =
      let v : List LocalDeclaration = visible a b in
      let number : ℕ = exception_number a.handled x in
      let none = asked line UnknownName (unknown_in_option v e) _ r h in
      let p = passed line UnknownName (unknown_in_option v e) _ r h in
      let q = passed line UnknownException (unhandled a.handled x) _ r p in
      let kind = asked line WrongKind (stream_in_option v e) _ r q in
      stays what_right a (to.Throw number (placed_option v e)) b r (λ all are. part_throw form fs (slots v) (length b.slots) all number (placed_option v e) (option_right v (length b.slots) all e are none kind))
      (passed line WrongKind (stream_in_option v e) _ r q)

  pub call_scopes : (c : Call) → WhatScopes (bind_called to.Call w c)
  call_scopes c line = called_scopes what_right to.Call c line (λ ls lo all d are suits params. part_call form fs (slots ls) lo all d suits params)

  -- the test of an `if` or a `while`
  test_right : (e : Expr) (line : ℕ) (a : Around) (b : Before) (t : UExpr) (all : List Sort) → ArePlaced (length b.slots) all (visible a b) → bind_test e line a b ≡ Ok t → ReadsNumbers (slots (visible a b)) all (names_in t)
  test_right e line a b t all are h =
      let v : List LocalDeclaration = visible a b in
      let k = passed line UnknownName (unknown_in v e) _ t h in
      let p = passed line WrongKind (stream_in v e) _ t k in
      let same : placed v e ≡ t = cc p in
      subst (λ (x : UExpr). ReadsNumbers (slots v) all (names_in x)) same (expr_right v (length b.slots) all e are (asked line UnknownName (unknown_in v e) _ t h) (asked line WrongKind (stream_in v e) _ t k))

  -- what a statement with blocks comes to
  from_blocks : (a : Around) (old new : Before) (t : RWhat) (r : BoundTo RWhat) → bound t new ≡ Ok r → GoesOn old.slots new.slots → new.own ≡ old.own
      → ((all : List Sort) → GoesOn new.slots all → ArePlaced (length old.slots) all (visible a old) → what_right (slots (visible a old)) (length old.slots) (length new.slots) all [] t) → IsScopedBy what_right a old r
  from_blocks a old new t r e on own so = at_answer what_right a old new t r e (record { slots_on = on; more = []; own = own ∙ sym (append-nil old.own); placed = λ all on. tt; tree = so })

  -- the second block begins with what was around the first
  second_of : (right : Right (List RStmt)) (a : Around) (b c : Before) (all : List Sort) (top : List ℕ) (hi : ℕ) (t : List RStmt) → c.own ≡ b.own → right (slots (visible a c)) (length c.slots) hi all top t → right (slots (visible a b)) (length c.slots) hi all top t
  second_of right a b c all top hi t own h = subst (λ ls. right (slots (a.outer ++ ls)) (length c.slots) hi all top t) own h

  second_block : (a : Around) (b c : Before) (all : List Sort) (top : List ℕ) (hi : ℕ) (t : List RStmt) → c.own ≡ b.own → body_right (slots (visible a c)) (length c.slots) hi all top t → body_right (slots (visible a b)) (length c.slots) hi all top t
  second_block a b c all top hi t own h = second_of body_right a b c all top hi t own h

  still_placed : (a : Around) (b c : Before) (all : List Sort) → c.own ≡ b.own → GoesOn b.slots c.slots → ArePlaced (length b.slots) all (visible a b) → ArePlaced (length c.slots) all (visible a c)
  still_placed a b c all own on are = subst (λ ls. ArePlaced (length c.slots) all (a.outer ++ ls)) (sym own) (placed_later (length b.slots) (length c.slots) all (visible a b) (longer b.slots c.slots on) are)

  pub if_scopes : (e : Expr) (f h : Bind (List RStmt)) → Scopes body_right f → Scopes body_right h → WhatScopes (bind_if e f h)
  if_scopes e f h k l line a b r is =
      let t = first_ok (bind_test e line a b) _ r is in
      let p = first_ok (bind_block f a b) _ r t.2 in
      let q = first_ok (bind_block h a p.0.before) _ r p.2 in
      let m = block_scoped body_right f k a b p.0 p.1 in
      let n = block_scoped body_right h l a p.0.before q.0 q.1 in
      from_blocks a b q.0.before (to.If t.0 p.0.tree q.0.tree) r q.2 (goes_twice b.slots p.0.before.slots q.0.before.slots m.slots_on n.slots_on) (n.own ∙ m.own)
      (λ all on are.
      part_if form fs (slots (visible a b)) (length b.slots) (length p.0.before.slots) (length q.0.before.slots) all m.top n.top t.0 p.0.tree q.0.tree (test_right e line a b t.0 all are t.1)
      (m.tree all (goes_twice p.0.before.slots q.0.before.slots all n.slots_on on) are)
      (second_block a b p.0.before all n.top (length q.0.before.slots) q.0.tree m.own (n.tree all on (still_placed a b p.0.before all m.own m.slots_on are))))

  pub while_scopes : (e : Expr) (f : Bind (List RStmt)) → Scopes body_right f → WhatScopes (bind_while e f)
  while_scopes e f k line a b r is =
      let t = first_ok (bind_test e line a b) _ r is in
      let p = first_ok (bind_block f a b) _ r t.2 in
      let m = block_scoped body_right f k a b p.0 p.1 in
      from_blocks a b p.0.before (to.While t.0 p.0.tree) r p.2 m.slots_on m.own
      (λ all on are. part_while form fs (slots (visible a b)) (length b.slots) (length p.0.before.slots) all m.top t.0 p.0.tree (test_right e line a b t.0 all are t.1) (m.tree all on are))

  pub inner_scopes : (f : Bind (List RStmt)) → Scopes body_right f → Scopes what_right (on_tree to.Block (bind_block f))
  inner_scopes f k a b r is =
      let p = first_ok (bind_block f a b) _ r is in
      let m = block_scoped body_right f k a b p.0 p.1 in
      from_blocks a b p.0.before (to.Block p.0.tree) r p.2 m.slots_on m.own (λ all on are. part_block form fs (slots (visible a b)) (length b.slots) (length p.0.before.slots) all m.top p.0.tree (m.tree all on are))

  -- after statements their declarations are in scope, too

  pub behind_visible : (a : Around) (b c : Before) (more : List LocalDeclaration) → c.own ≡ b.own ++ more → visible a c ≡ visible a b ++ more
  behind_visible a b c more own = ap (λ ls. a.outer ++ ls) own ∙ sym (append_assoc a.outer b.own more)

  pub behind_slots : (a : Around) (b c : Before) (more : List LocalDeclaration) → c.own ≡ b.own ++ more → slots (visible a c) ≡ slots (visible a b) ++ slots more
  behind_slots a b c more own = ap slots (behind_visible a b c more own) ∙ map-append (λ (l : LocalDeclaration). l.bound.slot) (visible a b) more

  pub behind_placed : (a : Around) (b c : Before) (more : List LocalDeclaration) (all : List Sort) → c.own ≡ b.own ++ more → GoesOn b.slots c.slots → ArePlaced (length b.slots) all (visible a b) → ArePlaced (length c.slots) all more → ArePlaced (length c.slots) all (visible a c)
  behind_placed a b c more all own on are placed =
      subst (ArePlaced (length c.slots) all) (sym (behind_visible a b c more own))
      (each_of_both (IsPlaced (length c.slots) all) (visible a b) more (placed_later (length b.slots) (length c.slots) all (visible a b) (longer b.slots c.slots on) are) placed)

  -- a handler

  -- its variable, where it has one, in the slot that is next
  abbrev slot_next : Option (List ℕ) → ℕ → Option ℕ
  slot_next None lo = None
  slot_next (Some y) lo = Some lo

  abbrev handler_right : Option (List ℕ) → Right (List RStmt)
  handler_right y around lo hi all top t = HandlerIn form fs (slot_next y lo) around lo hi all t

  same_slot : (y : Option (List ℕ)) (b : Before) → slot_next y (length b.slots) ≡ variable_slot y b
  same_slot None b = refl
  same_slot (Some y) b = refl

  handler_scopes : (y : Option (List ℕ)) (h : Bind (List RStmt)) → Scopes body_right h → Scopes (handler_right y) (bind_handler w y h)
  handler_scopes None h l a b r is =
      let n = l a b r is in
      record {
        slots_on = n.slots_on;
        more = n.more;
        own = n.own;
        placed = n.placed;
        tree = λ all on are.
            handler_is_in form fs (slots (visible a b)) (length b.slots) (length b.slots) (length r.before.slots) all (slots n.more) None r.tree refl
            (subst (λ xs. BodyIn form fs xs (length b.slots) (length r.before.slots) all (slots n.more) r.tree) (sym (append-nil (slots (visible a b)))) (n.tree all on are));
      }
  handler_scopes (Some y) h l a b r is =
      let slot : ℕ = length b.slots in
      let begun : Before = with_declaration w.names y (Value Int32) b in
      let d : LocalDeclaration = local_of y (Value Int32) slot in
      let n = l a begun r is in
      let goes : GoesOn b.slots begun.slots = record { more = Value Int32 ∷ []; whole = refl } in
      let long : length begun.slots ≡ length b.slots + 1 = length-append b.slots (Value Int32 ∷ []) in
      let up = longer begun.slots r.before.slots n.slots_on in
      record {
        slots_on = goes_twice b.slots begun.slots r.before.slots goes n.slots_on;
        more = d ∷ n.more;
        own = n.own ∙ append_assoc b.own (d ∷ []) n.more;
        placed = λ all on. (record { sort = declared_at b.slots Int32 all (goes_twice begun.slots r.before.slots all n.slots_on on); below = omega (arith, long, up) }, n.placed all on);
        tree = λ all on are.
            let from : GoesOn begun.slots all = goes_twice begun.slots r.before.slots all n.slots_on on in
            let sort = declared_at b.slots Int32 all from in
            handler_is_in form fs (slots (visible a b)) slot (length begun.slots) (length r.before.slots) all (slots n.more) (Some slot) r.tree (refl, omega (arith, long), ap is_number sort)
            (subst (λ xs. BodyIn form fs xs (length begun.slots) (length r.before.slots) all (slots n.more) r.tree) (behind_slots a b begun (d ∷ []) refl)
            (n.tree all on (behind_placed a b begun (d ∷ []) all refl goes are (record { sort = sort; below = omega (arith, long) }, tt))));
      }

  pub try_scopes : (x : List ℕ) (y : Option (List ℕ)) (f h : Bind (List RStmt)) → Scopes body_right f → Scopes body_right h → Scopes what_right (bind_try w x y f h)
  try_scopes x y f h k l a b r is =
      let p = first_ok (bind_block f (with_handled x a b) (tried w x b)) _ r is in
      let q = first_ok (bind_block (bind_handler w y h) a p.0.before) _ r p.2 in
      let m = block_scoped body_right f k (with_handled x a b) (tried w x b) p.0 p.1 in
      let n = block_scoped (handler_right y) (bind_handler w y h) (handler_scopes y h l) a p.0.before q.0 q.1 in
      let number : ℕ = a.throws + length b.tries in
      let mi : ℕ = length p.0.before.slots in
      let hi : ℕ = length q.0.before.slots in
      from_blocks a b q.0.before (to.Try p.0.tree number (variable_slot y p.0.before) q.0.tree) r q.2 (goes_twice b.slots p.0.before.slots q.0.before.slots m.slots_on n.slots_on) (n.own ∙ m.own)
      (λ all on are.
      part_try form fs (slots (visible a b)) (length b.slots) mi hi all m.top p.0.tree number (variable_slot y p.0.before) q.0.tree
      (m.tree all (goes_twice p.0.before.slots q.0.before.slots all n.slots_on on) are)
      (subst (λ z. HandlerIn form fs z (slots (visible a b)) mi hi all q.0.tree) (same_slot y p.0.before)
      (second_of (handler_right y) a b p.0.before all n.top hi q.0.tree m.own (n.tree all on (still_placed a b p.0.before all m.own m.slots_on are)))))

  none_more : (xs ys : List LocalDeclaration) → xs ++ ys ≡ xs → ys ≡ []
  none_more [] ys e = e
  none_more (x ∷ xs) ys e = none_more xs ys (cc e)

  -- the step of a `for` declares nothing
  abbrev pub KeepsOwn : Bind (List RStmt) → Type 0
  KeepsOwn f = (a : Around) (b : Before) (r : BoundTo (List RStmt)) → f a b ≡ Ok r → r.before.own ≡ b.own

  same_behind : (xs ys zs : List LocalDeclaration) → xs ++ ys ≡ xs ++ zs → ys ≡ zs
  same_behind [] ys zs e = e
  same_behind (x ∷ xs) ys zs e = same_behind xs ys zs (cc e)

  -- what is no stream with what is sure to be declared is none after all that was, of numbers
  number_grown : (ls : List LocalDeclaration) (ds : Declarations) (ts : Texts) (a : Around) (b c : Before) (more : List LocalDeclaration) → IsGrown w.names ls ds ts b c → c.own ≡ b.own ++ more → b.own ≡ [] → Each IsNumber more → (x : List ℕ) → no_number (a.outer ++ ls) x ≡ None → no_number (visible a c) x ≡ None
  number_grown ls ds ts a b c more g own none numbers x e =
      let whole : visible a c ≡ (a.outer ++ ls) ++ g.own.more = ap (λ l. a.outer ++ l) g.own.whole ∙ ap (λ l. a.outer ++ (l ++ (ls ++ g.own.more))) none ∙ sym (append_assoc a.outer ls g.own.more) in
      let same : more ≡ ls ++ g.own.more = same_behind b.own more (ls ++ g.own.more) (sym own ∙ g.own.whole) in
      subst (λ (v : List LocalDeclaration). no_number v x ≡ None) (sym whole) (number_behind (a.outer ++ ls) g.own.more (each_of_second IsNumber ls g.own.more (subst (Each IsNumber) same numbers)) x e)

  -- what binding of a `for` comes to, with the slots that it added
  abbrev ForScopes : Around → Before → BoundTo RWhat → Type 0
  ForScopes a b r = (GoesOn b.slots r.before.slots) × ((all : List Sort) → GoesOn r.before.slots all → ArePlaced (length b.slots) all (visible a b) → what_right (slots (visible a b)) (length b.slots) (length r.before.slots) all [] r.tree)

  for_answer : (a : Around) (old new : Before) (t : RWhat) (r : BoundTo RWhat) → bound t new ≡ Ok r → ForScopes a old (record { tree = t; before = new }) → ForScopes a old r
  for_answer a old new t r e h = subst (ForScopes a old) (sym (is_bound t new r e)) h

  parts_scope : (declares : ℕ → List LocalDeclaration) (test : Option Expr) (ds : Declarations) (ts : Texts) (f g h : Bind (List RStmt)) → Grows w.names declares ds ts f → Scopes body_right f → Scopes body_right g → KeepsOwn g → Scopes body_right h
      → (a : Around) (b : Before) (r : BoundTo RWhat) → b.own ≡ [] → unknown_in_option (a.outer ++ declares (length b.slots)) test ≡ None → stream_in_option (a.outer ++ declares (length b.slots)) test ≡ None
      → bind_parts test f g h a b ≡ Ok r → ForScopes a b r
  parts_scope declares test ds ts f g h grows j k keeps l a b r none known kind is =
      let p = first_ok (f a b) _ r is in
      let q = first_ok (g a p.0.before) _ r p.2 in
      let s = first_ok (bind_block h a q.0.before) _ r q.2 in
      let m = j a b p.0 p.1 in
      let n = k a p.0.before q.0 q.1 in
      let own : q.0.before.own ≡ p.0.before.own = keeps a p.0.before q.0 q.1 in
      let nothing : n.more ≡ [] = none_more p.0.before.own n.more (sym n.own ∙ own) in
      let o = block_scoped body_right h l a q.0.before s.0 s.1 in
      let tested : Option UExpr = placed_option (visible a p.0.before) test in
      let top : List ℕ = slots m.more in
      let here : slots (visible a p.0.before) ≡ slots (visible a b) ++ slots m.more = behind_slots a b p.0.before m.more m.own in
      let grown : IsGrown w.names (declares (length b.slots)) ds ts b p.0.before = grows a b p.0 p.1 in
      let rest : GoesOn p.0.before.slots s.0.before.slots = goes_twice p.0.before.slots q.0.before.slots s.0.before.slots n.slots_on o.slots_on in
      let tree : (all : List Sort) → GoesOn s.0.before.slots all → ArePlaced (length b.slots) all (visible a b) → what_right (slots (visible a b)) (length b.slots) (length s.0.before.slots) all [] (to.For p.0.tree tested q.0.tree s.0.tree) =
      λ all on are.
      let later : GoesOn p.0.before.slots all = goes_twice p.0.before.slots s.0.before.slots all rest on in
      let last : GoesOn q.0.before.slots all = goes_twice q.0.before.slots s.0.before.slots all o.slots_on on in
      let there : ArePlaced (length p.0.before.slots) all (visible a p.0.before) = behind_placed a b p.0.before m.more all m.own m.slots_on are (m.placed all later) in
      let first = m.tree all later are in
      let numbers = placed_numbers (length p.0.before.slots) all m.more (m.placed all later) (λ y i. first.facts.numbers y (first.tops y i)) in
      let named : ReadsNumbers (slots (visible a b) ++ slots m.more) all (names_in_option (placed_option (visible a p.0.before) test)) =
      subst (λ ls. ReadsNumbers ls all (names_in_option (placed_option (visible a p.0.before) test))) here
      (option_reads (a.outer ++ declares (length b.slots)) (visible a p.0.before) (length p.0.before.slots) all there (number_grown (declares (length b.slots)) ds ts a b p.0.before m.more grown m.own none numbers)
      (option_placed (a.outer ++ declares (length b.slots)) (visible a p.0.before) (known_grown w.names (declares (length b.slots)) ds ts a b p.0.before grown none) test known) kind) in
      let step = n.tree all last there in
      let body = o.tree all on (still_placed a p.0.before q.0.before all own n.slots_on there) in
      part_for form fs (slots (visible a b)) (length b.slots) (length p.0.before.slots) (length q.0.before.slots) (length s.0.before.slots) all (slots m.more) o.top p.0.tree tested q.0.tree s.0.tree
      first named
      (subst (λ ls. body_right ls (length p.0.before.slots) (length q.0.before.slots) all [] q.0.tree) here (subst (λ ls. body_right (slots (visible a p.0.before)) (length p.0.before.slots) (length q.0.before.slots) all (slots ls) q.0.tree) nothing step))
      (subst (λ ls. body_right ls (length q.0.before.slots) (length s.0.before.slots) all o.top s.0.tree) here (second_block a p.0.before q.0.before all o.top (length s.0.before.slots) s.0.tree own body)) in
      for_answer a b s.0.before (to.For p.0.tree tested q.0.tree s.0.tree) r s.2 (goes_twice b.slots p.0.before.slots s.0.before.slots m.slots_on rest, tree)

  pub for_scopes : (declares : ℕ → List LocalDeclaration) (test : Option Expr) (ds : Declarations) (ts : Texts) (f g h : Bind (List RStmt)) → Grows w.names declares ds ts f → Scopes body_right f → Scopes body_right g → KeepsOwn g → Scopes body_right h → WhatScopes (bind_for declares test f g h)
  for_scopes declares test ds ts f g h grows j k keeps l line a b r is =
      let p = first_ok (bind_first_test declares test line a b) _ r is in
      let known = asked line UnknownName (unknown_in_option (visible a b ++ declares (length b.slots)) test) _ p.0 p.1 in
      let kind = asked line WrongKind (stream_in_option (visible a b ++ declares (length b.slots)) test) _ p.0 (passed line UnknownName (unknown_in_option (visible a b ++ declares (length b.slots)) test) _ p.0 p.1) in
      let q = first_ok (bind_parts test f g h (inside_block a b) (opened b)) _ r p.2 in
      let m = parts_scope declares test ds ts f g h grows j k keeps l (inside_block a b) (opened b) q.0 refl known kind q.1 in
      let same : visible (inside_block a b) (opened b) ≡ visible a b = append-nil (visible a b) in
      from_blocks a b (after_block b q.0.before) q.0.tree r q.2 m.0 refl
      (λ all on are. subst (λ ls. what_right (slots ls) (length b.slots) (length q.0.before.slots) all [] q.0.tree) same (m.1 all on (subst (ArePlaced (length b.slots) all) (sym same) are)))
