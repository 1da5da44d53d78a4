-- Each name that is known has the number of the innermost thing around that has the name, in whole expressions and calls, too.
use Rattle.std.proofs.Common.{ℕ, ◌+◌, ◌≡◌, ◌∙◌, List, [], ◌∷◌, Option, Some, None, Ok, length, nat_eq, map, refl, sym, subst}
use Rattle.std.specs.Option.{option_map}
use Rattle.shim_syntax.specs.declared.tree.Expr.{Expr, Expr-F, ind-Expr, map-Expr, roll-Expr}
use Rattle.shim_syntax.specs.declared.tree.Expr.TheVariants as e
use Rattle.shim_syntax.specs.declared.tree.Call.{Call}
use Rattle.shim_syntax.specs.declared.tree.Function.{Function}
use Rattle.shim_scopes.specs.declared.fault.ScopeKind.TheVariants.{UnknownName, UnknownException, Arity, WrongKind}
use Rattle.shim_scopes.specs.declared.scope.LocalDeclaration.{LocalDeclaration}
use Rattle.shim_scopes.specs.declared.scope.Handled.{Handled}
use Rattle.shim_scopes.specs.declared.tree.RCall.{RCall}
use Rattle.shim_syntax.specs.Names.{Texts}
use Rattle.shim_scopes.specs.Binding.{unless_bound, unknown, unknown_in, slot_at, slot_of, placed, unknown_in_all, placed_all, unknown_in_option, placed_option, number_or_zero_of, exception_number, unless_handled, unhandled}
use Rattle.shim_scopes.specs.Statements.{Whole, Around, Before, visible}
use Rattle.shim_scopes.specs.Calls.{function_number, function_of, unhandled_of_all, if_false, wrong_in_all, bind_known, bind_call}
use Rattle.shim_laws_binding.specs.Innermost.{exception_name, local_name, IsNumberOfInnermost, IsSlotOfInnermost}
use Rattle.shim_laws_binding.specs.LexicalScope.{Point, Pairwise, BindsExpr, number, variable, unary, binary, BindsOption, missing, given, BindsCall}
use Rattle.shim_laws_binding.proofs.Bound.{asked}
use Rattle.shim_laws_binding.proofs.InnermostLemmas.{found, Found, is_found}
use Rattle.shim_laws_binding.proofs.Known.{function_named, function_stands_at}
use Rattle.shim_laws_binding.proofs.Lists.{neither}
use Rattle.shim_laws_binding.proofs.NamedExprs.{unknown_variable, unknown_unary, unknown_binary, placed_number, placed_variable, placed_unary, placed_binary}
use Rattle.shim_laws_binding.proofs.NamedParts.{same_known}
use Rattle.shim_scopes.proofs.Refusals.{passed}

slot_by : (x : List ℕ) (around : List LocalDeclaration) (o : Option LocalDeclaration) → Found local_name x around o
    → unless_bound x (option_map (λ (l : LocalDeclaration). l.bound) o) ≡ None → IsSlotOfInnermost x around (slot_at (option_map (λ (l : LocalDeclaration). l.bound) o))
slot_by x around None f e = absurd (cc e)
slot_by x around (Some l) f e = (l, f, refl)

pub slot_is_innermost : (x : List ℕ) (around : List LocalDeclaration) → unknown around x ≡ None → IsSlotOfInnermost x around (slot_of around x)
slot_is_innermost x around e = slot_by x around (found local_name x around) (is_found local_name x around) e

number_by : (x : List ℕ) (around : List Handled) (o : Option Handled) → Found exception_name x around o
    → unless_handled x (option_map (λ (h : Handled). h.number) o) ≡ None → IsNumberOfInnermost x around (number_or_zero_of (option_map (λ (h : Handled). h.number) o))
number_by x around None f e = absurd (cc e)
number_by x around (Some h) f e = (h, f, refl)

pub number_is_innermost : (x : List ℕ) (around : List Handled) → unhandled around x ≡ None → IsNumberOfInnermost x around (exception_number around x)
number_is_innermost x around e = number_by x around (found exception_name x around) (is_found exception_name x around) e

throws_are_innermost : (around : List Handled) (xs : Texts) → unhandled_of_all around xs ≡ None → Pairwise (λ x number. IsNumberOfInnermost x around number) xs (map (exception_number around) xs)
throws_are_innermost around [] e = tt
throws_are_innermost around (x ∷ xs) e =
    let both = neither (unhandled around x) (unhandled_of_all around xs) e in
    (number_is_innermost x around both.0, throws_are_innermost around xs both.1)

-- what is known among the declarations `asked` is so among those around
module _ (asked around : List LocalDeclaration) (further : (x : List ℕ) → unknown asked x ≡ None → unknown around x ≡ None) where
  abbrev IsPlaced : Expr → Type 0
  IsPlaced a = unknown_in asked a ≡ None → BindsExpr around a (placed around a)

  abbrev Part : Type 0
  Part = (a : Expr) × IsPlaced a

  expr_layer : (y : Expr-F Part) → IsPlaced (roll-Expr (map-Expr Part Expr (λ e. e.0) y))
  unfolding roll-Expr denote.Hole.Carrier.roll
  expr_layer (Expr-F.Number n) h = subst (λ r. BindsExpr around (e.Number n) r) (sym (placed_number around n)) (number {n = n})
  expr_layer (Expr-F.Var x) h =
      subst (λ r. BindsExpr around (e.Var x) r) (sym (placed_variable around x)) (variable (slot_is_innermost x around (further x (sym (unknown_variable asked x) ∙ h))))
  expr_layer (Expr-F.Unary op a) h =
      subst (λ r. BindsExpr around (e.Unary op a.0) r) (sym (placed_unary around op a.0)) (unary {op = op} (a.1 (sym (unknown_unary asked op a.0) ∙ h)))
  expr_layer (Expr-F.Binary op a b) h =
      let both = neither (unknown_in asked a.0) (unknown_in asked b.0) (sym (unknown_binary asked op a.0 b.0) ∙ h) in
      subst (λ r. BindsExpr around (e.Binary op a.0 b.0) r) (sym (placed_binary around op a.0 b.0)) (binary {op = op} (a.1 both.0) (b.1 both.1))

  pub expr_placed : (a : Expr) → IsPlaced a
  expr_placed = ind-Expr IsPlaced (λ x y is. subst (λ z. IsPlaced (roll-Expr z)) is (expr_layer y))

  pub option_placed : (a : Option Expr) → unknown_in_option asked a ≡ None → BindsOption around a (placed_option around a)
  option_placed None h = missing
  option_placed (Some a) h = given (expr_placed a h)

  pub exprs_placed : (es : List Expr) → unknown_in_all asked es ≡ None → Pairwise (BindsExpr around) es (placed_all around es)
  exprs_placed [] h = tt
  exprs_placed (a ∷ es) h =
      let both = neither (unknown_in asked a) (unknown_in_all asked es) h in
      (expr_placed a both.0, exprs_placed es both.1)

-- the point that these describe
abbrev pub point : Around → Before → Point
point a b = record { declared = visible a b; handled = a.handled; slots = length b.slots; exceptions = a.throws + length b.tries }

known_call : (o : Option Function) (fs : List Function) (c : Call) (line : ℕ) (a : Around) (b : Before) (r : RCall) → function_of fs c.function ≡ o → bind_known o fs c line a b ≡ Ok r
    → unknown_in_all (visible a b) c.args ≡ None → BindsCall fs (point a b) c r
known_call None fs c line a b r is h known = absurd (cc h)
known_call (Some f) fs c line a b r is h known =
    let p = passed line UnknownException (unhandled_of_all a.handled f.throws) _ r h in
    let q = passed line Arity (if_false c.function (nat_eq (length c.args) (length f.params))) _ r p in
    let s = passed line WrongKind (wrong_in_all (visible a b) f.params c.args) _ r q in
    let made : RCall = record { function = function_number fs c.function; args = placed_all (visible a b) c.args; throws = map (exception_number a.handled) f.throws } in
    let same : made ≡ r = cc s in
    subst (λ (x : RCall). BindsCall fs (point a b) c x) same (record {
      callee = f;
      called = function_stands_at fs c.function f is;
      named = function_named fs c.function f is;
      arguments = exprs_placed (visible a b) (visible a b) (same_known (visible a b)) c.args known;
      exceptions = throws_are_innermost a.handled f.throws (asked line UnknownException (unhandled_of_all a.handled f.throws) _ r h);
    })

pub call_bound : (w : Whole) (c : Call) (line : ℕ) (a : Around) (b : Before) (r : RCall) → bind_call w c line a b ≡ Ok r → BindsCall w.functions (point a b) c r
call_bound w c line a b r h =
    known_call (function_of w.functions c.function) w.functions c line a b r refl (passed line UnknownName (unknown_in_all (visible a b) c.args) _ r h)
    (asked line UnknownName (unknown_in_all (visible a b) c.args) _ r h)
