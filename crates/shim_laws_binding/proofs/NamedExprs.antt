-- The names put back in a bound expression give the expression.
use Rattle.std.proofs.Common.{ℕ, ℤ, ◌≡◌, ◌∙◌, List, [], ◌∷◌, ◌++◌, Option, Some, None, map, refl, sym, ap, subst}
use Rattle.std.specs.Option.{option_map, option_or}
use Rattle.shim_base.specs.declared.operators.BinOp.{BinOp}
use Rattle.shim_base.specs.declared.operators.UnOp.{UnOp}
use Rattle.shim_syntax.specs.declared.tree.Expr.{Expr, Expr-F, fold-roll-Expr, ind-Expr, map-Expr, roll-Expr}
use Rattle.shim_syntax.specs.declared.tree.Expr.TheVariants as e
use Rattle.shim_scopes.specs.declared.scope.LocalDeclaration.{LocalDeclaration}
use Rattle.shim_scopes.specs.declared.scope.Handled.{Handled}
use Rattle.shim_scopes.specs.declared.tree.UExpr.{UExpr}
use Rattle.shim_scopes.specs.declared.tree.UExpr.TheVariants as u
use Rattle.shim_scopes.specs.Binding.{unless_bound, unknown, unknown_step, unknown_in, slot_at, slot_of, placed_step, placed, unknown_in_all, placed_all, unknown_in_option, placed_option, number_or_zero_of, exception_number, unless_handled, unhandled}
use Rattle.shim_laws_binding.specs.Innermost.{HasNone, exception_name, local_name}
use Rattle.shim_laws_binding.specs.Naming.{expr_named, option_named}
use Rattle.shim_laws_binding.proofs.InnermostLemmas.{found, Found, is_found}
use Rattle.shim_laws_binding.proofs.Lists.{Each, at_place, neither}
use Rattle.shim_laws_binding.proofs.NamedSteps.{named_number, named_variable, named_unary, named_binary}

-- the slot of a declaration has its name
abbrev pub VariableNamed : (ℕ → List ℕ) → LocalDeclaration → Type 0
VariableNamed variable l = variable l.bound.slot ≡ l.name

abbrev pub ExceptionNamed : (ℕ → List ℕ) → Handled → Type 0
ExceptionNamed exception h = exception h.number ≡ h.name

slot_by : (variable : ℕ → List ℕ) (x : List ℕ) (around : List LocalDeclaration) (o : Option LocalDeclaration) → Found local_name x around o → Each (VariableNamed variable) around
    → unless_bound x (option_map (λ (l : LocalDeclaration). l.bound) o) ≡ None → variable (slot_at (option_map (λ (l : LocalDeclaration). l.bound) o)) ≡ x
slot_by variable x around None f h e = absurd (cc e)
slot_by variable x around (Some l) f h e = at_place (VariableNamed variable) around f.outer l f.inner f.whole h ∙ f.named

pub slot_back : (variable : ℕ → List ℕ) (around : List LocalDeclaration) (x : List ℕ) → Each (VariableNamed variable) around → unknown around x ≡ None → variable (slot_of around x) ≡ x
slot_back variable around x h e = slot_by variable x around (found local_name x around) (is_found local_name x around) h e

exception_by : (exception : ℕ → List ℕ) (x : List ℕ) (around : List Handled) (o : Option Handled) → Found exception_name x around o → Each (ExceptionNamed exception) around
    → unless_handled x (option_map (λ (h : Handled). h.number) o) ≡ None → exception (number_or_zero_of (option_map (λ (h : Handled). h.number) o)) ≡ x
exception_by exception x around None f h e = absurd (cc e)
exception_by exception x around (Some l) f h e = at_place (ExceptionNamed exception) around f.outer l f.inner f.whole h ∙ f.named

pub exception_back : (exception : ℕ → List ℕ) (around : List Handled) (x : List ℕ) → Each (ExceptionNamed exception) around → unhandled around x ≡ None → exception (exception_number around x) ≡ x
exception_back exception around x h e = exception_by exception x around (found exception_name x around) (is_found exception_name x around) h e

none_before : (x : List ℕ) (ls more : List LocalDeclaration) → HasNone local_name x (ls ++ more) → HasNone local_name x ls
none_before x [] more h = tt
none_before x (l ∷ ls) more h = (h.0, none_before x ls more h.1)

none_at : (x : List ℕ) (outer : List LocalDeclaration) (at : LocalDeclaration) (inner : List LocalDeclaration) → HasNone local_name x (outer ++ at ∷ inner) → at.name ≡ x → ⊥
none_at x [] at inner h e = h.0 e
none_at x (l ∷ ls) at inner h e = none_at x ls at inner h.1 e

known_by : (x : List ℕ) (ls more : List LocalDeclaration) (o p : Option LocalDeclaration) → Found local_name x ls o → Found local_name x (ls ++ more) p
    → unless_bound x (option_map (λ (l : LocalDeclaration). l.bound) o) ≡ None → unless_bound x (option_map (λ (l : LocalDeclaration). l.bound) p) ≡ None
known_by x ls more None p f g e = absurd (cc e)
known_by x ls more (Some l) (Some k) f g e = refl
known_by x ls more (Some l) None f g e = absurd (none_at x f.outer l f.inner (subst (λ (l : List LocalDeclaration). HasNone local_name x l) f.whole (none_before x ls more g)) f.named)

-- what is declared is so after more declarations
pub known_behind : (ls more : List LocalDeclaration) (x : List ℕ) → unknown ls x ≡ None → unknown (ls ++ more) x ≡ None
known_behind ls more x e = known_by x ls more (found local_name x ls) (found local_name x (ls ++ more)) (is_found local_name x ls) (is_found local_name x (ls ++ more)) e

pub unknown_variable : (around : List LocalDeclaration) (x : List ℕ) → unknown_in around (e.Var x) ≡ unknown around x
unfolding unknown_in roll-Expr denote.Hole.Carrier.roll
unknown_variable around x = fold-roll-Expr (Option (List ℕ)) (unknown_step around) (Expr-F.Var x)

pub unknown_unary : (around : List LocalDeclaration) (op : UnOp) (a : Expr) → unknown_in around (e.Unary op a) ≡ unknown_in around a
unfolding unknown_in roll-Expr denote.Hole.Carrier.roll
unknown_unary around op a = fold-roll-Expr (Option (List ℕ)) (unknown_step around) (Expr-F.Unary op a)

pub unknown_binary : (around : List LocalDeclaration) (op : BinOp) (a b : Expr) → unknown_in around (e.Binary op a b) ≡ option_or (unknown_in around a) (unknown_in around b)
unfolding unknown_in roll-Expr denote.Hole.Carrier.roll
unknown_binary around op a b = fold-roll-Expr (Option (List ℕ)) (unknown_step around) (Expr-F.Binary op a b)

pub placed_number : (around : List LocalDeclaration) (n : ℤ) → placed around (e.Number n) ≡ u.Number n
unfolding placed roll-Expr denote.Hole.Carrier.roll
placed_number around n = fold-roll-Expr UExpr (placed_step around) (Expr-F.Number n)

pub placed_variable : (around : List LocalDeclaration) (x : List ℕ) → placed around (e.Var x) ≡ u.Var (slot_of around x)
unfolding placed roll-Expr denote.Hole.Carrier.roll
placed_variable around x = fold-roll-Expr UExpr (placed_step around) (Expr-F.Var x)

pub placed_unary : (around : List LocalDeclaration) (op : UnOp) (a : Expr) → placed around (e.Unary op a) ≡ u.Unary op (placed around a)
unfolding placed roll-Expr denote.Hole.Carrier.roll
placed_unary around op a = fold-roll-Expr UExpr (placed_step around) (Expr-F.Unary op a)

pub placed_binary : (around : List LocalDeclaration) (op : BinOp) (a b : Expr) → placed around (e.Binary op a b) ≡ u.Binary op (placed around a) (placed around b)
unfolding placed roll-Expr denote.Hole.Carrier.roll
placed_binary around op a b = fold-roll-Expr UExpr (placed_step around) (Expr-F.Binary op a b)

-- what is known among the declarations `asked` is so among those around
module _ (variable : ℕ → List ℕ) (asked around : List LocalDeclaration) (further : (x : List ℕ) → unknown asked x ≡ None → unknown around x ≡ None) (named : Each (VariableNamed variable) around) where
  abbrev GoesBack : Expr → Type 0
  GoesBack a = unknown_in asked a ≡ None → expr_named variable (placed around a) ≡ a

  abbrev Part : Type 0
  Part = (a : Expr) × GoesBack a

  expr_layer : (y : Expr-F Part) → GoesBack (roll-Expr (map-Expr Part Expr (λ e. e.0) y))
  unfolding roll-Expr denote.Hole.Carrier.roll
  expr_layer (Expr-F.Number n) h = ap (expr_named variable) (placed_number around n) ∙ named_number variable n
  expr_layer (Expr-F.Var x) h =
      ap (expr_named variable) (placed_variable around x) ∙ named_variable variable (slot_of around x)
      ∙ ap e.Var (slot_back variable around x named (further x (sym (unknown_variable asked x) ∙ h)))
  expr_layer (Expr-F.Unary op a) h =
      ap (expr_named variable) (placed_unary around op a.0) ∙ named_unary variable op (placed around a.0) ∙ ap (e.Unary op) (a.1 (sym (unknown_unary asked op a.0) ∙ h))
  expr_layer (Expr-F.Binary op a b) h =
      let both = neither (unknown_in asked a.0) (unknown_in asked b.0) (sym (unknown_binary asked op a.0 b.0) ∙ h) in
      ap (expr_named variable) (placed_binary around op a.0 b.0) ∙ named_binary variable op (placed around a.0) (placed around b.0)
      ∙ ap (λ x. e.Binary op x (expr_named variable (placed around b.0))) (a.1 both.0) ∙ ap (λ x. e.Binary op a.0 x) (b.1 both.1)

  pub expr_back : (a : Expr) → GoesBack a
  expr_back = ind-Expr GoesBack (λ x y is. subst (λ z. GoesBack (roll-Expr z)) is (expr_layer y))

  pub option_back : (a : Option Expr) → unknown_in_option asked a ≡ None → option_named variable (placed_option around a) ≡ a
  option_back None h = refl
  option_back (Some a) h = ap Some (expr_back a h)

  pub exprs_back : (es : List Expr) → unknown_in_all asked es ≡ None → map (expr_named variable) (placed_all around es) ≡ es
  exprs_back [] h = refl
  exprs_back (a ∷ es) h =
      let both = neither (unknown_in asked a) (unknown_in_all asked es) h in
      ap (λ x. x ∷ map (expr_named variable) (placed_all around es)) (expr_back a both.0) ∙ ap (λ xs. a ∷ xs) (exprs_back es both.1)
