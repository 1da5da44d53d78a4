-- What binding says of an expression with its names replaced.
use Rattle.std.proofs.Common.{ℕ, ℤ, ◌≡◌, ◌∙◌, List, [], ◌∷◌, Option, Some, None, map, refl, sym, ap, subst}
use Rattle.std.specs.Option.{option_map}
use Rattle.std.specs.Str.{bytes_eq}
use Rattle.shim_base.specs.declared.operators.BinOp.{BinOp}
use Rattle.shim_base.specs.declared.operators.UnOp.{UnOp}
use Rattle.shim_syntax.specs.declared.tree.Expr.{Expr, Expr-F, ind-Expr, map-Expr, roll-Expr}
use Rattle.shim_syntax.specs.declared.tree.Expr.TheVariants as e
use Rattle.shim_scopes.specs.declared.scope.LocalDeclaration.{LocalDeclaration}
use Rattle.shim_scopes.specs.declared.tree.UExpr.TheVariants as u
use Rattle.shim_scopes.specs.Binding.{unknown_in, unknown_in_all, unknown_in_option, stream_in, stream_in_option, bare, placed, placed_all, placed_option}
use Rattle.shim_up.specs.Renaming.{Renaming, renamed_expr, renamed_option}
use Rattle.shim_laws_up.specs.Around.{local_renamed}
use Rattle.shim_laws_up.proofs.Names.{both_or, unknown_same, no_number_same, slot_same}
use Rattle.shim_laws_up.proofs.RenamedSteps.{renamed_number, name_renamed, renamed_unary, renamed_binary}
use Rattle.shim_laws_up.proofs.ExprSteps.{unknown_number, unknown_variable, unknown_unary, unknown_binary, stream_number, stream_variable, stream_unary, stream_binary, placed_number, placed_variable, placed_unary, placed_binary, bare_number, bare_variable, bare_unary, bare_binary}

module _ (f : Renaming) (same : (x y : List ℕ) → bytes_eq (f x) (f y) ≡ bytes_eq x y) where
  abbrev locals : List LocalDeclaration → List LocalDeclaration
  locals around = map (local_renamed f) around

  -- all that is asked of an expression
  pub record IsSame (a : Expr) : Type 0 where
    pub unknown : (around : List LocalDeclaration) → unknown_in (locals around) (renamed_expr f a) ≡ option_map f (unknown_in around a)
    pub stream : (around : List LocalDeclaration) → stream_in (locals around) (renamed_expr f a) ≡ option_map f (stream_in around a)
    pub placed : (around : List LocalDeclaration) → placed (locals around) (renamed_expr f a) ≡ placed around a
    pub bare : bare (renamed_expr f a) ≡ option_map f (bare a)

  number_is : (n : ℤ) → IsSame (e.Number n)
  number_is n = record {
    unknown = λ ls. ap (unknown_in (locals ls)) (renamed_number f n) ∙ unknown_number (locals ls) n ∙ ap (λ (o : Option (List ℕ)). option_map f o) (sym (unknown_number ls n));
    stream = λ ls. ap (stream_in (locals ls)) (renamed_number f n) ∙ stream_number (locals ls) n ∙ ap (λ (o : Option (List ℕ)). option_map f o) (sym (stream_number ls n));
    placed = λ ls. ap (placed (locals ls)) (renamed_number f n) ∙ placed_number (locals ls) n ∙ sym (placed_number ls n);
    bare = ap bare (renamed_number f n) ∙ bare_number n ∙ ap (λ (o : Option (List ℕ)). option_map f o) (sym (bare_number n));
  }

  variable_is : (x : List ℕ) → IsSame (e.Var x)
  variable_is x = record {
    unknown = λ ls. ap (unknown_in (locals ls)) (name_renamed f x) ∙ unknown_variable (locals ls) (f x) ∙ unknown_same f same ls x ∙ ap (λ (o : Option (List ℕ)). option_map f o) (sym (unknown_variable ls x));
    stream = λ ls. ap (stream_in (locals ls)) (name_renamed f x) ∙ stream_variable (locals ls) (f x) ∙ no_number_same f same ls x ∙ ap (λ (o : Option (List ℕ)). option_map f o) (sym (stream_variable ls x));
    placed = λ ls. ap (placed (locals ls)) (name_renamed f x) ∙ placed_variable (locals ls) (f x) ∙ ap u.Var (slot_same f same ls x) ∙ sym (placed_variable ls x);
    bare = ap bare (name_renamed f x) ∙ bare_variable (f x) ∙ ap (λ (o : Option (List ℕ)). option_map f o) (sym (bare_variable x));
  }

  unary_is : (op : UnOp) (a : Expr) → IsSame a → IsSame (e.Unary op a)
  unary_is op a h = record {
    unknown = λ ls. ap (unknown_in (locals ls)) (renamed_unary f op a) ∙ unknown_unary (locals ls) op (renamed_expr f a) ∙ h.unknown ls ∙ ap (λ (o : Option (List ℕ)). option_map f o) (sym (unknown_unary ls op a));
    stream = λ ls. ap (stream_in (locals ls)) (renamed_unary f op a) ∙ stream_unary (locals ls) op (renamed_expr f a) ∙ h.stream ls ∙ ap (λ (o : Option (List ℕ)). option_map f o) (sym (stream_unary ls op a));
    placed = λ ls. ap (placed (locals ls)) (renamed_unary f op a) ∙ placed_unary (locals ls) op (renamed_expr f a) ∙ ap (u.Unary op) (h.placed ls) ∙ sym (placed_unary ls op a);
    bare = ap bare (renamed_unary f op a) ∙ bare_unary op (renamed_expr f a) ∙ ap (λ (o : Option (List ℕ)). option_map f o) (sym (bare_unary op a));
  }

  binary_is : (op : BinOp) (a b : Expr) → IsSame a → IsSame b → IsSame (e.Binary op a b)
  binary_is op a b h k = record {
    unknown = λ ls. ap (unknown_in (locals ls)) (renamed_binary f op a b) ∙ unknown_binary (locals ls) op (renamed_expr f a) (renamed_expr f b)
        ∙ both_or f _ _ _ _ (h.unknown ls) (k.unknown ls) ∙ ap (λ (o : Option (List ℕ)). option_map f o) (sym (unknown_binary ls op a b));
    stream = λ ls. ap (stream_in (locals ls)) (renamed_binary f op a b) ∙ stream_binary (locals ls) op (renamed_expr f a) (renamed_expr f b)
        ∙ both_or f _ _ _ _ (h.stream ls) (k.stream ls) ∙ ap (λ (o : Option (List ℕ)). option_map f o) (sym (stream_binary ls op a b));
    placed = λ ls. ap (placed (locals ls)) (renamed_binary f op a b) ∙ placed_binary (locals ls) op (renamed_expr f a) (renamed_expr f b)
        ∙ ap (λ x. u.Binary op x (placed (locals ls) (renamed_expr f b))) (h.placed ls) ∙ ap (u.Binary op (placed ls a)) (k.placed ls) ∙ sym (placed_binary ls op a b);
    bare = ap bare (renamed_binary f op a b) ∙ bare_binary op (renamed_expr f a) (renamed_expr f b) ∙ ap (λ (o : Option (List ℕ)). option_map f o) (sym (bare_binary op a b));
  }

  abbrev Part : Type 0
  Part = (a : Expr) × IsSame a

  expr_layer : (y : Expr-F Part) → IsSame (roll-Expr (map-Expr Part Expr (λ e. e.0) y))
  unfolding roll-Expr denote.Hole.Carrier.roll
  expr_layer (Expr-F.Number n) = number_is n
  expr_layer (Expr-F.Var x) = variable_is x
  expr_layer (Expr-F.Unary op a) = unary_is op a.0 a.1
  expr_layer (Expr-F.Binary op a b) = binary_is op a.0 b.0 a.1 b.1

  pub expr_is : (a : Expr) → IsSame a
  expr_is = ind-Expr IsSame (λ x y is. subst (λ z. IsSame (roll-Expr z)) is (expr_layer y))

  pub option_unknown : (around : List LocalDeclaration) (a : Option Expr) → unknown_in_option (locals around) (renamed_option f a) ≡ option_map f (unknown_in_option around a)
  option_unknown around None = refl
  option_unknown around (Some a) = (expr_is a).unknown around

  pub option_stream : (around : List LocalDeclaration) (a : Option Expr) → stream_in_option (locals around) (renamed_option f a) ≡ option_map f (stream_in_option around a)
  option_stream around None = refl
  option_stream around (Some a) = (expr_is a).stream around

  pub option_placed : (around : List LocalDeclaration) (a : Option Expr) → placed_option (locals around) (renamed_option f a) ≡ placed_option around a
  option_placed around None = refl
  option_placed around (Some a) = ap Some ((expr_is a).placed around)

  pub all_unknown : (around : List LocalDeclaration) (es : List Expr) → unknown_in_all (locals around) (map (renamed_expr f) es) ≡ option_map f (unknown_in_all around es)
  all_unknown around [] = refl
  all_unknown around (a ∷ es) = both_or f _ _ _ _ ((expr_is a).unknown around) (all_unknown around es)

  pub all_placed : (around : List LocalDeclaration) (es : List Expr) → placed_all (locals around) (map (renamed_expr f) es) ≡ placed_all around es
  all_placed around [] = refl
  all_placed around (a ∷ es) = ap (λ x. x ∷ placed_all (locals around) (map (renamed_expr f) es)) ((expr_is a).placed around) ∙ ap (λ xs. placed around a ∷ xs) (all_placed around es)
