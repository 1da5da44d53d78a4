-- What binding says of each form of an expression.
use Rattle.std.proofs.Common.{ℕ, ℤ, ◌≡◌, List, Option, Some, None}
use Rattle.std.specs.Option.{option_or}
use Rattle.shim_base.specs.declared.operators.BinOp.{BinOp}
use Rattle.shim_base.specs.declared.operators.UnOp.{UnOp}
use Rattle.shim_syntax.specs.declared.tree.Expr.{Expr, Expr-F, fold-roll-Expr, roll-Expr}
use Rattle.shim_syntax.specs.declared.tree.Expr.TheVariants as e
use Rattle.shim_scopes.specs.declared.scope.LocalDeclaration.{LocalDeclaration}
use Rattle.shim_scopes.specs.declared.tree.UExpr.{UExpr}
use Rattle.shim_scopes.specs.declared.tree.UExpr.TheVariants as u
use Rattle.shim_scopes.specs.Binding.{unknown, unknown_step, unknown_in, no_number, stream_step, stream_in, bare_step, bare, slot_of, placed_step, placed}

pub unknown_number : (around : List LocalDeclaration) (n : ℤ) → unknown_in around (e.Number n) ≡ None
unfolding unknown_in roll-Expr denote.Hole.Carrier.roll
unknown_number around n = fold-roll-Expr (Option (List ℕ)) (unknown_step around) (Expr-F.Number n)

pub unknown_variable : (around : List LocalDeclaration) (x : List ℕ) → unknown_in around (e.Var x) ≡ unknown around x
unfolding unknown_in roll-Expr denote.Hole.Carrier.roll
unknown_variable around x = fold-roll-Expr (Option (List ℕ)) (unknown_step around) (Expr-F.Var x)

pub unknown_unary : (around : List LocalDeclaration) (op : UnOp) (a : Expr) → unknown_in around (e.Unary op a) ≡ unknown_in around a
unfolding unknown_in roll-Expr denote.Hole.Carrier.roll
unknown_unary around op a = fold-roll-Expr (Option (List ℕ)) (unknown_step around) (Expr-F.Unary op a)

pub unknown_binary : (around : List LocalDeclaration) (op : BinOp) (a b : Expr) → unknown_in around (e.Binary op a b) ≡ option_or (unknown_in around a) (unknown_in around b)
unfolding unknown_in roll-Expr denote.Hole.Carrier.roll
unknown_binary around op a b = fold-roll-Expr (Option (List ℕ)) (unknown_step around) (Expr-F.Binary op a b)

pub stream_number : (around : List LocalDeclaration) (n : ℤ) → stream_in around (e.Number n) ≡ None
unfolding stream_in roll-Expr denote.Hole.Carrier.roll
stream_number around n = fold-roll-Expr (Option (List ℕ)) (stream_step around) (Expr-F.Number n)

pub stream_variable : (around : List LocalDeclaration) (x : List ℕ) → stream_in around (e.Var x) ≡ no_number around x
unfolding stream_in roll-Expr denote.Hole.Carrier.roll
stream_variable around x = fold-roll-Expr (Option (List ℕ)) (stream_step around) (Expr-F.Var x)

pub stream_unary : (around : List LocalDeclaration) (op : UnOp) (a : Expr) → stream_in around (e.Unary op a) ≡ stream_in around a
unfolding stream_in roll-Expr denote.Hole.Carrier.roll
stream_unary around op a = fold-roll-Expr (Option (List ℕ)) (stream_step around) (Expr-F.Unary op a)

pub stream_binary : (around : List LocalDeclaration) (op : BinOp) (a b : Expr) → stream_in around (e.Binary op a b) ≡ option_or (stream_in around a) (stream_in around b)
unfolding stream_in roll-Expr denote.Hole.Carrier.roll
stream_binary around op a b = fold-roll-Expr (Option (List ℕ)) (stream_step around) (Expr-F.Binary op a b)

pub placed_number : (around : List LocalDeclaration) (n : ℤ) → placed around (e.Number n) ≡ u.Number n
unfolding placed roll-Expr denote.Hole.Carrier.roll
placed_number around n = fold-roll-Expr (UExpr) (placed_step around) (Expr-F.Number n)

pub placed_variable : (around : List LocalDeclaration) (x : List ℕ) → placed around (e.Var x) ≡ u.Var (slot_of around x)
unfolding placed roll-Expr denote.Hole.Carrier.roll
placed_variable around x = fold-roll-Expr (UExpr) (placed_step around) (Expr-F.Var x)

pub placed_unary : (around : List LocalDeclaration) (op : UnOp) (a : Expr) → placed around (e.Unary op a) ≡ u.Unary op (placed around a)
unfolding placed roll-Expr denote.Hole.Carrier.roll
placed_unary around op a = fold-roll-Expr (UExpr) (placed_step around) (Expr-F.Unary op a)

pub placed_binary : (around : List LocalDeclaration) (op : BinOp) (a b : Expr) → placed around (e.Binary op a b) ≡ u.Binary op (placed around a) (placed around b)
unfolding placed roll-Expr denote.Hole.Carrier.roll
placed_binary around op a b = fold-roll-Expr (UExpr) (placed_step around) (Expr-F.Binary op a b)

pub bare_number : (n : ℤ) → bare (e.Number n) ≡ None
unfolding bare roll-Expr denote.Hole.Carrier.roll
bare_number n = fold-roll-Expr (Option (List ℕ)) (bare_step) (Expr-F.Number n)

pub bare_variable : (x : List ℕ) → bare (e.Var x) ≡ Some x
unfolding bare roll-Expr denote.Hole.Carrier.roll
bare_variable x = fold-roll-Expr (Option (List ℕ)) (bare_step) (Expr-F.Var x)

pub bare_unary : (op : UnOp) (a : Expr) → bare (e.Unary op a) ≡ None
unfolding bare roll-Expr denote.Hole.Carrier.roll
bare_unary op a = fold-roll-Expr (Option (List ℕ)) (bare_step) (Expr-F.Unary op a)

pub bare_binary : (op : BinOp) (a b : Expr) → bare (e.Binary op a b) ≡ None
unfolding bare roll-Expr denote.Hole.Carrier.roll
bare_binary op a b = fold-roll-Expr (Option (List ℕ)) (bare_step) (Expr-F.Binary op a b)
