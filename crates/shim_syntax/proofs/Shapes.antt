-- What each form of an expression shows as.
use Rattle.std.proofs.Common.{ℕ, suc, ◌≤◌, ◌≡◌, ℤ, Bool, List, [], ◌∷◌, ◌++◌, refl, ap, ◌∙◌, arith}
use Rattle.std.specs.Prelude.{nat_lt, nat_le}
use Rattle.std.proofs.lemmas.Bool.Decides.{nat_tests}
use Rattle.shim_base.specs.declared.TokenKind.TheVariants.{Sign as SignKind, Key as KeyKind}
use Rattle.shim_base.specs.declared.Keyword.{Keyword}
use Rattle.shim_base.specs.declared.Keyword.TheVariants as k
use Rattle.shim_base.specs.declared.Sign.{Sign as SignOf}
use Rattle.shim_base.specs.declared.Sign.TheVariants as g
use Rattle.shim_base.specs.declared.BinOp.{BinOp}
use Rattle.shim_base.specs.declared.UnOp.{UnOp}
use Rattle.shim_base.specs.Tokens.{sign_of, keyword_of, Spells}
use Rattle.shim_syntax.specs.declared.tree.Expr.{Expr, Expr-F, roll-Expr, fold-roll-Expr}
use Rattle.shim_syntax.specs.declared.tree.Expr.TheVariants as e
use Rattle.shim_syntax.specs.Grammar.{row_of_sign, operator_of_sign}
use Rattle.shim_syntax.specs.Printing.{PrintedPiece, ExprShown, expr_shown, expr_step, expr_row, expr_pieces, wrapped, name_piece, number_piece, sign_piece, sign_text, key_text, row_of_operator, sign_of_operator, sign_of_unary}

pub number_shown : (n : ℤ) → expr_shown (e.Number n) ≡ record { row = 0; pieces = number_piece n ∷ [] }
unfolding roll-Expr denote.Hole.Carrier.roll
number_shown n = fold-roll-Expr ExprShown expr_step (Expr-F.Number n)

pub variable_shown : (x : List ℕ) → expr_shown (e.Var x) ≡ record { row = 0; pieces = name_piece x ∷ [] }
unfolding roll-Expr denote.Hole.Carrier.roll
variable_shown x = fold-roll-Expr ExprShown expr_step (Expr-F.Var x)

pub unary_shown : (o : UnOp) (x : Expr) → expr_shown (e.Unary o x) ≡ record { row = 0; pieces = sign_piece (sign_of_unary o) ∷ wrapped (nat_lt 0 (expr_row x)) (expr_pieces x) }
unfolding roll-Expr denote.Hole.Carrier.roll
unary_shown o x = fold-roll-Expr ExprShown expr_step (Expr-F.Unary o x)

-- the pieces of two operands with an operator of this row and this sign
abbrev pub both_pieces : ℕ → SignOf → Bool → Expr → Expr → List PrintedPiece
both_pieces n o right x z = wrapped (nat_lt n (expr_row x)) (expr_pieces x) ++ sign_piece o ∷ wrapped right (expr_pieces z)

binary_is_shown : (o : BinOp) (x z : Expr) →
    expr_shown (e.Binary o x z) ≡ record { row = row_of_operator o; pieces = both_pieces (row_of_operator o) (sign_of_operator o) (nat_le (row_of_operator o) (expr_row z)) x z }
unfolding roll-Expr denote.Hole.Carrier.roll
binary_is_shown o x z = fold-roll-Expr ExprShown expr_step (Expr-F.Binary o x z)

-- the operator of a sign has the sign's row, is written with it, and is in none of the rows past the loosest
pub record IsOf (o : SignOf) (n : ℕ) : Type 0 where
  pub row_is : row_of_operator (operator_of_sign o) ≡ suc n
  pub sign_is : sign_of_operator (operator_of_sign o) ≡ o
  pub row_most : suc n ≤ 10

pub operator_is : (o : SignOf) (n : ℕ) → row_of_sign o ≡ suc n → IsOf o n
operator_is g.Star n h = record { row_is = h; sign_is = refl; row_most = omega (arith, h) }
operator_is g.Slash n h = record { row_is = h; sign_is = refl; row_most = omega (arith, h) }
operator_is g.Percent n h = record { row_is = h; sign_is = refl; row_most = omega (arith, h) }
operator_is g.Plus n h = record { row_is = h; sign_is = refl; row_most = omega (arith, h) }
operator_is g.Minus n h = record { row_is = h; sign_is = refl; row_most = omega (arith, h) }
operator_is g.Shl n h = record { row_is = h; sign_is = refl; row_most = omega (arith, h) }
operator_is g.Shr n h = record { row_is = h; sign_is = refl; row_most = omega (arith, h) }
operator_is g.Less n h = record { row_is = h; sign_is = refl; row_most = omega (arith, h) }
operator_is g.Le n h = record { row_is = h; sign_is = refl; row_most = omega (arith, h) }
operator_is g.Greater n h = record { row_is = h; sign_is = refl; row_most = omega (arith, h) }
operator_is g.Ge n h = record { row_is = h; sign_is = refl; row_most = omega (arith, h) }
operator_is g.EqEq n h = record { row_is = h; sign_is = refl; row_most = omega (arith, h) }
operator_is g.NotEq n h = record { row_is = h; sign_is = refl; row_most = omega (arith, h) }
operator_is g.Amp n h = record { row_is = h; sign_is = refl; row_most = omega (arith, h) }
operator_is g.Caret n h = record { row_is = h; sign_is = refl; row_most = omega (arith, h) }
operator_is g.Bar n h = record { row_is = h; sign_is = refl; row_most = omega (arith, h) }
operator_is g.AndAnd n h = record { row_is = h; sign_is = refl; row_most = omega (arith, h) }
operator_is g.OrOr n h = record { row_is = h; sign_is = refl; row_most = omega (arith, h) }
operator_is g.LeftParen n h = absurd (omega (arith, h))
operator_is g.RightParen n h = absurd (omega (arith, h))
operator_is g.LeftBrace n h = absurd (omega (arith, h))
operator_is g.RightBrace n h = absurd (omega (arith, h))
operator_is g.Comma n h = absurd (omega (arith, h))
operator_is g.Semicolon n h = absurd (omega (arith, h))
operator_is g.Equal n h = absurd (omega (arith, h))
operator_is g.Tilde n h = absurd (omega (arith, h))
operator_is g.Bang n h = absurd (omega (arith, h))

-- at least the next row is past this one
next_row : (n m : ℕ) → nat_le (suc n) m ≡ nat_lt n m
next_row n m = grind (arith, nat_tests)

-- an operator of the row suc n between two operands
pub binary_shown : (o : SignOf) (n : ℕ) (x z : Expr) → row_of_sign o ≡ suc n →
    expr_shown (e.Binary (operator_of_sign o) x z) ≡ record { row = suc n; pieces = both_pieces (suc n) o (nat_lt n (expr_row z)) x z }
binary_shown o n x z h =
    let of = operator_is o n h in
    let shown : ℕ → SignOf → Bool → ExprShown = λ m t b. record { row = m; pieces = both_pieces m t b x z } in
    binary_is_shown (operator_of_sign o) x z
    ∙ ap (λ (m : ℕ). shown m (sign_of_operator (operator_of_sign o)) (nat_le m (expr_row z))) of.row_is
    ∙ ap (λ (t : SignOf). shown (suc n) t (nat_le (suc n) (expr_row z))) of.sign_is
    ∙ ap (λ (b : Bool). shown (suc n) o b) (next_row n (expr_row z))

-- each sign is spelled by its text
pub sign_spells : (o : SignOf) → Spells (sign_text o) (SignKind o)
unfolding sign_of
sign_spells g.Shl = refl
sign_spells g.Shr = refl
sign_spells g.Le = refl
sign_spells g.Ge = refl
sign_spells g.EqEq = refl
sign_spells g.NotEq = refl
sign_spells g.AndAnd = refl
sign_spells g.OrOr = refl
sign_spells g.LeftParen = refl
sign_spells g.RightParen = refl
sign_spells g.LeftBrace = refl
sign_spells g.RightBrace = refl
sign_spells g.Comma = refl
sign_spells g.Semicolon = refl
sign_spells g.Equal = refl
sign_spells g.Amp = refl
sign_spells g.Caret = refl
sign_spells g.Bar = refl
sign_spells g.Plus = refl
sign_spells g.Minus = refl
sign_spells g.Star = refl
sign_spells g.Slash = refl
sign_spells g.Percent = refl
sign_spells g.Tilde = refl
sign_spells g.Bang = refl
sign_spells g.Less = refl
sign_spells g.Greater = refl

-- and each keyword
pub key_spells : (word : Keyword) → Spells (key_text word) (KeyKind word)
unfolding keyword_of
key_spells k.Void = (refl, refl)
key_spells k.Throws = (refl, refl)
key_spells k.Bool = (refl, refl)
key_spells k.Int = (refl, refl)
key_spells k.Int8 = (refl, refl)
key_spells k.Int16 = (refl, refl)
key_spells k.Int32 = (refl, refl)
key_spells k.Uint8 = (refl, refl)
key_spells k.Uint16 = (refl, refl)
key_spells k.Uint32 = (refl, refl)
key_spells k.Istream = (refl, refl)
key_spells k.Ostream = (refl, refl)
key_spells k.Next = (refl, refl)
key_spells k.Get = (refl, refl)
key_spells k.Put = (refl, refl)
key_spells k.If = (refl, refl)
key_spells k.Else = (refl, refl)
key_spells k.While = (refl, refl)
key_spells k.For = (refl, refl)
key_spells k.Try = (refl, refl)
key_spells k.Catch = (refl, refl)
key_spells k.Throw = (refl, refl)
key_spells k.Par = (refl, refl)
key_spells k.TrueKey = (refl, refl)
key_spells k.FalseKey = (refl, refl)
