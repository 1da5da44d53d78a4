-- What the functions for the parts of a program read, within the limits.
use Rattle.std.specs.Prelude.{ℕ, suc, ◌≡◌, ◌≤◌, List, ◌∷◌, Bool, true, false, Option, Some, None}
use Rattle.shim_base.specs.declared.token.Keyword.TheVariants as k
use Rattle.shim_base.specs.declared.token.Sign.{Sign as SignOf}
use Rattle.shim_base.specs.declared.token.Sign.TheVariants as g
use Rattle.shim_base.specs.declared.operators.UnOp.{UnOp}
use Rattle.shim_base.specs.declared.operators.UnOp.TheVariants.{Neg, Not, Flip}
use Rattle.shim_base.specs.Tokens.{Place}
use Rattle.shim_syntax.specs.declared.Expr.{Expr}
use Rattle.shim_syntax.specs.Terminals.{Terminal, Name, Number, Key, Sign, first}
use Rattle.shim_syntax.specs.Limits.{Nesting, limits, is_within}
use Rattle.shim_syntax.specs.Grammar.{TextCounts, at_level, operator_row, IsWhole}
use Rattle.shim_grammar.specs.declared.punctuation.Punctuation.{Punctuation}
use Rattle.shim_grammar.specs.declared.punctuation.Punctuation.TheVariants as punctuation

-- the terminal that is the punctuation, at that place
abbrev pub punctuationed : Punctuation → Place → Terminal
punctuationed punctuation.LeftParen p = Sign g.LeftParen p
punctuationed punctuation.RightParen p = Sign g.RightParen p
punctuationed punctuation.LeftBrace p = Sign g.LeftBrace p
punctuationed punctuation.Comma p = Sign g.Comma p
punctuationed punctuation.Semicolon p = Sign g.Semicolon p
punctuationed punctuation.Equal p = Sign g.Equal p
punctuationed punctuation.Catch p = Key k.Catch p

-- the punctuation that a terminal is
abbrev pub punctuation_of : Terminal → Option Punctuation
punctuation_of (Sign g.LeftParen p) = Some punctuation.LeftParen
punctuation_of (Sign g.RightParen p) = Some punctuation.RightParen
punctuation_of (Sign g.LeftBrace p) = Some punctuation.LeftBrace
punctuation_of (Sign g.Comma p) = Some punctuation.Comma
punctuation_of (Sign g.Semicolon p) = Some punctuation.Semicolon
punctuation_of (Sign g.Equal p) = Some punctuation.Equal
punctuation_of (Key k.Catch p) = Some punctuation.Catch
punctuation_of _ = None

-- that punctuation, which changes no count
abbrev pub IsPunctuation : Punctuation → TextCounts → TextCounts → List Terminal → List Terminal → Unit {0} → Type 0
IsPunctuation f v w s r x = (p : Place) × (s ≡ punctuationed f p ∷ r) × (v ≡ w)

-- a name, which changes no count
abbrev pub IsName : TextCounts → TextCounts → List Terminal → List Terminal → List ℕ → Type 0
IsName v w s r x = (p : Place) × (s ≡ Name x p ∷ r) × (v ≡ w)

-- a name with that punctuation after it; neither changes a count
abbrev pub IsNameBefore : Punctuation → TextCounts → TextCounts → List Terminal → List Terminal → List ℕ → Type 0
IsNameBefore f v w s r x = (p : Place) × (q : Place) × (s ≡ Name x p ∷ punctuationed f q ∷ r) × (v ≡ w)

-- whether an operand begins with the terminal
abbrev pub begins_operand : Terminal → Bool
begins_operand (Number n p) = true
begins_operand (Name x p) = true
begins_operand (Sign g.LeftParen p) = true
begins_operand (Sign g.Minus p) = true
begins_operand (Sign g.Bang p) = true
begins_operand (Sign g.Tilde p) = true
begins_operand _ = false

-- an operand begins with the first terminal, which is left; the limit allows the level, and the level is counted
abbrev pub IsEntered : ℕ → TextCounts → TextCounts → List Terminal → List Terminal → Unit {0} → Type 0
IsEntered l v w s r x = (is_within Nesting l ≡ true) × (w ≡ at_level l v) × (s ≡ r) × (begins_operand (first s) ≡ true)

abbrev pub unary_sign : UnOp → SignOf
unary_sign Neg = g.Minus
unary_sign Not = g.Bang
unary_sign Flip = g.Tilde

-- the terminal is the sign of that operator
abbrev pub IsUnarySign : UnOp → Terminal → Type 0
IsUnarySign op t = (p : Place) × (t ≡ Sign (unary_sign op) p)

-- a whole expression of the level l, with that punctuation after it
abbrev pub IsWholeBefore : Punctuation → ℕ → TextCounts → TextCounts → List Terminal → List Terminal → Expr → Type 0
IsWholeBefore f l v w s r x = (p : Place) × IsWhole limits l v w s (punctuationed f p ∷ r) x

-- an expression in the parentheses of an `if` or a `while`
abbrev pub IsTestOf : ℕ → TextCounts → TextCounts → List Terminal → List Terminal → Expr → Type 0
IsTestOf l v w s r x = (p : Place) × (q : Place) × (m : List Terminal) × (s ≡ Sign g.LeftParen p ∷ m) × IsWhole limits l v w m (Sign g.RightParen q ∷ r) x

-- no operator of the row n or a tighter one follows
abbrev pub Stops : ℕ → List Terminal → Type 0
Stops n r = (j : ℕ) → operator_row (first r) ≡ suc j → suc j ≤ n → ⊥
