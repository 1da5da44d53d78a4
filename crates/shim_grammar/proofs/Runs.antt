-- What the grammar derives within some limits, the machine runs through under them, and counts the same.
use Rattle.std.proofs.Common.{◌≡◌, ℕ, suc, List, [], ◌∷◌, Bool, true, false, Option, Some, None, refl, ◌∙◌, ap}
use Rattle.shim_base.specs.declared.token.Keyword.TheVariants as k
use Rattle.shim_base.specs.declared.token.Sign.{Sign as SignOf}
use Rattle.shim_base.specs.declared.token.Sign.TheVariants as g
use Rattle.shim_base.specs.Tokens.{Place}
use Rattle.shim_syntax.specs.declared.limits.Many.TheVariants as many
use Rattle.shim_syntax.specs.declared.tree.Expr.{Expr}
use Rattle.shim_syntax.specs.Terminals.{Terminal, Key, Sign, first}
use Rattle.shim_syntax.specs.Limits.{Limit, Nesting, Count, Limits}
use Rattle.shim_syntax.specs.Grammar as is
use Rattle.shim_syntax.specs.Grammar.{TextCounts, with_operator, with_local, new_expression, new_body, new_function, at_level, behind_body, as_branch, row_of_sign, is_else, is_par, IsExpr, IsChain, IsWhole, IsArguments, IsMoreArguments, IsTest}
use Rattle.shim_grammar.specs.declared.punctuation.Punctuation.TheVariants as punctuation
use Rattle.shim_grammar.specs.Machine.{Fixed, Operand, Inside, Expression, Operators, Arguments, MoreArguments, Argument, AfterEqual, Test, Statement, Body, Block, Else, AfterBody, Pars, SymbolStack, Want, ParseEnd, At, Unwanted, ask, go, is_operator, joins_sign, operand, operators, judge, run_parser}

-- how a run goes on with what a terminal wants
abbrev pub run_on : Limits → Terminal → List Terminal → Option Want → ParseEnd
run_on c x s o = elim o [ None ↦ At Unwanted (x ∷ s) | Some n ↦ judge c (x ∷ s) n.asks (run_parser c s n.stack n.counts) ]

-- a limit that allows what is asked changes nothing
pub asked : (c : Limits) (x : Terminal) (s : List Terminal) (limit : Limit) (n : ℕ) (o : Option Want) → c (x ∷ s) limit n ≡ true → run_on c x s (ask limit n o) ≡ run_on c x s o
asked c x s limit n None h = refl
asked c x s limit n (Some w) h = rw h refl

-- a thing that may begin is what it is
pub inside_runs : (c : Limits) (s : List Terminal) (l : ℕ) (w : TextCounts) (k : SymbolStack) → c s Nesting l ≡ true → run_parser c s (Inside l ∷ k) w ≡ run_parser c s (Operand l ∷ k) (at_level l w)
inside_runs c [] l w k h = refl
inside_runs c (x ∷ s) l w k h = asked c x s Nesting l (operand x l k (at_level l w)) h

pub expression_runs : (c : Limits) (s : List Terminal) (l : ℕ) (w : TextCounts) (k : SymbolStack) → run_parser c s (Expression l ∷ k) w ≡ run_parser c s (Operand l ∷ k) (new_expression w)
expression_runs c [] l w k = refl
expression_runs c (x ∷ s) l w k = refl

-- a sign of a row joins
pub joins_of_row : (o : SignOf) (n : ℕ) → row_of_sign o ≡ suc n → joins_sign o ≡ true
joins_of_row g.Star n e = refl
joins_of_row g.Slash n e = refl
joins_of_row g.Percent n e = refl
joins_of_row g.Plus n e = refl
joins_of_row g.Minus n e = refl
joins_of_row g.Shl n e = refl
joins_of_row g.Shr n e = refl
joins_of_row g.Less n e = refl
joins_of_row g.Le n e = refl
joins_of_row g.Greater n e = refl
joins_of_row g.Ge n e = refl
joins_of_row g.EqEq n e = refl
joins_of_row g.NotEq n e = refl
joins_of_row g.Amp n e = refl
joins_of_row g.Caret n e = refl
joins_of_row g.Bar n e = refl
joins_of_row g.AndAnd n e = refl
joins_of_row g.OrOr n e = refl
joins_of_row _ n e = absurd (cc)

operators_take : (x : Terminal) (l : ℕ) (k : SymbolStack) (w : TextCounts) (other : Option Want) → is_operator x ≡ true
    → operators x l k w other ≡ ask (Count many.Operators) (suc w.operators) (go (Operand l ∷ Operators l ∷ k) (with_operator w))
operators_take x l k w other e = rw e refl

operators_leave : (x : Terminal) (l : ℕ) (k : SymbolStack) (w : TextCounts) (other : Option Want) → is_operator x ≡ false → operators x l k w other ≡ other
operators_leave x l k w other e = rw e refl

pub operator_runs : (c : Limits) (x : Terminal) (s : List Terminal) (l : ℕ) (w : TextCounts) (k : SymbolStack) → is_operator x ≡ true → c (x ∷ s) (Count many.Operators) (suc w.operators) ≡ true
    → run_parser c (x ∷ s) (Operators l ∷ k) w ≡ run_parser c s (Operand l ∷ Operators l ∷ k) (with_operator w)
operator_runs c x s l w k e h = ap (λ o. run_on c x s o) (operators_take x l k w _ e) ∙ asked c x s _ _ (go (Operand l ∷ Operators l ∷ k) (with_operator w)) h

-- an expression ends where no operator follows
pub operators_skip : (c : Limits) (r : List Terminal) (l : ℕ) (w : TextCounts) (k : SymbolStack) → is_operator (first r) ≡ false → run_parser c r (Operators l ∷ k) w ≡ run_parser c r k w
operators_skip c [] l w k h = refl
operators_skip c (x ∷ r) l w k h = ap (λ o. run_on c x r o) (operators_leave x l k w _ h)

inside_open : {c : Limits} {n l : ℕ} {w : TextCounts} {s r : List Terminal} {x : Expr} (v : TextCounts) → c s Nesting l ≡ true → IsExpr c n l (at_level l v) w s r x → (k : SymbolStack)
    → run_parser c s (Inside l ∷ k) v ≡ run_parser c s (Operand l ∷ k) (at_level l v)
inside_open {c = c} {l = l} {s = s} v h d k = inside_runs c s l v k h

mutual
  pub operand_runs : {c : Limits} {l : ℕ} {v w : TextCounts} {s r : List Terminal} {x : Expr} → IsExpr c 0 l v w s r x → (k : SymbolStack) → run_parser c s (Operand l ∷ k) v ≡ run_parser c r k w
  operand_runs is.number k = refl
  operand_runs is.variable k = refl
  operand_runs {v = v} (is.parens h d) k = inside_open v h d _ ∙ expr_runs d (Fixed punctuation.RightParen ∷ k)
  operand_runs {v = v} (is.negative g h d) k = rw g (inside_open (with_operator v) h d k ∙ operand_runs d k)
  operand_runs {v = v} (is.negation g h d) k = rw g (inside_open (with_operator v) h d k ∙ operand_runs d k)
  operand_runs {v = v} (is.complement g h d) k = rw g (inside_open (with_operator v) h d k ∙ operand_runs d k)

  pub expr_runs : {c : Limits} {n l : ℕ} {v w : TextCounts} {s r : List Terminal} {x : Expr} → IsExpr c n l v w s r x → (k : SymbolStack) → run_parser c s (Operand l ∷ Operators l ∷ k) v ≡ run_parser c r (Operators l ∷ k) w
  expr_runs is.number k = refl
  expr_runs is.variable k = refl
  expr_runs {l = l} {v = v} (is.parens h d) k = inside_open v h d _ ∙ expr_runs d (Fixed punctuation.RightParen ∷ Operators l ∷ k)
  expr_runs {l = l} {v = v} (is.negative g h d) k = rw g (inside_open (with_operator v) h d _ ∙ operand_runs d (Operators l ∷ k))
  expr_runs {l = l} {v = v} (is.negation g h d) k = rw g (inside_open (with_operator v) h d _ ∙ operand_runs d (Operators l ∷ k))
  expr_runs {l = l} {v = v} (is.complement g h d) k = rw g (inside_open (with_operator v) h d _ ∙ operand_runs d (Operators l ∷ k))
  expr_runs (is.row d t) k = expr_runs d k ∙ chain_runs t k

  pub chain_runs : {c : Limits} {n l : ℕ} {v w : TextCounts} {s r : List Terminal} {x y : Expr} → IsChain c n l v w s r x y → (k : SymbolStack) → run_parser c s (Operators l ∷ k) v ≡ run_parser c r (Operators l ∷ k) w
  chain_runs is.stop k = refl
  chain_runs {c = c} {l = l} {v = v} (is.join {o = o} {p = p} {s = s} e h d t) k = operator_runs c (Sign o p) s l v k (joins_of_row o _ e) h ∙ expr_runs d k ∙ chain_runs t k

pub whole_runs : {c : Limits} {l : ℕ} {w : TextCounts} {s r : List Terminal} {x : Expr} (v : TextCounts) → IsWhole c l v w s r x → (k : SymbolStack)
    → run_parser c s (Expression l ∷ Operators l ∷ k) v ≡ run_parser c r (Operators l ∷ k) w
whole_runs {c = c} {l = l} {s = s} v d k = expression_runs c s l v _ ∙ expr_runs d k

-- what may follow is left aside where it doesn't
pub else_skips : (c : Limits) (r : List Terminal) (l : ℕ) (w : TextCounts) (k : SymbolStack) → is_else (first r) ≡ false → run_parser c r (Else l ∷ k) w ≡ run_parser c r k w
else_skips c [] l w k h = refl
else_skips c (Key k.Else p ∷ r) l w k h = absurd (cc)
else_skips c (_ ∷ r) l w k h = refl

pub pars_skips : (c : Limits) (r : List Terminal) (l n : ℕ) (w : TextCounts) (k : SymbolStack) → is_par (first r) ≡ false → run_parser c r (Pars l n ∷ k) w ≡ run_parser c r k w
pars_skips c [] l n w k h = refl
pars_skips c (Key k.Par p ∷ r) l n w k h = absurd (cc)
pars_skips c (_ ∷ r) l n w k h = refl

pub after_body_skips : (c : Limits) (r : List Terminal) (l d : ℕ) (w : TextCounts) (k : SymbolStack) → is_par (first r) ≡ false → run_parser c r (AfterBody l d ∷ k) w ≡ run_parser c r k (behind_body d w)
after_body_skips c [] l d w k h = refl
after_body_skips c (Key k.Par p ∷ r) l d w k h = absurd (cc)
after_body_skips c (_ ∷ r) l d w k h = refl

abbrev pub is_right_paren : Terminal → Bool
is_right_paren (Sign g.RightParen p) = true
is_right_paren _ = false

abbrev pub is_semicolon : Terminal → Bool
is_semicolon (Sign g.Semicolon p) = true
is_semicolon _ = false

abbrev pub is_next_or_get : Terminal → Bool
is_next_or_get (Key k.Next p) = true
is_next_or_get (Key k.Get p) = true
is_next_or_get _ = false

-- a terminal that doesn't end these symbols begins an expression
pub arguments_skips : (c : Limits) (s : List Terminal) (l : ℕ) (w : TextCounts) (k : SymbolStack) → is_right_paren (first s) ≡ false → run_parser c s (Arguments l ∷ k) w ≡ run_parser c s (Argument l 1 ∷ k) w
arguments_skips c [] l w k h = refl
arguments_skips c (Sign g.RightParen p ∷ s) l w k h = absurd (cc)
arguments_skips c (_ ∷ s) l w k h = refl

pub equal_skips : (c : Limits) (s : List Terminal) (l : ℕ) (w : TextCounts) (k : SymbolStack) → is_next_or_get (first s) ≡ false
    → run_parser c s (AfterEqual l ∷ k) w ≡ run_parser c s (Expression l ∷ Operators l ∷ Fixed punctuation.Semicolon ∷ k) w
equal_skips c [] l w k h = refl
equal_skips c (Key k.Next p ∷ s) l w k h = absurd (cc)
equal_skips c (Key k.Get p ∷ s) l w k h = absurd (cc)
equal_skips c (_ ∷ s) l w k h = refl

pub test_skips : (c : Limits) (s : List Terminal) (l : ℕ) (w : TextCounts) (k : SymbolStack) → is_semicolon (first s) ≡ false
    → run_parser c s (Test l ∷ k) w ≡ run_parser c s (Expression l ∷ Operators l ∷ Fixed punctuation.Semicolon ∷ k) w
test_skips c [] l w k h = refl
test_skips c (Sign g.Semicolon p ∷ s) l w k h = absurd (cc)
test_skips c (_ ∷ s) l w k h = refl

abbrev pub is_right_brace : Terminal → Bool
is_right_brace (Sign g.RightBrace p) = true
is_right_brace _ = false

abbrev pub is_left_brace : Terminal → Bool
is_left_brace (Sign g.LeftBrace p) = true
is_left_brace _ = false

-- a terminal that doesn't end a block begins a statement, and a body without a brace is one
pub block_skips : (c : Limits) (s : List Terminal) (l : ℕ) (w : TextCounts) (k : SymbolStack) → is_right_brace (first s) ≡ false → run_parser c s (Block l ∷ k) w ≡ run_parser c s (Statement l ∷ Block l ∷ k) w
block_skips c [] l w k h = refl
block_skips c (Sign g.RightBrace p ∷ s) l w k h = absurd (cc)
block_skips c (_ ∷ s) l w k h = refl

pub body_skips : (c : Limits) (s : List Terminal) (l : ℕ) (w : TextCounts) (k : SymbolStack) → is_left_brace (first s) ≡ false → run_parser c s (Body l ∷ k) w ≡ run_parser c s (Statement l ∷ k) w
body_skips c [] l w k h = refl
body_skips c (Sign g.LeftBrace p ∷ s) l w k h = absurd (cc)
body_skips c (_ ∷ s) l w k h = refl

-- an argument that may begin is an expression
pub argument_runs : (c : Limits) (s : List Terminal) (l n : ℕ) (w : TextCounts) (k : SymbolStack) → c s (Count many.Arguments) n ≡ true
    → run_parser c s (Argument l n ∷ k) w ≡ run_parser c s (Expression l ∷ Operators l ∷ MoreArguments l n ∷ k) w
argument_runs c [] l n w k h = refl
argument_runs c (x ∷ s) l n w k h = asked c x s _ _ (operand x l (Operators l ∷ MoreArguments l n ∷ k) (new_expression w)) h

-- what begins an expression ends no arguments, and so on
expr_begins : {c : Limits} {n l : ℕ} {v w : TextCounts} {s r : List Terminal} {x : Expr} → IsExpr c n l v w s r x
    → (is_right_paren (first s) ≡ false) × (is_semicolon (first s) ≡ false) × (is_next_or_get (first s) ≡ false)
expr_begins is.number = (refl, refl, refl)
expr_begins is.variable = (refl, refl, refl)
expr_begins (is.parens h d) = (refl, refl, refl)
expr_begins (is.negative g h d) = (refl, refl, refl)
expr_begins (is.negation g h d) = (refl, refl, refl)
expr_begins (is.complement g h d) = (refl, refl, refl)
expr_begins (is.row d t) = expr_begins d

pub arguments_open : {c : Limits} {n l : ℕ} {v w : TextCounts} {s r : List Terminal} {x : Expr} → IsExpr c n l v w s r x → (j : ℕ) (u : TextCounts) (k : SymbolStack)
    → run_parser c s (Arguments j ∷ k) u ≡ run_parser c s (Argument j 1 ∷ k) u
arguments_open {c = c} {s = s} d j u k = arguments_skips c s j u k (expr_begins d).0

pub test_open : {c : Limits} {n l : ℕ} {v w : TextCounts} {s r : List Terminal} {x : Expr} → IsExpr c n l v w s r x → (j : ℕ) (u : TextCounts) (k : SymbolStack)
    → run_parser c s (Test j ∷ k) u ≡ run_parser c s (Expression j ∷ Operators j ∷ Fixed punctuation.Semicolon ∷ k) u
test_open {c = c} {s = s} d j u k = test_skips c s j u k (expr_begins d).1

pub equal_open : {c : Limits} {n l : ℕ} {v w : TextCounts} {s r : List Terminal} {x : Expr} → IsExpr c n l v w s r x → (j : ℕ) (u : TextCounts) (k : SymbolStack)
    → run_parser c s (AfterEqual j ∷ k) u ≡ run_parser c s (Expression j ∷ Operators j ∷ Fixed punctuation.Semicolon ∷ k) u
equal_open {c = c} {s = s} d j u k = equal_skips c s j u k (expr_begins d).2

argument_open : {c : Limits} {l : ℕ} {w : TextCounts} {s r : List Terminal} {x : Expr} (n : ℕ) (v : TextCounts) → c s (Count many.Arguments) n ≡ true → IsWhole c l v w s r x → (k : SymbolStack)
    → run_parser c s (Argument l n ∷ k) v ≡ run_parser c r (Operators l ∷ MoreArguments l n ∷ k) w
argument_open {c = c} {l = l} {s = s} n v h d k = argument_runs c s l n v k h ∙ whole_runs v d (MoreArguments l n ∷ k)

pub more_arguments_runs : {c : Limits} {l n : ℕ} {v w : TextCounts} {s r : List Terminal} {xs : List Expr} → IsMoreArguments c l n v w s r xs → (k : SymbolStack)
    → run_parser c s (Operators l ∷ MoreArguments l n ∷ k) v ≡ run_parser c r k w
more_arguments_runs is.arguments_end k = refl
more_arguments_runs {n = n} {v = v} (is.argument h d t) k = argument_open (suc n) v h d k ∙ more_arguments_runs t k

pub arguments_runs : {c : Limits} {l : ℕ} {v w : TextCounts} {s r : List Terminal} {xs : List Expr} → IsArguments c l v w s r xs → (k : SymbolStack) → run_parser c s (Arguments l ∷ k) v ≡ run_parser c r k w
arguments_runs is.no_arguments k = refl
arguments_runs {l = l} {v = v} (is.arguments h d t) k = arguments_open d l v k ∙ argument_open 1 v h d k ∙ more_arguments_runs t k

-- a value up to its semicolon, and a test
pub equal_runs : {c : Limits} {l : ℕ} {w : TextCounts} {s r : List Terminal} {x : Expr} {p : Place} (v : TextCounts) → IsWhole c l v w s (Sign g.Semicolon p ∷ r) x → (k : SymbolStack)
    → run_parser c s (AfterEqual l ∷ k) v ≡ run_parser c r k w
equal_runs {l = l} v d k = equal_open d l v k ∙ whole_runs v d (Fixed punctuation.Semicolon ∷ k)

pub test_runs : {c : Limits} {l : ℕ} {v w : TextCounts} {s r : List Terminal} {x : Option Expr} → IsTest c l v w s r x → (k : SymbolStack) → run_parser c s (Test l ∷ k) v ≡ run_parser c r k w
test_runs is.no_test k = refl
test_runs {l = l} {v = v} (is.test d) k = test_open d l v k ∙ whole_runs v d (Fixed punctuation.Semicolon ∷ k)
