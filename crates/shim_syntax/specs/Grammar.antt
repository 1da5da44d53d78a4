-- The grammar. `IsX .. s r x` holds if the terminals s are those of an X, whose tree is x, followed by the terminals r.
-- c is the limits, l the level, v the counts before the X, and w the counts after it.
use Rattle.std.specs.Prelude.{ℕ, ℤ, suc, max, ◌≡◌, List, [], ◌∷◌, ◌++◌, Option, Some, None, Bool, true, false}
use Rattle.shim_base.specs.declared.token.Keyword.TheVariants as k
use Rattle.shim_base.specs.declared.token.Sign.{Sign as SignOf}
use Rattle.shim_base.specs.declared.token.Sign.TheVariants as g
use Rattle.shim_base.specs.declared.types.Ty.{Ty}
use Rattle.shim_base.specs.declared.operators.BinOp.{BinOp}
use Rattle.shim_base.specs.declared.operators.BinOp.TheVariants as op
use Rattle.shim_base.specs.declared.operators.UnOp.TheVariants.{Neg, Not, Flip}
use Rattle.shim_base.specs.Tokens.{Place}
use Rattle.shim_syntax.specs.declared.limits.Many.TheVariants.{Functions, Parameters, Arguments, Throws, Locals, Branches, Operators}
use Rattle.shim_syntax.specs.declared.tree.Sort.{Sort as SortOf}
use Rattle.shim_syntax.specs.declared.tree.Sort.TheVariants.{Value}
use Rattle.shim_syntax.specs.declared.tree.Expr.{Expr}
use Rattle.shim_syntax.specs.declared.tree.Expr.TheVariants as e
use Rattle.shim_syntax.specs.declared.tree.Stmt.{Stmt}
use Rattle.shim_syntax.specs.declared.tree.What.TheVariants as st
use Rattle.shim_syntax.specs.declared.tree.Branch.{Branch}
use Rattle.shim_syntax.specs.declared.tree.BranchWhat.TheVariants as br
use Rattle.shim_syntax.specs.declared.tree.Param.{Param}
use Rattle.shim_syntax.specs.declared.tree.Function.{Function}
use Rattle.shim_syntax.specs.declared.tree.Program.{Program}
use Rattle.shim_syntax.specs.Terminals.{Terminal, Name, Number, Sort, Key, Sign, End, first, is_shim, is_two}
use Rattle.shim_syntax.specs.Limits.{Limits, Nesting, Count}

-- what is known and counted as the terminals are read
pub record TextCounts : Type 0 where
  -- the operators of the expression
  pub operators : ℕ
  -- the declarations in the function's text
  pub locals : ℕ
  -- the level of the deepest thing so far in the innermost body that stands in braces, of an `if`, an `else`, a `while` or a `for`
  pub deepest : ℕ
  -- whether the text is one of version 2
  pub two : Bool

-- the counts with which the reading begins: each is 0, and the version is 1
abbrev pub nothing_read : TextCounts
nothing_read = record { operators = 0; locals = 0; deepest = 0; two = false }

-- the same counts, in a text of version 2
abbrev pub in_version_2 : TextCounts → TextCounts
in_version_2 w = record w { two = true }

-- a function begins, and none of its declarations is counted yet
abbrev pub new_function : TextCounts → TextCounts
new_function w = record w { locals = 0 }

-- one declaration more
abbrev pub with_local : TextCounts → TextCounts
with_local w = record w { locals = suc w.locals }

-- an expression begins, and none of its operators is counted yet
abbrev pub new_expression : TextCounts → TextCounts
new_expression w = record w { operators = 0 }

-- one operator more
abbrev pub with_operator : TextCounts → TextCounts
with_operator w = record w { operators = suc w.operators }

-- a thing of that level begins
abbrev pub at_level : ℕ → TextCounts → TextCounts
at_level l w = record w { deepest = max w.deepest l }

-- a body in braces begins, and no thing in it has been read yet
abbrev pub new_body : TextCounts → TextCounts
new_body w = record w { deepest = 0 }

-- after a body: the deepest level is that in the body or d, whichever is deeper; d is the deepest level before the body
abbrev pub behind_body : ℕ → TextCounts → TextCounts
behind_body d w = record w { deepest = max d w.deepest }

-- The deepest level of a body of the level l whose block turns out to be the first branch of a fork: the fork has the level l, and all in the block stands one level deeper than it was read.
abbrev pub as_branch : ℕ → TextCounts → ℕ
as_branch l w = max l (suc w.deepest)

-- the row of an operator with two operands, counted from the one that binds tightest; 0 for any other sign
abbrev pub row_of_sign : SignOf → ℕ
row_of_sign g.Star = 1
row_of_sign g.Slash = 1
row_of_sign g.Percent = 1
row_of_sign g.Plus = 2
row_of_sign g.Minus = 2
row_of_sign g.Shl = 3
row_of_sign g.Shr = 3
row_of_sign g.Less = 4
row_of_sign g.Le = 4
row_of_sign g.Greater = 4
row_of_sign g.Ge = 4
row_of_sign g.EqEq = 5
row_of_sign g.NotEq = 5
row_of_sign g.Amp = 6
row_of_sign g.Caret = 7
row_of_sign g.Bar = 8
row_of_sign g.AndAnd = 9
row_of_sign g.OrOr = 10
row_of_sign _ = 0

-- the row of a terminal's sign, and 0 for a terminal that is no sign
abbrev pub operator_row : Terminal → ℕ
operator_row (Sign sign p) = row_of_sign sign
operator_row _ = 0

-- the operator with two operands of this sign, which has to be the sign of one; any sign that no line names gives `Mul`
abbrev pub operator_of_sign : SignOf → BinOp
operator_of_sign g.Slash = op.Div
operator_of_sign g.Percent = op.Rem
operator_of_sign g.Plus = op.Add
operator_of_sign g.Minus = op.Sub
operator_of_sign g.Shl = op.Shl
operator_of_sign g.Shr = op.Shr
operator_of_sign g.Less = op.Lt
operator_of_sign g.Le = op.Le
operator_of_sign g.Greater = op.Gt
operator_of_sign g.Ge = op.Ge
operator_of_sign g.EqEq = op.Eq
operator_of_sign g.NotEq = op.Ne
operator_of_sign g.Amp = op.BitAnd
operator_of_sign g.Caret = op.BitXor
operator_of_sign g.Bar = op.BitOr
operator_of_sign g.AndAnd = op.And
operator_of_sign g.OrOr = op.Or
operator_of_sign _ = op.Mul

abbrev pub is_else : Terminal → Bool
is_else (Key k.Else p) = true
is_else _ = false

abbrev pub is_par : Terminal → Bool
is_par (Key k.Par p) = true
is_par _ = false

-- a stream, which needs no `&` to be by reference
abbrev pub is_stream : SortOf → Bool
is_stream (Value ty) = false
is_stream _ = true

mutual
  -- An expression of the row n or a tighter one. The row 0 has the operands: a number, a name, parentheses, and an operator with one operand. The inside of parentheses and that operand are things one level deeper.
  pub data IsExpr (c : Limits) : ℕ → ℕ → TextCounts → TextCounts → List Terminal → List Terminal → Expr → Type 0 where
    number : {l : ℕ} {v : TextCounts} {n : ℤ} {p : Place} {r : List Terminal} → IsExpr c 0 l v v (Number n p ∷ r) r (e.Number n)
    variable : {l : ℕ} {v : TextCounts} {x : List ℕ} {p : Place} {r : List Terminal} → IsExpr c 0 l v v (Name x p ∷ r) r (e.Var x)
    parens : {l : ℕ} {v w : TextCounts} {p q : Place} {s r : List Terminal} {x : Expr} → c s Nesting (suc l) ≡ true
        → IsExpr c 10 (suc l) (at_level (suc l) v) w s (Sign g.RightParen q ∷ r) x → IsExpr c 0 l v w (Sign g.LeftParen p ∷ s) r x
    negative : {l : ℕ} {v w : TextCounts} {p : Place} {s r : List Terminal} {x : Expr} → c (Sign g.Minus p ∷ s) (Count Operators) (suc v.operators) ≡ true → c s Nesting (suc l) ≡ true
        → IsExpr c 0 (suc l) (at_level (suc l) (with_operator v)) w s r x → IsExpr c 0 l v w (Sign g.Minus p ∷ s) r (e.Unary Neg x)
    negation : {l : ℕ} {v w : TextCounts} {p : Place} {s r : List Terminal} {x : Expr} → c (Sign g.Bang p ∷ s) (Count Operators) (suc v.operators) ≡ true → c s Nesting (suc l) ≡ true
        → IsExpr c 0 (suc l) (at_level (suc l) (with_operator v)) w s r x → IsExpr c 0 l v w (Sign g.Bang p ∷ s) r (e.Unary Not x)
    complement : {l : ℕ} {v w : TextCounts} {p : Place} {s r : List Terminal} {x : Expr} → c (Sign g.Tilde p ∷ s) (Count Operators) (suc v.operators) ≡ true → c s Nesting (suc l) ≡ true
        → IsExpr c 0 (suc l) (at_level (suc l) (with_operator v)) w s r x → IsExpr c 0 l v w (Sign g.Tilde p ∷ s) r (e.Unary Flip x)
    row : {n l : ℕ} {v u w : TextCounts} {s m r : List Terminal} {x y : Expr} → IsExpr c n l v u s m x → IsChain c n l u w m r x y → IsExpr c (suc n) l v w s r y

  -- The rest of an expression of the row suc n after its first operand x. Its tree y joins x with the further operands, from the left.
  pub data IsChain (c : Limits) : ℕ → ℕ → TextCounts → TextCounts → List Terminal → List Terminal → Expr → Expr → Type 0 where
    stop : {n l : ℕ} {v : TextCounts} {r : List Terminal} {x : Expr} → IsChain c n l v v r r x x
    join : {n l : ℕ} {v u w : TextCounts} {o : SignOf} {p : Place} {s m r : List Terminal} {x y z : Expr} → row_of_sign o ≡ suc n → c (Sign o p ∷ s) (Count Operators) (suc v.operators) ≡ true
        → IsExpr c n l (with_operator v) u s m y → IsChain c n l u w m r (e.Binary (operator_of_sign o) x y) z → IsChain c n l v w (Sign o p ∷ s) r x z

-- a whole expression, whose operators are counted from the first on
abbrev pub IsWhole : Limits → ℕ → TextCounts → TextCounts → List Terminal → List Terminal → Expr → Type 0
IsWhole c l v w s r x = IsExpr c 10 l (new_expression v) w s r x

mutual
  -- the arguments of a call after its left parenthesis, with the right one
  pub data IsArguments (c : Limits) : ℕ → TextCounts → TextCounts → List Terminal → List Terminal → List Expr → Type 0 where
    no_arguments : {l : ℕ} {v : TextCounts} {p : Place} {r : List Terminal} → IsArguments c l v v (Sign g.RightParen p ∷ r) r []
    arguments : {l : ℕ} {v u w : TextCounts} {s m r : List Terminal} {x : Expr} {xs : List Expr} → c s (Count Arguments) 1 ≡ true → IsWhole c l v u s m x → IsMoreArguments c l 1 u w m r xs
        → IsArguments c l v w s r (x ∷ xs)

  -- the rest of a call's arguments after n of them, with the right parenthesis
  pub data IsMoreArguments (c : Limits) : ℕ → ℕ → TextCounts → TextCounts → List Terminal → List Terminal → List Expr → Type 0 where
    arguments_end : {l n : ℕ} {v : TextCounts} {p : Place} {r : List Terminal} → IsMoreArguments c l n v v (Sign g.RightParen p ∷ r) r []
    argument : {l n : ℕ} {v u w : TextCounts} {p : Place} {s m r : List Terminal} {x : Expr} {xs : List Expr} → c s (Count Arguments) (suc n) ≡ true → IsWhole c l v u s m x
        → IsMoreArguments c l (suc n) u w m r xs → IsMoreArguments c l n v w (Sign g.Comma p ∷ s) r (x ∷ xs)

-- a declared name, with its first value where it has one
pub data IsDeclared (c : Limits) : ℕ → TextCounts → TextCounts → List Terminal → List Terminal → List ℕ → Option Expr → Type 0 where
  without_value : {l : ℕ} {v : TextCounts} {x : List ℕ} {p : Place} {r : List Terminal} → c (Name x p ∷ r) (Count Locals) (suc v.locals) ≡ true
      → IsDeclared c l v (with_local v) (Name x p ∷ r) r x None
  with_value : {l : ℕ} {v w : TextCounts} {x : List ℕ} {p q : Place} {s r : List Terminal} {value : Expr} → c (Name x p ∷ Sign g.Equal q ∷ s) (Count Locals) (suc v.locals) ≡ true
      → IsWhole c l (with_local v) w s r value → IsDeclared c l v w (Name x p ∷ Sign g.Equal q ∷ s) r x (Some value)

-- the declared names after a type that stands on that line, with the semicolon
pub data IsDeclarations (c : Limits) : ℕ → Ty → ℕ → TextCounts → TextCounts → List Terminal → List Terminal → List Stmt → Type 0 where
  last_declared : {l line : ℕ} {ty : Ty} {v w : TextCounts} {p : Place} {s r : List Terminal} {x : List ℕ} {value : Option Expr} → IsDeclared c l v w s (Sign g.Semicolon p ∷ r) x value
      → IsDeclarations c l ty line v w s r (record { line = line; what = st.Declare ty x value } ∷ [])
  declared : {l line : ℕ} {ty : Ty} {v u w : TextCounts} {p : Place} {s m r : List Terminal} {x : List ℕ} {value : Option Expr} {xs : List Stmt} → IsDeclared c l v u s (Sign g.Comma p ∷ m) x value
      → IsDeclarations c l ty line u w m r xs → IsDeclarations c l ty line v w s r (record { line = line; what = st.Declare ty x value } ∷ xs)

-- the first statement of a `for`, with its semicolon
pub data IsFirst (c : Limits) : ℕ → TextCounts → TextCounts → List Terminal → List Terminal → List Stmt → Type 0 where
  no_first : {l : ℕ} {v : TextCounts} {p : Place} {r : List Terminal} → IsFirst c l v v (Sign g.Semicolon p ∷ r) r []
  first_declare : {l : ℕ} {ty : Ty} {v w : TextCounts} {p q : Place} {s r : List Terminal} {x : List ℕ} {value : Option Expr} → c (Sort (Value ty) p ∷ s) Nesting l ≡ true
      → IsDeclared c l (at_level l v) w s (Sign g.Semicolon q ∷ r) x value → IsFirst c l v w (Sort (Value ty) p ∷ s) r (record { line = p.line; what = st.Declare ty x value } ∷ [])
  first_assign : {l : ℕ} {v w : TextCounts} {x : List ℕ} {p q o : Place} {s r : List Terminal} {value : Expr} → c (Name x p ∷ Sign g.Equal q ∷ s) Nesting l ≡ true
      → IsWhole c l (at_level l v) w s (Sign g.Semicolon o ∷ r) value → IsFirst c l v w (Name x p ∷ Sign g.Equal q ∷ s) r (record { line = p.line; what = st.Assign x value } ∷ [])

-- the test of a `for`, with its semicolon
pub data IsTest (c : Limits) : ℕ → TextCounts → TextCounts → List Terminal → List Terminal → Option Expr → Type 0 where
  no_test : {l : ℕ} {v : TextCounts} {p : Place} {r : List Terminal} → IsTest c l v v (Sign g.Semicolon p ∷ r) r None
  test : {l : ℕ} {v w : TextCounts} {p : Place} {s r : List Terminal} {x : Expr} → IsWhole c l v w s (Sign g.Semicolon p ∷ r) x → IsTest c l v w s r (Some x)

-- the step of a `for`, with the right parenthesis
pub data IsStep (c : Limits) : ℕ → TextCounts → TextCounts → List Terminal → List Terminal → List Stmt → Type 0 where
  no_step : {l : ℕ} {v : TextCounts} {p : Place} {r : List Terminal} → IsStep c l v v (Sign g.RightParen p ∷ r) r []
  step : {l : ℕ} {v w : TextCounts} {x : List ℕ} {p q o : Place} {s r : List Terminal} {value : Expr} → c (Name x p ∷ Sign g.Equal q ∷ s) Nesting l ≡ true
      → IsWhole c l (at_level l v) w s (Sign g.RightParen o ∷ r) value → IsStep c l v w (Name x p ∷ Sign g.Equal q ∷ s) r (record { line = p.line; what = st.Assign x value } ∷ [])

-- What follows the exception of a `throw`, with the semicolon. Version 2 alone has a number there.
pub data IsThrowRest (c : Limits) : ℕ → TextCounts → TextCounts → List Terminal → List Terminal → Option Expr → Type 0 where
  no_number : {l : ℕ} {v : TextCounts} {p : Place} {r : List Terminal} → IsThrowRest c l v v (Sign g.Semicolon p ∷ r) r None
  thrown_number : {l : ℕ} {v w : TextCounts} {p q o : Place} {s r : List Terminal} {x : Expr} → v.two ≡ true → IsWhole c l v w s (Sign g.RightParen q ∷ Sign g.Semicolon o ∷ r) x
      → IsThrowRest c l v w (Sign g.LeftParen p ∷ s) r (Some x)

-- What follows the exception of a `catch`, with the handler's left brace. Version 2 alone has a variable there, which counts as a declaration.
pub data IsCatchRest (c : Limits) : TextCounts → TextCounts → List Terminal → List Terminal → Option (List ℕ) → Type 0 where
  no_variable : {v : TextCounts} {p q : Place} {r : List Terminal} → IsCatchRest c v v (Sign g.RightParen p ∷ Sign g.LeftBrace q ∷ r) r None
  catch_variable : {v : TextCounts} {x : List ℕ} {p q o : Place} {r : List Terminal} → v.two ≡ true
      → c (Name x p ∷ Sign g.RightParen q ∷ Sign g.LeftBrace o ∷ r) (Count Locals) (suc v.locals) ≡ true
      → IsCatchRest c v (with_local v) (Name x p ∷ Sign g.RightParen q ∷ Sign g.LeftBrace o ∷ r) r (Some x)

mutual
  -- a block after its left brace, with the right one; its statements have the level l
  pub data IsBlock (c : Limits) : ℕ → TextCounts → TextCounts → List Terminal → List Terminal → List Stmt → Type 0 where
    block_end : {l : ℕ} {v : TextCounts} {p : Place} {r : List Terminal} → IsBlock c l v v (Sign g.RightBrace p ∷ r) r []
    stmt : {l : ℕ} {v u w : TextCounts} {s m r : List Terminal} {xs ys : List Stmt} → c s Nesting l ≡ true → IsStmt c l (at_level l v) u s m xs → IsBlock c l u w m r ys → IsBlock c l v w s r (xs ++ ys)

  -- a statement of the level l in a block
  pub data IsStmt (c : Limits) : ℕ → TextCounts → TextCounts → List Terminal → List Terminal → List Stmt → Type 0 where
    block : {l : ℕ} {v w : TextCounts} {p : Place} {s r : List Terminal} {xs : List Stmt} → IsBlock c (suc l) v w s r xs → is_par (first r) ≡ false
        → IsStmt c l v w (Sign g.LeftBrace p ∷ s) r (record { line = p.line; what = st.Block xs } ∷ [])
    -- a block that `par` follows is the first branch of a fork
    block_fork : {l : ℕ} {v u w : TextCounts} {p q : Place} {s m r : List Terminal} {xs : List Stmt} {bs : List Branch} → IsBlock c (suc l) v u s (Key k.Par q ∷ m) xs → IsBranches c l 1 u w m r bs
        → IsStmt c l v w (Sign g.LeftBrace p ∷ s) r (record { line = p.line; what = st.Par (record { line = p.line; what = br.Block xs } ∷ bs) } ∷ [])
    plain : {l : ℕ} {v w : TextCounts} {s r : List Terminal} {xs : List Stmt} → IsPlain c l v w s r xs → IsStmt c l v w s r xs

  -- The body of an `if`, an `else`, a `while` or a `for`, of the level l. A block gives its statements, and these have the level l; no other thing of that level begins with its brace.
  pub data IsBody (c : Limits) : ℕ → TextCounts → TextCounts → List Terminal → List Terminal → List Stmt → Type 0 where
    body_block : {l : ℕ} {v w : TextCounts} {p : Place} {s r : List Terminal} {xs : List Stmt} → IsBlock c l (new_body v) w s r xs → is_par (first r) ≡ false
        → IsBody c l v (behind_body v.deepest w) (Sign g.LeftBrace p ∷ s) r xs
    -- only `par` shows that the block was the first branch of a fork
    body_fork : {l : ℕ} {v u w : TextCounts} {p q : Place} {s m r : List Terminal} {xs : List Stmt} {bs : List Branch} → IsBlock c l (new_body v) u s (Key k.Par q ∷ m) xs
        → c (Key k.Par q ∷ m) Nesting (as_branch l u) ≡ true → IsBranches c l 1 (at_level (as_branch l u) (behind_body v.deepest u)) w m r bs
        → IsBody c l v w (Sign g.LeftBrace p ∷ s) r (record { line = p.line; what = st.Par (record { line = p.line; what = br.Block xs } ∷ bs) } ∷ [])
    body_plain : {l : ℕ} {v w : TextCounts} {s r : List Terminal} {xs : List Stmt} → c s Nesting l ≡ true → IsPlain c l (at_level l v) w s r xs → IsBody c l v w s r xs

  -- a statement of the level l that begins with no brace
  pub data IsPlain (c : Limits) : ℕ → TextCounts → TextCounts → List Terminal → List Terminal → List Stmt → Type 0 where
    empty : {l : ℕ} {v : TextCounts} {p : Place} {r : List Terminal} → IsPlain c l v v (Sign g.Semicolon p ∷ r) r []
    declare : {l : ℕ} {v w : TextCounts} {ty : Ty} {p : Place} {s r : List Terminal} {xs : List Stmt} → IsDeclarations c l ty p.line v w s r xs → IsPlain c l v w (Sort (Value ty) p ∷ s) r xs
    assign : {l : ℕ} {v w : TextCounts} {x : List ℕ} {p q o : Place} {s r : List Terminal} {value : Expr} → IsWhole c l v w s (Sign g.Semicolon o ∷ r) value
        → IsPlain c l v w (Name x p ∷ Sign g.Equal q ∷ s) r (record { line = p.line; what = st.Assign x value } ∷ [])
    assign_next : {l : ℕ} {v : TextCounts} {x y : List ℕ} {p q o a b : Place} {r : List Terminal}
        → IsPlain c l v v (Name x p ∷ Sign g.Equal q ∷ Key k.Next o ∷ Name y a ∷ Sign g.Semicolon b ∷ r) r (record { line = p.line; what = st.AssignNext x y } ∷ [])
    get : {l : ℕ} {v : TextCounts} {x y : List ℕ} {p q o a b : Place} {r : List Terminal}
        → IsPlain c l v v (Name x p ∷ Sign g.Equal q ∷ Key k.Get o ∷ Name y a ∷ Sign g.Semicolon b ∷ r) r (record { line = p.line; what = st.Get x y } ∷ [])
    next : {l : ℕ} {v : TextCounts} {x : List ℕ} {p q o : Place} {r : List Terminal}
        → IsPlain c l v v (Key k.Next p ∷ Name x q ∷ Sign g.Semicolon o ∷ r) r (record { line = p.line; what = st.Next x } ∷ [])
    next_assign : {l : ℕ} {v w : TextCounts} {x : List ℕ} {p q o a : Place} {s r : List Terminal} {value : Expr} → IsWhole c l v w s (Sign g.Semicolon a ∷ r) value
        → IsPlain c l v w (Key k.Next p ∷ Name x q ∷ Sign g.Equal o ∷ s) r (record { line = p.line; what = st.NextAssign x value } ∷ [])
    put : {l : ℕ} {v w : TextCounts} {x : List ℕ} {p q o a : Place} {s r : List Terminal} {value : Expr} → IsWhole c l v w s (Sign g.Semicolon a ∷ r) value
        → IsPlain c l v w (Key k.Put p ∷ Name x q ∷ Sign g.Comma o ∷ s) r (record { line = p.line; what = st.Put x value } ∷ [])
    -- no `else` follows: one that did would be this statement's
    if_alone : {l : ℕ} {v u w : TextCounts} {p q o : Place} {s m r : List Terminal} {x : Expr} {xs : List Stmt} → IsWhole c l v u s (Sign g.RightParen o ∷ m) x → IsBody c (suc l) u w m r xs
        → is_else (first r) ≡ false → IsPlain c l v w (Key k.If p ∷ Sign g.LeftParen q ∷ s) r (record { line = p.line; what = st.If x xs [] } ∷ [])
    if_else : {l : ℕ} {v u t w : TextCounts} {p q o a : Place} {s m i r : List Terminal} {x : Expr} {xs ys : List Stmt} → IsWhole c l v u s (Sign g.RightParen o ∷ m) x
        → IsBody c (suc l) u t m (Key k.Else a ∷ i) xs → IsBody c (suc l) t w i r ys
        → IsPlain c l v w (Key k.If p ∷ Sign g.LeftParen q ∷ s) r (record { line = p.line; what = st.If x xs ys } ∷ [])
    while : {l : ℕ} {v u w : TextCounts} {p q o : Place} {s m r : List Terminal} {x : Expr} {xs : List Stmt} → IsWhole c l v u s (Sign g.RightParen o ∷ m) x → IsBody c (suc l) u w m r xs
        → IsPlain c l v w (Key k.While p ∷ Sign g.LeftParen q ∷ s) r (record { line = p.line; what = st.While x xs } ∷ [])
    -- the first statement, the step and the body are one level deeper than the `for`; the test has the level of the `for`
    for_loop : {l : ℕ} {v u t y w : TextCounts} {p q : Place} {s m i j r : List Terminal} {xs ys zs : List Stmt} {x : Option Expr} → IsFirst c (suc l) v u s m xs → IsTest c l u t m i x
        → IsStep c (suc l) t y i j ys → IsBody c (suc l) y w j r zs → IsPlain c l v w (Key k.For p ∷ Sign g.LeftParen q ∷ s) r (record { line = p.line; what = st.For xs x ys zs } ∷ [])
    call : {l : ℕ} {v w : TextCounts} {f : List ℕ} {p q o : Place} {s r : List Terminal} {xs : List Expr} → IsArguments c l v w s (Sign g.Semicolon o ∷ r) xs → is_par (first r) ≡ false
        → IsPlain c l v w (Name f p ∷ Sign g.LeftParen q ∷ s) r (record { line = p.line; what = st.Call (record { function = f; args = xs }) } ∷ [])
    -- a call that `par` follows is the first branch of a fork
    call_fork : {l : ℕ} {v u w : TextCounts} {f : List ℕ} {p q o a : Place} {s m r : List Terminal} {xs : List Expr} {bs : List Branch}
        → IsArguments c l v u s (Sign g.Semicolon o ∷ Key k.Par a ∷ m) xs → IsBranches c l 1 u w m r bs
        → IsPlain c l v w (Name f p ∷ Sign g.LeftParen q ∷ s) r
        (record { line = p.line; what = st.Par (record { line = p.line; what = br.Call (record { function = f; args = xs }) } ∷ bs) } ∷ [])
    try : {l : ℕ} {v u t w : TextCounts} {x : List ℕ} {y : Option (List ℕ)} {p q o a b : Place} {s i m r : List Terminal} {xs ys : List Stmt}
        → IsBlock c (suc l) v u s (Key k.Catch o ∷ Sign g.LeftParen a ∷ Name x b ∷ i) xs → IsCatchRest c u t i m y → IsBlock c (suc l) t w m r ys
        → IsPlain c l v w (Key k.Try p ∷ Sign g.LeftBrace q ∷ s) r (record { line = p.line; what = st.Try xs x y ys } ∷ [])
    throw : {l : ℕ} {v w : TextCounts} {x : List ℕ} {p q : Place} {s r : List Terminal} {value : Option Expr} → IsThrowRest c l v w s r value
        → IsPlain c l v w (Key k.Throw p ∷ Name x q ∷ s) r (record { line = p.line; what = st.Throw x value } ∷ [])

  -- The branches of a fork of the level l that follow n of them. The first stands after its `par`, and the others have their `par`.
  pub data IsBranches (c : Limits) : ℕ → ℕ → TextCounts → TextCounts → List Terminal → List Terminal → List Branch → Type 0 where
    last_branch : {l n : ℕ} {v w : TextCounts} {s r : List Terminal} {b : Branch} → c s (Count Branches) (suc n) ≡ true → IsBranch c l v w s r b → is_par (first r) ≡ false
        → IsBranches c l n v w s r (b ∷ [])
    branch : {l n : ℕ} {v u w : TextCounts} {p : Place} {s m r : List Terminal} {b : Branch} {bs : List Branch} → c s (Count Branches) (suc n) ≡ true → IsBranch c l v u s (Key k.Par p ∷ m) b
        → IsBranches c l (suc n) u w m r bs → IsBranches c l n v w s r (b ∷ bs)

  -- A branch of a fork of the level l. The statements of a block branch are one level deeper; a call has the level of the fork.
  pub data IsBranch (c : Limits) : ℕ → TextCounts → TextCounts → List Terminal → List Terminal → Branch → Type 0 where
    block_branch : {l : ℕ} {v w : TextCounts} {p : Place} {s r : List Terminal} {xs : List Stmt} → IsBlock c (suc l) v w s r xs
        → IsBranch c l v w (Sign g.LeftBrace p ∷ s) r (record { line = p.line; what = br.Block xs })
    call_branch : {l : ℕ} {v w : TextCounts} {f : List ℕ} {p q o : Place} {s r : List Terminal} {xs : List Expr} → IsArguments c l v w s (Sign g.Semicolon o ∷ r) xs
        → IsBranch c l v w (Name f p ∷ Sign g.LeftParen q ∷ s) r (record { line = p.line; what = br.Call (record { function = f; args = xs }) })

-- A parameter: its type or stream, an `&` where it has one, and its name. Without `&` only a stream is by reference.
pub data IsParam : List Terminal → List Terminal → Param → Type 0 where
  param : {sort : SortOf} {x : List ℕ} {p q : Place} {r : List Terminal} → IsParam (Sort sort p ∷ Name x q ∷ r) r (record { sort = sort; by_ref = is_stream sort; name = x })
  reference : {sort : SortOf} {x : List ℕ} {p q o : Place} {r : List Terminal} → IsParam (Sort sort p ∷ Sign g.Amp q ∷ Name x o ∷ r) r (record { sort = sort; by_ref = true; name = x })

mutual
  -- the parameters after the left parenthesis, with the right one
  pub data IsParams (c : Limits) : List Terminal → List Terminal → List Param → Type 0 where
    no_params : {p : Place} {r : List Terminal} → IsParams c (Sign g.RightParen p ∷ r) r []
    void_params : {p q : Place} {r : List Terminal} → IsParams c (Key k.Void p ∷ Sign g.RightParen q ∷ r) r []
    params : {s m r : List Terminal} {x : Param} {xs : List Param} → c s (Count Parameters) 1 ≡ true → IsParam s m x → IsMoreParams c 1 m r xs → IsParams c s r (x ∷ xs)

  -- the rest of the parameters after n of them, with the right parenthesis
  pub data IsMoreParams (c : Limits) : ℕ → List Terminal → List Terminal → List Param → Type 0 where
    params_end : {n : ℕ} {p : Place} {r : List Terminal} → IsMoreParams c n (Sign g.RightParen p ∷ r) r []
    another_param : {n : ℕ} {p : Place} {s m r : List Terminal} {x : Param} {xs : List Param} → c s (Count Parameters) (suc n) ≡ true → IsParam s m x → IsMoreParams c (suc n) m r xs
        → IsMoreParams c n (Sign g.Comma p ∷ s) r (x ∷ xs)

-- the names of a `throws` that follow n of them, up to the body's left brace and with it
pub data IsMoreThrows (c : Limits) : ℕ → List Terminal → List Terminal → List (List ℕ) → Type 0 where
  throws_end : {n : ℕ} {p : Place} {r : List Terminal} → IsMoreThrows c n (Sign g.LeftBrace p ∷ r) r []
  another_throws : {n : ℕ} {x : List ℕ} {p q : Place} {s r : List Terminal} {xs : List (List ℕ)} → c (Name x q ∷ s) (Count Throws) (suc n) ≡ true → IsMoreThrows c (suc n) s r xs
      → IsMoreThrows c n (Sign g.Comma p ∷ Name x q ∷ s) r (x ∷ xs)

-- what stands between the parameters and the body, with the body's left brace
pub data IsThrows (c : Limits) : List Terminal → List Terminal → List (List ℕ) → Type 0 where
  no_throws : {p : Place} {r : List Terminal} → IsThrows c (Sign g.LeftBrace p ∷ r) r []
  throws : {x : List ℕ} {p q : Place} {s r : List Terminal} {xs : List (List ℕ)} → c (Name x q ∷ s) (Count Throws) 1 ≡ true → IsMoreThrows c 1 s r xs
      → IsThrows c (Key k.Throws p ∷ Name x q ∷ s) r (x ∷ xs)

-- a function; the statements of its body have the level 1
pub data IsFunction (c : Limits) : TextCounts → TextCounts → List Terminal → List Terminal → Function → Type 0 where
  function : {v w : TextCounts} {f : List ℕ} {p q o : Place} {s m i r : List Terminal} {xs : List Param} {ts : List (List ℕ)} {ys : List Stmt} → IsParams c s m xs → IsThrows c m i ts
      → IsBlock c 1 (new_function v) w i r ys
      → IsFunction c v w (Key k.Void p ∷ Name f q ∷ Sign g.LeftParen o ∷ s) r (record { line = p.line; name = f; params = xs; throws = ts; body = ys })

-- the functions that follow n of them, up to the end of the text and with it
pub data IsFunctions (c : Limits) : ℕ → TextCounts → List Terminal → List Terminal → List Function → Type 0 where
  program_end : {n : ℕ} {v : TextCounts} {p : Place} {r : List Terminal} → IsFunctions c n v (End p ∷ r) r []
  another_function : {n : ℕ} {v w : TextCounts} {s m r : List Terminal} {f : Function} {fs : List Function} → c s (Count Functions) (suc n) ≡ true → IsFunction c v w s m f
      → IsFunctions c (suc n) w m r fs → IsFunctions c n v s r (f ∷ fs)

-- A program, up to the end of the text and with it. A program of version 2 begins with a header.
pub data IsProgram (c : Limits) : TextCounts → List Terminal → List Terminal → Program → Type 0 where
  version_1 : {v : TextCounts} {s r : List Terminal} {fs : List Function} → IsFunctions c 0 v s r fs → IsProgram c v s r (record { version = 1; functions = fs })
  version_2 : {v : TextCounts} {x y : Terminal} {p : Place} {s r : List Terminal} {fs : List Function} → is_shim x ≡ true → is_two y ≡ true → IsFunctions c 0 (in_version_2 v) s r fs
      → IsProgram c v (x ∷ y ∷ Sign g.Semicolon p ∷ s) r (record { version = 2; functions = fs })

-- the terminals, with the end of the text, derive the program
abbrev pub Derives : Limits → List Terminal → Program → Type 0
Derives c ts p = IsProgram c nothing_read ts [] p
