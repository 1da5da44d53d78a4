-- What may follow: the symbols that the rest of a text still has to give, the next one first, and what a terminal does to them.
-- What a terminal asks of the limits is kept apart from whether the limits allow it.
use Rattle.std.specs.Prelude.{ℕ, suc, List, [], ◌∷◌, Option, Some, None, Bool, true, false, if◌then◌else◌}
use Rattle.shim_base.specs.declared.token.Keyword.TheVariants as k
use Rattle.shim_base.specs.declared.token.Sign.{Sign as SignOf}
use Rattle.shim_base.specs.declared.token.Sign.TheVariants as g
use Rattle.shim_syntax.specs.declared.limits.Many.TheVariants as m
use Rattle.shim_syntax.specs.declared.tree.Sort.TheVariants.{Value}
use Rattle.shim_syntax.specs.Terminals.{Terminal, Name, Number, Sort, Key, Sign, End, is_shim, is_two}
use Rattle.shim_syntax.specs.Limits.{Limit, Nesting, Count, Limits}
use Rattle.shim_syntax.specs.Grammar.{TextCounts, in_version_2, new_function, with_local, new_expression, with_operator, at_level, new_body, behind_body, as_branch}
use Rattle.shim_grammar.specs.declared.punctuation.Punctuation.{Punctuation}
use Rattle.shim_grammar.specs.declared.punctuation.Punctuation.TheVariants as punctuation

-- what is yet to be read: one terminal, or a part of the grammar, which may be empty
pub data Symbol : Type 0 where
  Fixed : Punctuation → Symbol
  Word : Symbol
  -- `Operand` is an operand, `Inside` one that begins a thing of its level, and `Expression` the first one of an expression. `Operators` is what may follow an operand: operators with two operands, each with its second operand, or nothing.
  Operand Inside Expression Operators : ℕ → Symbol
  -- after the left parenthesis of a call; after so many arguments; the argument of that number; the first number of each is the level
  Arguments : ℕ → Symbol
  MoreArguments Argument : ℕ → ℕ → Symbol
  -- after a type, or after a comma between declared names; after a declared name; after the value of a declared name
  Declarations AfterDeclared MoreDeclarations : ℕ → Symbol
  -- the one declared name of a `for`; after that name
  Declaration AfterDeclaration : ℕ → Symbol
  Statement Body Block AfterWord AfterEqual AfterNext First Test Step Else : ℕ → Symbol
  -- after the exception of a `throw`; after the exception of a `catch`, up to the left brace of the handler and with it
  ThrowRest : ℕ → Symbol
  CatchRest : Symbol
  -- after the block of a body; the first number is the level of the body, the second the deepest level outside of it
  AfterBody : ℕ → ℕ → Symbol
  -- after so many branches; the branch of that number; the first number of both is the level of the fork
  Pars Branch : ℕ → ℕ → Symbol
  Parameters AfterSort Throws : Symbol
  -- a whole program; the number of its version
  Source Version : Symbol
  MoreParameters Parameter Thrown MoreThrows Functions : ℕ → Symbol

-- the symbols that are yet to be read, the next one first
abbrev pub SymbolStack : Type 0
SymbolStack = List Symbol

-- a limit, and the level or number that the limit is asked to allow
pub record Ask : Type 0 where
  pub limit : Limit
  pub number : ℕ

-- what a terminal asks of the limits, the symbols that are to be read after it, and the counts after it
pub record Want : Type 0 where
  pub asks : List Ask
  pub stack : SymbolStack
  pub counts : TextCounts

-- the want of a terminal that asks nothing of the limits: these symbols and these counts
abbrev pub go : SymbolStack → TextCounts → Option Want
go k w = Some (record { asks = []; stack = k; counts = w })

-- the want with one limit more, which is asked for the number first; `None` remains `None`
abbrev pub ask : Limit → ℕ → Option Want → Option Want
ask limit n None = None
ask limit n (Some w) = Some (record { asks = record { limit = limit; number = n } ∷ w.asks; stack = w.stack; counts = w.counts })

-- What a terminal wants where that punctuation must be. Here and below, l is the level, k the symbols that follow, and w the counts. `None` refuses the terminal.
abbrev pub fixed : Punctuation → Terminal → SymbolStack → TextCounts → Option Want
fixed punctuation.LeftParen (Sign g.LeftParen p) k w = go k w
fixed punctuation.RightParen (Sign g.RightParen p) k w = go k w
fixed punctuation.LeftBrace (Sign g.LeftBrace p) k w = go k w
fixed punctuation.Comma (Sign g.Comma p) k w = go k w
fixed punctuation.Semicolon (Sign g.Semicolon p) k w = go k w
fixed punctuation.Equal (Sign g.Equal p) k w = go k w
fixed punctuation.Catch (Key k.Catch p) k w = go k w
fixed _ _ k w = None

-- where a name must be
abbrev pub word : Terminal → SymbolStack → TextCounts → Option Want
word (Name x p) k w = go k w
word _ k w = None

-- where an operand must begin; the inside of parentheses and the operand of a sign are one level deeper
abbrev pub operand : Terminal → ℕ → SymbolStack → TextCounts → Option Want
operand (Number n p) l k w = go k w
operand (Name x p) l k w = go k w
operand (Sign g.LeftParen p) l k w = go (Inside (suc l) ∷ Operators (suc l) ∷ Fixed punctuation.RightParen ∷ k) w
operand (Sign g.Minus p) l k w = ask (Count m.Operators) (suc w.operators) (go (Inside (suc l) ∷ k) (with_operator w))
operand (Sign g.Bang p) l k w = ask (Count m.Operators) (suc w.operators) (go (Inside (suc l) ∷ k) (with_operator w))
operand (Sign g.Tilde p) l k w = ask (Count m.Operators) (suc w.operators) (go (Inside (suc l) ∷ k) (with_operator w))
operand _ l k w = None

-- whether the sign is an operator with two operands
abbrev pub joins_sign : SignOf → Bool
joins_sign g.Star = true
joins_sign g.Slash = true
joins_sign g.Percent = true
joins_sign g.Plus = true
joins_sign g.Minus = true
joins_sign g.Shl = true
joins_sign g.Shr = true
joins_sign g.Less = true
joins_sign g.Le = true
joins_sign g.Greater = true
joins_sign g.Ge = true
joins_sign g.EqEq = true
joins_sign g.NotEq = true
joins_sign g.Amp = true
joins_sign g.Caret = true
joins_sign g.Bar = true
joins_sign g.AndAnd = true
joins_sign g.OrOr = true
joins_sign _ = false

-- whether the terminal is an operator with two operands
abbrev pub is_operator : Terminal → Bool
is_operator (Sign sign p) = joins_sign sign
is_operator _ = false

-- where an operator with two operands may follow; `other` is the want of any other terminal
abbrev pub operators : Terminal → ℕ → SymbolStack → TextCounts → Option Want → Option Want
operators x l k w other = if is_operator x then ask (Count m.Operators) (suc w.operators) (go (Operand l ∷ Operators l ∷ k) (with_operator w)) else other

-- where the argument of the number n must begin
abbrev pub wants_argument : Terminal → ℕ → ℕ → SymbolStack → TextCounts → Option Want
wants_argument x l n k w = ask (Count m.Arguments) n (operand x l (Operators l ∷ MoreArguments l n ∷ k) (new_expression w))

-- after the left parenthesis of a call: the right one, or the first argument
abbrev pub wants_arguments : Terminal → ℕ → SymbolStack → TextCounts → Option Want
wants_arguments (Sign g.RightParen p) l k w = go k w
wants_arguments x l k w = wants_argument x l 1 k w

-- after n arguments: the right parenthesis, or a comma before one more
abbrev pub more_arguments : Terminal → ℕ → ℕ → SymbolStack → TextCounts → Option Want
more_arguments (Sign g.RightParen p) l n k w = go k w
more_arguments (Sign g.Comma p) l n k w = go (Argument l (suc n) ∷ k) w
more_arguments _ l n k w = None

-- where a declared name must be
abbrev pub wants_declarations : Terminal → ℕ → SymbolStack → TextCounts → Option Want
wants_declarations (Name x p) l k w = ask (Count m.Locals) (suc w.locals) (go (AfterDeclared l ∷ k) (with_local w))
wants_declarations _ l k w = None

-- after a declared name and its value, if it has one: a comma before one more name, or the semicolon
abbrev pub more_declarations : Terminal → ℕ → SymbolStack → TextCounts → Option Want
more_declarations (Sign g.Comma p) l k w = go (Declarations l ∷ k) w
more_declarations (Sign g.Semicolon p) l k w = go k w
more_declarations _ l k w = None

-- after a declared name: `=` before its value, or what follows a name without one
abbrev pub after_declared : Terminal → ℕ → SymbolStack → TextCounts → Option Want
after_declared (Sign g.Equal p) l k w = go (Expression l ∷ Operators l ∷ MoreDeclarations l ∷ k) w
after_declared x l k w = more_declarations x l k w

-- where the one declared name of a `for` must be
abbrev pub wants_declaration : Terminal → ℕ → SymbolStack → TextCounts → Option Want
wants_declaration (Name x p) l k w = ask (Count m.Locals) (suc w.locals) (go (AfterDeclaration l ∷ k) (with_local w))
wants_declaration _ l k w = None

-- after the one declared name of a `for`: `=` before its value, or the semicolon
abbrev pub after_declaration : Terminal → ℕ → SymbolStack → TextCounts → Option Want
after_declaration (Sign g.Equal p) l k w = go (Expression l ∷ Operators l ∷ Fixed punctuation.Semicolon ∷ k) w
after_declaration (Sign g.Semicolon p) l k w = go k w
after_declaration _ l k w = None

-- where a statement must begin; its blocks and bodies are one level deeper, as are the first statement and the step of a `for`
abbrev pub statement : Terminal → ℕ → SymbolStack → TextCounts → Option Want
statement (Sign g.Semicolon p) l k w = go k w
statement (Sort (Value ty) p) l k w = go (Declarations l ∷ k) w
statement (Name x p) l k w = go (AfterWord l ∷ k) w
statement (Key k.Next p) l k w = go (Word ∷ AfterNext l ∷ k) w
statement (Key k.Put p) l k w = go (Word ∷ Fixed punctuation.Comma ∷ Expression l ∷ Operators l ∷ Fixed punctuation.Semicolon ∷ k) w
statement (Key k.If p) l k w = go (Fixed punctuation.LeftParen ∷ Expression l ∷ Operators l ∷ Fixed punctuation.RightParen ∷ Body (suc l) ∷ Else (suc l) ∷ k) w
statement (Key k.While p) l k w = go (Fixed punctuation.LeftParen ∷ Expression l ∷ Operators l ∷ Fixed punctuation.RightParen ∷ Body (suc l) ∷ k) w
statement (Key k.For p) l k w = go (Fixed punctuation.LeftParen ∷ First (suc l) ∷ Test l ∷ Step (suc l) ∷ Body (suc l) ∷ k) w
statement (Key k.Try p) l k w =
    go (Fixed punctuation.LeftBrace ∷ Block (suc l) ∷ Fixed punctuation.Catch ∷ Fixed punctuation.LeftParen ∷ Word ∷ CatchRest ∷ Block (suc l) ∷ k) w
statement (Key k.Throw p) l k w = go (Word ∷ ThrowRest l ∷ k) w
statement (Sign g.LeftBrace p) l k w = go (Block (suc l) ∷ Pars l 1 ∷ k) w
statement _ l k w = None

-- where a statement must begin as a thing of the level l: the limit on nesting is asked for that level
abbrev pub thing : Terminal → ℕ → SymbolStack → TextCounts → Option Want
thing x l k w = ask Nesting l (statement x l k (at_level l w))

-- in a block whose statements have the level l: its right brace, or a statement
abbrev pub wants_block : Terminal → ℕ → SymbolStack → TextCounts → Option Want
wants_block (Sign g.RightBrace p) l k w = go k w
wants_block x l k w = thing x l (Block l ∷ k) w

-- where the body of an `if`, an `else`, a `while` or a `for` must begin: a left brace, or a statement
abbrev pub body : Terminal → ℕ → SymbolStack → TextCounts → Option Want
body (Sign g.LeftBrace p) l k w = go (Block l ∷ AfterBody l w.deepest ∷ k) (new_body w)
body x l k w = thing x l k w

-- after the name with which a statement begins: `=`, or the left parenthesis of a call
abbrev pub after_word : Terminal → ℕ → SymbolStack → TextCounts → Option Want
after_word (Sign g.Equal p) l k w = go (AfterEqual l ∷ k) w
after_word (Sign g.LeftParen p) l k w = go (Arguments l ∷ Fixed punctuation.Semicolon ∷ Pars l 1 ∷ k) w
after_word _ l k w = None

-- after the `=` of an assignment: `next` or `get` before a name, or a value
abbrev pub after_equal : Terminal → ℕ → SymbolStack → TextCounts → Option Want
after_equal (Key k.Next p) l k w = go (Word ∷ Fixed punctuation.Semicolon ∷ k) w
after_equal (Key k.Get p) l k w = go (Word ∷ Fixed punctuation.Semicolon ∷ k) w
after_equal x l k w = operand x l (Operators l ∷ Fixed punctuation.Semicolon ∷ k) (new_expression w)

-- after `next` and its name: the semicolon, or `=` before a value
abbrev pub after_next : Terminal → ℕ → SymbolStack → TextCounts → Option Want
after_next (Sign g.Semicolon p) l k w = go k w
after_next (Sign g.Equal p) l k w = go (Expression l ∷ Operators l ∷ Fixed punctuation.Semicolon ∷ k) w
after_next _ l k w = None

-- after the exception of a `throw`: the semicolon, or in version 2 alone the left parenthesis before a number
abbrev pub throw_rest : Terminal → ℕ → SymbolStack → TextCounts → Option Want
throw_rest (Sign g.Semicolon p) l k w = go k w
throw_rest (Sign g.LeftParen p) l k w = if w.two then go (Expression l ∷ Operators l ∷ Fixed punctuation.RightParen ∷ Fixed punctuation.Semicolon ∷ k) w else None
throw_rest _ l k w = None

-- after the exception of a `catch`: the right parenthesis, or in version 2 alone the name of a variable before it
abbrev pub catch_rest : Terminal → SymbolStack → TextCounts → Option Want
catch_rest (Sign g.RightParen p) k w = go (Fixed punctuation.LeftBrace ∷ k) w
catch_rest (Name x p) k w =
    if w.two then ask (Count m.Locals) (suc w.locals) (go (Fixed punctuation.RightParen ∷ Fixed punctuation.LeftBrace ∷ k) (with_local w))
    else None
catch_rest _ k w = None

-- where the first statement of a `for` may begin, or its semicolon
abbrev pub first_of_for : Terminal → ℕ → SymbolStack → TextCounts → Option Want
first_of_for (Sign g.Semicolon p) l k w = go k w
first_of_for (Sort (Value ty) p) l k w = ask Nesting l (go (Declaration l ∷ k) (at_level l w))
first_of_for (Name x p) l k w = ask Nesting l (go (Fixed punctuation.Equal ∷ Expression l ∷ Operators l ∷ Fixed punctuation.Semicolon ∷ k) (at_level l w))
first_of_for _ l k w = None

-- where the test of a `for` may begin, or its semicolon
abbrev pub test_of_for : Terminal → ℕ → SymbolStack → TextCounts → Option Want
test_of_for (Sign g.Semicolon p) l k w = go k w
test_of_for x l k w = operand x l (Operators l ∷ Fixed punctuation.Semicolon ∷ k) (new_expression w)

-- where the step of a `for` may begin, or the right parenthesis
abbrev pub step_of_for : Terminal → ℕ → SymbolStack → TextCounts → Option Want
step_of_for (Sign g.RightParen p) l k w = go k w
step_of_for (Name x p) l k w = ask Nesting l (go (Fixed punctuation.Equal ∷ Expression l ∷ Operators l ∷ Fixed punctuation.RightParen ∷ k) (at_level l w))
step_of_for _ l k w = None

-- after the body of an `if`: `else` before its body; `other` is the want of any other terminal
abbrev pub wants_or_else : Terminal → ℕ → SymbolStack → TextCounts → Option Want → Option Want
wants_or_else (Key k.Else p) l k w other = go (Body l ∷ k) w
wants_or_else _ l k w other = other

-- after n branches: `par` before one more; `other` is the want of any other terminal
abbrev pub pars : Terminal → ℕ → ℕ → SymbolStack → TextCounts → Option Want → Option Want
pars (Key k.Par p) l n k w other = go (Branch l (suc n) ∷ Pars l (suc n) ∷ k) w
pars _ l n k w other = other

-- After the block of a body, outside of which the deepest level is d: `par` makes the block the first branch of a fork. `other` is the want of any other terminal.
abbrev pub after_body : Terminal → ℕ → ℕ → SymbolStack → TextCounts → Option Want → Option Want
after_body (Key k.Par p) l d k w other = ask Nesting (as_branch l w) (go (Branch l 2 ∷ Pars l 2 ∷ k) (at_level (as_branch l w) (behind_body d w)))
after_body _ l d k w other = other

-- where the branch of the number n must begin: the left brace of a block, or the name of a call
abbrev pub branch : Terminal → ℕ → ℕ → SymbolStack → TextCounts → Option Want
branch (Sign g.LeftBrace p) l n k w = ask (Count m.Branches) n (go (Block (suc l) ∷ k) w)
branch (Name x p) l n k w = ask (Count m.Branches) n (go (Fixed punctuation.LeftParen ∷ Arguments l ∷ Fixed punctuation.Semicolon ∷ k) w)
branch _ l n k w = None

-- where the parameter of the number n must begin
abbrev pub parameter : Terminal → ℕ → SymbolStack → TextCounts → Option Want
parameter (Sort sort p) n k w = ask (Count m.Parameters) n (go (AfterSort ∷ MoreParameters n ∷ k) w)
parameter _ n k w = None

-- after the left parenthesis of a function: the right one, `void`, or the first parameter
abbrev pub wants_parameters : Terminal → SymbolStack → TextCounts → Option Want
wants_parameters (Sign g.RightParen p) k w = go k w
wants_parameters (Key k.Void p) k w = go (Fixed punctuation.RightParen ∷ k) w
wants_parameters x k w = parameter x 1 k w

-- after n parameters: the right parenthesis, or a comma before one more
abbrev pub more_parameters : Terminal → ℕ → SymbolStack → TextCounts → Option Want
more_parameters (Sign g.RightParen p) n k w = go k w
more_parameters (Sign g.Comma p) n k w = go (Parameter (suc n) ∷ k) w
more_parameters _ n k w = None

-- after the type or stream of a parameter: its name, or `&` before its name
abbrev pub after_sort : Terminal → SymbolStack → TextCounts → Option Want
after_sort (Name x p) k w = go k w
after_sort (Sign g.Amp p) k w = go (Word ∷ k) w
after_sort _ k w = None

-- after the parameters: the body's left brace, or `throws`
abbrev pub wants_throws : Terminal → SymbolStack → TextCounts → Option Want
wants_throws (Sign g.LeftBrace p) k w = go k w
wants_throws (Key k.Throws p) k w = go (Thrown 1 ∷ k) w
wants_throws _ k w = None

-- where the exception of the number n of a `throws` must be
abbrev pub wants_thrown : Terminal → ℕ → SymbolStack → TextCounts → Option Want
wants_thrown (Name x p) n k w = ask (Count m.Throws) n (go (MoreThrows n ∷ k) w)
wants_thrown _ n k w = None

-- after n exceptions of a `throws`: the body's left brace, or a comma before one more
abbrev pub more_throws : Terminal → ℕ → SymbolStack → TextCounts → Option Want
more_throws (Sign g.LeftBrace p) n k w = go k w
more_throws (Sign g.Comma p) n k w = go (Thrown (suc n) ∷ k) w
more_throws _ n k w = None

-- after n functions: the end of the text, or the `void` of one more
abbrev pub functions : Terminal → ℕ → SymbolStack → TextCounts → Option Want
functions (End p) n k w = go k w
functions (Key k.Void p) n k w = ask (Count m.Functions) (suc n) (go (Word ∷ Fixed punctuation.LeftParen ∷ Parameters ∷ Throws ∷ Block 1 ∷ Functions (suc n) ∷ k) (new_function w))
functions _ n k w = None

-- where a program must begin: `shim` begins a text of version 2, and the functions begin any other
abbrev pub source : Terminal → SymbolStack → TextCounts → Option Want
source x k w = if is_shim x then go (Version ∷ Fixed punctuation.Semicolon ∷ Functions 0 ∷ k) (in_version_2 w) else functions x 0 k w

-- where the number of the version must be, which is 2
abbrev pub version : Terminal → SymbolStack → TextCounts → Option Want
version x k w = if is_two x then go k w else None

-- What a terminal wants where these symbols are to be read. The terminal may belong to a later symbol if those before that can be empty.
abbrev pub wants : SymbolStack → Terminal → TextCounts → Option Want
wants [] x w = None
wants (Fixed f ∷ k) x w = fixed f x k w
wants (Word ∷ k) x w = word x k w
wants (Operand l ∷ k) x w = operand x l k w
wants (Inside l ∷ k) x w = ask Nesting l (operand x l k (at_level l w))
wants (Expression l ∷ k) x w = operand x l k (new_expression w)
wants (Operators l ∷ k) x w = operators x l k w (wants k x w)
wants (Arguments l ∷ k) x w = wants_arguments x l k w
wants (MoreArguments l n ∷ k) x w = more_arguments x l n k w
wants (Argument l n ∷ k) x w = wants_argument x l n k w
wants (Declarations l ∷ k) x w = wants_declarations x l k w
wants (AfterDeclared l ∷ k) x w = after_declared x l k w
wants (MoreDeclarations l ∷ k) x w = more_declarations x l k w
wants (Declaration l ∷ k) x w = wants_declaration x l k w
wants (AfterDeclaration l ∷ k) x w = after_declaration x l k w
wants (Statement l ∷ k) x w = thing x l k w
wants (Body l ∷ k) x w = body x l k w
wants (Block l ∷ k) x w = wants_block x l k w
wants (AfterWord l ∷ k) x w = after_word x l k w
wants (AfterEqual l ∷ k) x w = after_equal x l k w
wants (AfterNext l ∷ k) x w = after_next x l k w
wants (ThrowRest l ∷ k) x w = throw_rest x l k w
wants (CatchRest ∷ k) x w = catch_rest x k w
wants (First l ∷ k) x w = first_of_for x l k w
wants (Test l ∷ k) x w = test_of_for x l k w
wants (Step l ∷ k) x w = step_of_for x l k w
wants (Else l ∷ k) x w = wants_or_else x l k w (wants k x w)
wants (AfterBody l d ∷ k) x w = after_body x l d k w (wants k x (behind_body d w))
wants (Pars l n ∷ k) x w = pars x l n k w (wants k x w)
wants (Branch l n ∷ k) x w = branch x l n k w
wants (Parameters ∷ k) x w = wants_parameters x k w
wants (AfterSort ∷ k) x w = after_sort x k w
wants (Throws ∷ k) x w = wants_throws x k w
wants (MoreParameters n ∷ k) x w = more_parameters x n k w
wants (Parameter n ∷ k) x w = parameter x n k w
wants (Thrown n ∷ k) x w = wants_thrown x n k w
wants (MoreThrows n ∷ k) x w = more_throws x n k w
wants (Functions n ∷ k) x w = functions x n k w
wants (Source ∷ k) x w = source x k w
wants (Version ∷ k) x w = version x k w

-- why the machine halts at a terminal: nothing wants it, or a limit is passed
pub data Cause : Type 0 where
  Unwanted : Cause
  Past : Limit → Cause

-- why the machine halts, and the terminals that it hasn't taken
pub data ParseEnd : Type 0 where
  At : Cause → List Terminal → ParseEnd

-- the end of a machine that has taken every terminal, with the cause `Unwanted`
abbrev pub AllTaken : ParseEnd
AllTaken = At Unwanted []

-- The limits are asked one by one for the first of the terminals s. If each allows its number, the end is `go_on`. At the first that doesn't, the machine halts.
abbrev pub judge : Limits → List Terminal → List Ask → ParseEnd → ParseEnd
judge c s [] go_on = go_on
judge c s (a ∷ asks) go_on = if c s a.limit a.number then judge c s asks go_on else At (Past a.limit) s

-- The machine takes the terminals one by one, with these symbols and counts. It halts at the first that nothing wants or that passes a limit, or after the last.
abbrev pub run_parser : Limits → List Terminal → SymbolStack → TextCounts → ParseEnd
run_parser c [] k w = AllTaken
run_parser c (x ∷ s) k w = elim (wants k x w) [ None ↦ At Unwanted (x ∷ s) | Some n ↦ judge c (x ∷ s) n.asks (run_parser c s n.stack n.counts) ]
