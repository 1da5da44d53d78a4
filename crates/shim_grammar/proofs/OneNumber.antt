-- What a terminal asks of the limits: after the first number all is within them, so that at one terminal one number at most is refused.
use Rattle.std.proofs.Common.{◌≡◌, ℕ, List, [], ◌∷◌, Bool, true, false, Option, Some, None, refl}
use Rattle.std.specs.Prelude.{IfSome, if◌then◌else◌}
use Rattle.shim_base.specs.declared.token.Keyword.TheVariants as k
use Rattle.shim_base.specs.declared.token.Sign.TheVariants as g
use Rattle.shim_syntax.specs.declared.limits.Many.{Many}
use Rattle.shim_syntax.specs.declared.limits.Many.TheVariants as many
use Rattle.shim_syntax.specs.declared.tree.Sort.TheVariants.{Value}
use Rattle.shim_syntax.specs.Terminals.{Terminal, Name, Sort, Key, Sign, End, is_shim, is_two}
use Rattle.shim_syntax.specs.Limits.{Limit, Nesting, Count, limits}
use Rattle.shim_syntax.specs.Grammar.{TextCounts, at_level, new_expression, behind_body}
use Rattle.shim_grammar.specs.declared.punctuation.Punctuation.{Punctuation}
use Rattle.shim_grammar.specs.declared.punctuation.Punctuation.TheVariants as punctuation
use Rattle.shim_grammar.specs.Machine as m
use Rattle.shim_grammar.specs.Machine.{Fixed, Word, Operand, Inside, Expression, Operators, Arguments, MoreArguments, Argument, Declarations, AfterDeclared, MoreDeclarations, Declaration, AfterDeclaration, Statement, Body, Block, AfterWord, AfterEqual, AfterNext, ThrowRest, CatchRest, First, Test, Step, Else, AfterBody, Pars, Branch, Parameters, AfterSort, Throws, MoreParameters, Parameter, Thrown, MoreThrows, Functions, SymbolStack, Ask, Want, ask, wants, Source, Version}
use Rattle.shim_grammar.proofs.Gives.{Allowed}

-- the first where the limit is that on levels, the second where it is one on a number
abbrev pub ByLimit : Limit → Type 0 → Type 0 → Type 0
ByLimit Nesting p q = p
ByLimit (Count what) p q = q

-- after the first number all is within the limits
abbrev pub OneNumber : List Ask → Type 0
OneNumber [] = Unit {0}
OneNumber (a ∷ asks) = ByLimit a.limit (OneNumber asks) (Allowed limits [] asks)

abbrev Single : Option Want → Type 0
Single o = IfSome o (λ n. OneNumber n.asks)

level : (l : ℕ) (o : Option Want) → Single o → Single (ask Nesting l o)
level l None h = tt
level l (Some n) h = h

number : (what : Many) (n : ℕ) (o : Option Want) → IfSome o (λ u. Allowed limits [] u.asks) → Single (ask (Count what) n o)
number what n None h = tt
number what n (Some u) h = h

-- the first operator of an expression is within the limits
operand_small : (x : Terminal) (l : ℕ) (k : SymbolStack) (w : TextCounts) → IfSome (m.operand x l k (new_expression w)) (λ n. Allowed limits [] n.asks)
operand_small (Sign g.Minus p) l k w = (refl, tt)
operand_small (Sign g.Bang p) l k w = (refl, tt)
operand_small (Sign g.Tilde p) l k w = (refl, tt)
operand_small _ l k w = tt

fixed_one : (f : Punctuation) (x : Terminal) (k : SymbolStack) (w : TextCounts) → Single (m.fixed f x k w)
fixed_one punctuation.LeftParen (Sign g.LeftParen p) k w = tt
fixed_one punctuation.RightParen (Sign g.RightParen p) k w = tt
fixed_one punctuation.LeftBrace (Sign g.LeftBrace p) k w = tt
fixed_one punctuation.Comma (Sign g.Comma p) k w = tt
fixed_one punctuation.Semicolon (Sign g.Semicolon p) k w = tt
fixed_one punctuation.Equal (Sign g.Equal p) k w = tt
fixed_one punctuation.Catch (Key k.Catch p) k w = tt
fixed_one _ _ k w = tt

operand_one : (x : Terminal) (l : ℕ) (k : SymbolStack) (w : TextCounts) → Single (m.operand x l k w)
operand_one (Sign g.Minus p) l k w = tt
operand_one (Sign g.Bang p) l k w = tt
operand_one (Sign g.Tilde p) l k w = tt
operand_one _ l k w = tt

word_one : (x : Terminal) (k : SymbolStack) (w : TextCounts) → Single (m.word x k w)
word_one (Name y p) k w = tt
word_one _ k w = tt

-- whichever is wanted
joined : (b : Bool) (o other : Option Want) → Single o → Single other → Single (if b then o else other)
joined true o other h e = h
joined false o other h e = e

operators_one : (x : Terminal) (l : ℕ) (k : SymbolStack) (w : TextCounts) (other : Option Want) → Single other → Single (m.operators x l k w other)
operators_one x l k w other h = joined (m.is_operator x) _ other tt h

argument_one : (x : Terminal) (l n : ℕ) (k : SymbolStack) (w : TextCounts) → Single (m.wants_argument x l n k w)
argument_one x l n k w = number many.Arguments n (m.operand x l (Operators l ∷ MoreArguments l n ∷ k) (new_expression w)) (operand_small x l _ w)

arguments_one : (x : Terminal) (l : ℕ) (k : SymbolStack) (w : TextCounts) → Single (m.wants_arguments x l k w)
arguments_one (Sign g.RightParen p) l k w = tt
arguments_one x l k w = argument_one x l 1 k w

more_arguments_one : (x : Terminal) (l : ℕ) (n : ℕ) (k : SymbolStack) (w : TextCounts) → Single (m.more_arguments x l n k w)
more_arguments_one (Sign g.RightParen p) l n k w = tt
more_arguments_one (Sign g.Comma p) l n k w = tt
more_arguments_one _ l n k w = tt

declarations_one : (x : Terminal) (l : ℕ) (k : SymbolStack) (w : TextCounts) → Single (m.wants_declarations x l k w)
declarations_one (Name y p) l k w = tt
declarations_one _ l k w = tt

more_declarations_one : (x : Terminal) (l : ℕ) (k : SymbolStack) (w : TextCounts) → Single (m.more_declarations x l k w)
more_declarations_one (Sign g.Comma p) l k w = tt
more_declarations_one (Sign g.Semicolon p) l k w = tt
more_declarations_one _ l k w = tt

after_declared_one : (x : Terminal) (l : ℕ) (k : SymbolStack) (w : TextCounts) → Single (m.after_declared x l k w)
after_declared_one (Sign g.Equal p) l k w = tt
after_declared_one (Sign g.Comma p) l k w = tt
after_declared_one (Sign g.Semicolon p) l k w = tt
after_declared_one _ l k w = tt

declaration_one : (x : Terminal) (l : ℕ) (k : SymbolStack) (w : TextCounts) → Single (m.wants_declaration x l k w)
declaration_one (Name y p) l k w = tt
declaration_one _ l k w = tt

after_declaration_one : (x : Terminal) (l : ℕ) (k : SymbolStack) (w : TextCounts) → Single (m.after_declaration x l k w)
after_declaration_one (Sign g.Equal p) l k w = tt
after_declaration_one (Sign g.Semicolon p) l k w = tt
after_declaration_one _ l k w = tt

statement_one : (x : Terminal) (l : ℕ) (k : SymbolStack) (w : TextCounts) → Single (m.statement x l k w)
statement_one (Sign g.Semicolon p) l k w = tt
statement_one (Sort (Value ty) p) l k w = tt
statement_one (Name y p) l k w = tt
statement_one (Key k.Next p) l k w = tt
statement_one (Key k.Put p) l k w = tt
statement_one (Key k.If p) l k w = tt
statement_one (Key k.While p) l k w = tt
statement_one (Key k.For p) l k w = tt
statement_one (Key k.Try p) l k w = tt
statement_one (Key k.Throw p) l k w = tt
statement_one (Sign g.LeftBrace p) l k w = tt
statement_one _ l k w = tt

thing_one : (x : Terminal) (l : ℕ) (k : SymbolStack) (w : TextCounts) → Single (m.thing x l k w)
thing_one x l k w = level l (m.statement x l k (at_level l w)) (statement_one x l k (at_level l w))

block_one : (x : Terminal) (l : ℕ) (k : SymbolStack) (w : TextCounts) → Single (m.wants_block x l k w)
block_one (Sign g.RightBrace p) l k w = tt
block_one x l k w = thing_one x l (Block l ∷ k) w

body_one : (x : Terminal) (l : ℕ) (k : SymbolStack) (w : TextCounts) → Single (m.body x l k w)
body_one (Sign g.LeftBrace p) l k w = tt
body_one x l k w = thing_one x l k w

after_word_one : (x : Terminal) (l : ℕ) (k : SymbolStack) (w : TextCounts) → Single (m.after_word x l k w)
after_word_one (Sign g.Equal p) l k w = tt
after_word_one (Sign g.LeftParen p) l k w = tt
after_word_one _ l k w = tt

after_equal_one : (x : Terminal) (l : ℕ) (k : SymbolStack) (w : TextCounts) → Single (m.after_equal x l k w)
after_equal_one (Key k.Next p) l k w = tt
after_equal_one (Key k.Get p) l k w = tt
after_equal_one x l k w = operand_one x l (Operators l ∷ Fixed punctuation.Semicolon ∷ k) (new_expression w)

after_next_one : (x : Terminal) (l : ℕ) (k : SymbolStack) (w : TextCounts) → Single (m.after_next x l k w)
after_next_one (Sign g.Semicolon p) l k w = tt
after_next_one (Sign g.Equal p) l k w = tt
after_next_one _ l k w = tt

throw_rest_one : (x : Terminal) (l : ℕ) (k : SymbolStack) (w : TextCounts) → Single (m.throw_rest x l k w)
throw_rest_one (Sign g.Semicolon p) l k w = tt
throw_rest_one (Sign g.LeftParen p) l k w = joined w.two _ None tt tt
throw_rest_one _ l k w = tt

catch_rest_one : (x : Terminal) (k : SymbolStack) (w : TextCounts) → Single (m.catch_rest x k w)
catch_rest_one (Sign g.RightParen p) k w = tt
catch_rest_one (Name y p) k w = joined w.two _ None tt tt
catch_rest_one _ k w = tt

first_one : (x : Terminal) (l : ℕ) (k : SymbolStack) (w : TextCounts) → Single (m.first_of_for x l k w)
first_one (Sign g.Semicolon p) l k w = tt
first_one (Sort (Value ty) p) l k w = tt
first_one (Name y p) l k w = tt
first_one _ l k w = tt

test_one : (x : Terminal) (l : ℕ) (k : SymbolStack) (w : TextCounts) → Single (m.test_of_for x l k w)
test_one (Sign g.Semicolon p) l k w = tt
test_one x l k w = operand_one x l (Operators l ∷ Fixed punctuation.Semicolon ∷ k) (new_expression w)

step_one : (x : Terminal) (l : ℕ) (k : SymbolStack) (w : TextCounts) → Single (m.step_of_for x l k w)
step_one (Sign g.RightParen p) l k w = tt
step_one (Name y p) l k w = tt
step_one _ l k w = tt

else_one : (x : Terminal) (l : ℕ) (k : SymbolStack) (w : TextCounts) (other : Option Want) (h : Single other) → Single (m.wants_or_else x l k w other)
else_one (Key k.Else p) l k w other h = tt
else_one _ l k w other h = h

pars_one : (x : Terminal) (l : ℕ) (n : ℕ) (k : SymbolStack) (w : TextCounts) (other : Option Want) (h : Single other) → Single (m.pars x l n k w other)
pars_one (Key k.Par p) l n k w other h = tt
pars_one _ l n k w other h = h

after_body_one : (x : Terminal) (l : ℕ) (d : ℕ) (k : SymbolStack) (w : TextCounts) (other : Option Want) (h : Single other) → Single (m.after_body x l d k w other)
after_body_one (Key k.Par p) l d k w other h = tt
after_body_one _ l d k w other h = h

branch_one : (x : Terminal) (l : ℕ) (n : ℕ) (k : SymbolStack) (w : TextCounts) → Single (m.branch x l n k w)
branch_one (Sign g.LeftBrace p) l n k w = tt
branch_one (Name y p) l n k w = tt
branch_one _ l n k w = tt

parameter_one : (x : Terminal) (n : ℕ) (k : SymbolStack) (w : TextCounts) → Single (m.parameter x n k w)
parameter_one (Sort sort p) n k w = tt
parameter_one _ n k w = tt

parameters_one : (x : Terminal) (k : SymbolStack) (w : TextCounts) → Single (m.wants_parameters x k w)
parameters_one (Sign g.RightParen p) k w = tt
parameters_one (Key k.Void p) k w = tt
parameters_one (Sort sort p) k w = tt
parameters_one _ k w = tt

more_parameters_one : (x : Terminal) (n : ℕ) (k : SymbolStack) (w : TextCounts) → Single (m.more_parameters x n k w)
more_parameters_one (Sign g.RightParen p) n k w = tt
more_parameters_one (Sign g.Comma p) n k w = tt
more_parameters_one _ n k w = tt

after_sort_one : (x : Terminal) (k : SymbolStack) (w : TextCounts) → Single (m.after_sort x k w)
after_sort_one (Name y p) k w = tt
after_sort_one (Sign g.Amp p) k w = tt
after_sort_one _ k w = tt

throws_one : (x : Terminal) (k : SymbolStack) (w : TextCounts) → Single (m.wants_throws x k w)
throws_one (Sign g.LeftBrace p) k w = tt
throws_one (Key k.Throws p) k w = tt
throws_one _ k w = tt

thrown_one : (x : Terminal) (n : ℕ) (k : SymbolStack) (w : TextCounts) → Single (m.wants_thrown x n k w)
thrown_one (Name y p) n k w = tt
thrown_one _ n k w = tt

more_throws_one : (x : Terminal) (n : ℕ) (k : SymbolStack) (w : TextCounts) → Single (m.more_throws x n k w)
more_throws_one (Sign g.LeftBrace p) n k w = tt
more_throws_one (Sign g.Comma p) n k w = tt
more_throws_one _ n k w = tt

functions_one : (x : Terminal) (n : ℕ) (k : SymbolStack) (w : TextCounts) → Single (m.functions x n k w)
functions_one (End p) n k w = tt
functions_one (Key k.Void p) n k w = tt
functions_one _ n k w = tt

source_by : (x : Terminal) (k : SymbolStack) (w : TextCounts) (b : Bool) → is_shim x ≡ b → Single (m.source x k w)
source_by x k w true e = rw e tt
source_by x k w false e = rw e (functions_one x 0 k w)

version_by : (x : Terminal) (k : SymbolStack) (w : TextCounts) (b : Bool) → is_two x ≡ b → Single (m.version x k w)
version_by x k w true e = rw e tt
version_by x k w false e = rw e tt

pub one_number : (k : SymbolStack) (x : Terminal) (w : TextCounts) → IfSome (wants k x w) (λ n. OneNumber n.asks)
one_number [] x w = tt
one_number (Fixed f ∷ k) x w = fixed_one f x k w
one_number (Word ∷ k) x w = word_one x k w
one_number (Operand l ∷ k) x w = operand_one x l k w
one_number (Inside l ∷ k) x w = level l (m.operand x l k (at_level l w)) (operand_one x l k (at_level l w))
one_number (Expression l ∷ k) x w = operand_one x l k (new_expression w)
one_number (Operators l ∷ k) x w = operators_one x l k w (wants k x w) (one_number k x w)
one_number (Arguments l ∷ k) x w = arguments_one x l k w
one_number (MoreArguments l n ∷ k) x w = more_arguments_one x l n k w
one_number (Argument l n ∷ k) x w = argument_one x l n k w
one_number (Declarations l ∷ k) x w = declarations_one x l k w
one_number (AfterDeclared l ∷ k) x w = after_declared_one x l k w
one_number (MoreDeclarations l ∷ k) x w = more_declarations_one x l k w
one_number (Declaration l ∷ k) x w = declaration_one x l k w
one_number (AfterDeclaration l ∷ k) x w = after_declaration_one x l k w
one_number (Statement l ∷ k) x w = thing_one x l k w
one_number (Body l ∷ k) x w = body_one x l k w
one_number (Block l ∷ k) x w = block_one x l k w
one_number (AfterWord l ∷ k) x w = after_word_one x l k w
one_number (AfterEqual l ∷ k) x w = after_equal_one x l k w
one_number (AfterNext l ∷ k) x w = after_next_one x l k w
one_number (ThrowRest l ∷ k) x w = throw_rest_one x l k w
one_number (CatchRest ∷ k) x w = catch_rest_one x k w
one_number (First l ∷ k) x w = first_one x l k w
one_number (Test l ∷ k) x w = test_one x l k w
one_number (Step l ∷ k) x w = step_one x l k w
one_number (Else l ∷ k) x w = else_one x l k w (wants k x w) (one_number k x w)
one_number (AfterBody l d ∷ k) x w = after_body_one x l d k w (wants k x (behind_body d w)) (one_number k x (behind_body d w))
one_number (Pars l n ∷ k) x w = pars_one x l n k w (wants k x w) (one_number k x w)
one_number (Branch l n ∷ k) x w = branch_one x l n k w
one_number (Parameters ∷ k) x w = parameters_one x k w
one_number (AfterSort ∷ k) x w = after_sort_one x k w
one_number (Throws ∷ k) x w = throws_one x k w
one_number (MoreParameters n ∷ k) x w = more_parameters_one x n k w
one_number (Parameter n ∷ k) x w = parameter_one x n k w
one_number (Thrown n ∷ k) x w = thrown_one x n k w
one_number (MoreThrows n ∷ k) x w = more_throws_one x n k w
one_number (Functions n ∷ k) x w = functions_one x n k w
one_number (Source ∷ k) x w = source_by x k w (is_shim x) refl
one_number (Version ∷ k) x w = version_by x k w (is_two x) refl
