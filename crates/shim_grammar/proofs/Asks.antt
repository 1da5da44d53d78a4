-- What a terminal asks of the limits: its level before its numbers, so that a number is refused only where the level is allowed.
use Rattle.std.proofs.Common.{◌≡◌, ℕ, List, [], ◌∷◌, Bool, true, false, Option, Some, None, refl}
use Rattle.std.specs.Prelude.{IfSome, if◌then◌else◌}
use Rattle.shim_base.specs.declared.token.Keyword.TheVariants as k
use Rattle.shim_base.specs.declared.token.Sign.TheVariants as g
use Rattle.shim_syntax.specs.declared.limits.Many.{Many}
use Rattle.shim_syntax.specs.declared.limits.Many.TheVariants as many
use Rattle.shim_syntax.specs.declared.tree.Sort.TheVariants.{Value}
use Rattle.shim_syntax.specs.Terminals.{Terminal, Name, Sort, Key, Sign, End, is_shim, is_two}
use Rattle.shim_syntax.specs.Limits.{Nesting, Count}
use Rattle.shim_syntax.specs.Grammar.{TextCounts, at_level, new_expression, behind_body}
use Rattle.shim_grammar.specs.declared.punctuation.Punctuation.{Punctuation}
use Rattle.shim_grammar.specs.declared.punctuation.Punctuation.TheVariants as punctuation
use Rattle.shim_grammar.specs.Machine as m
use Rattle.shim_grammar.specs.Machine.{Fixed, Word, Operand, Inside, Expression, Operators, Arguments, MoreArguments, Argument, Declarations, AfterDeclared, MoreDeclarations, Declaration, AfterDeclaration, Statement, Body, Block, AfterWord, AfterEqual, AfterNext, ThrowRest, CatchRest, First, Test, Step, Else, AfterBody, Pars, Branch, Parameters, AfterSort, Throws, MoreParameters, Parameter, Thrown, MoreThrows, Functions, SymbolStack, Ask, Want, ask, go, wants, Source, Version}

abbrev pub NumbersAlone : List Ask → Type 0
NumbersAlone [] = Unit {0}
NumbersAlone (a ∷ asks) = (what : Many) × (a.limit ≡ Count what) × NumbersAlone asks

abbrev pub LevelFirst : List Ask → Type 0
LevelFirst [] = Unit {0}
LevelFirst (a ∷ asks) = NumbersAlone asks

abbrev NoLevel : Option Want → Type 0
NoLevel o = IfSome o (λ n. NumbersAlone n.asks)

abbrev OneLevel : Option Want → Type 0
OneLevel o = IfSome o (λ n. LevelFirst n.asks)

numbers_first : (asks : List Ask) → NumbersAlone asks → LevelFirst asks
numbers_first [] h = tt
numbers_first (a ∷ asks) h = h.2

one : (o : Option Want) → NoLevel o → OneLevel o
one None h = tt
one (Some n) h = numbers_first n.asks h

level : (l : ℕ) (o : Option Want) → NoLevel o → OneLevel (ask Nesting l o)
level l None h = tt
level l (Some n) h = h

number : (what : Many) (n : ℕ) (o : Option Want) → NoLevel o → NoLevel (ask (Count what) n o)
number what n None h = tt
number what n (Some w) h = (what, refl, h)

fixed_asks : (f : Punctuation) (x : Terminal) (k : SymbolStack) (w : TextCounts) → NoLevel (m.fixed f x k w)
fixed_asks punctuation.LeftParen (Sign g.LeftParen p) k w = tt
fixed_asks punctuation.RightParen (Sign g.RightParen p) k w = tt
fixed_asks punctuation.LeftBrace (Sign g.LeftBrace p) k w = tt
fixed_asks punctuation.Comma (Sign g.Comma p) k w = tt
fixed_asks punctuation.Semicolon (Sign g.Semicolon p) k w = tt
fixed_asks punctuation.Equal (Sign g.Equal p) k w = tt
fixed_asks punctuation.Catch (Key k.Catch p) k w = tt
fixed_asks _ _ k w = tt

operand_asks : (x : Terminal) (l : ℕ) (k : SymbolStack) (w : TextCounts) → NoLevel (m.operand x l k w)
operand_asks (Sign g.Minus p) l k w = (many.Operators, refl, tt)
operand_asks (Sign g.Bang p) l k w = (many.Operators, refl, tt)
operand_asks (Sign g.Tilde p) l k w = (many.Operators, refl, tt)
operand_asks _ l k w = tt

word_asks : (x : Terminal) (k : SymbolStack) (w : TextCounts) → NoLevel (m.word x k w)
word_asks (Name y p) k w = tt
word_asks _ k w = tt

-- whichever is wanted
joined : (b : Bool) (o other : Option Want) → OneLevel o → OneLevel other → OneLevel (if b then o else other)
joined true o other h e = h
joined false o other h e = e

operators_asks : (x : Terminal) (l : ℕ) (k : SymbolStack) (w : TextCounts) (other : Option Want) → OneLevel other → OneLevel (m.operators x l k w other)
operators_asks x l k w other h = joined (m.is_operator x) _ other tt h

argument_asks : (x : Terminal) (l n : ℕ) (k : SymbolStack) (w : TextCounts) → NoLevel (m.wants_argument x l n k w)
argument_asks x l n k w = number many.Arguments n (m.operand x l (Operators l ∷ MoreArguments l n ∷ k) (new_expression w)) (operand_asks x l _ _)

arguments_asks : (x : Terminal) (l : ℕ) (k : SymbolStack) (w : TextCounts) → NoLevel (m.wants_arguments x l k w)
arguments_asks (Sign g.RightParen p) l k w = tt
arguments_asks x l k w = argument_asks x l 1 k w

more_arguments_asks : (x : Terminal) (l : ℕ) (n : ℕ) (k : SymbolStack) (w : TextCounts) → NoLevel (m.more_arguments x l n k w)
more_arguments_asks (Sign g.RightParen p) l n k w = tt
more_arguments_asks (Sign g.Comma p) l n k w = tt
more_arguments_asks _ l n k w = tt

declarations_asks : (x : Terminal) (l : ℕ) (k : SymbolStack) (w : TextCounts) → NoLevel (m.wants_declarations x l k w)
declarations_asks (Name y p) l k w = (many.Locals, refl, tt)
declarations_asks _ l k w = tt

more_declarations_asks : (x : Terminal) (l : ℕ) (k : SymbolStack) (w : TextCounts) → NoLevel (m.more_declarations x l k w)
more_declarations_asks (Sign g.Comma p) l k w = tt
more_declarations_asks (Sign g.Semicolon p) l k w = tt
more_declarations_asks _ l k w = tt

after_declared_asks : (x : Terminal) (l : ℕ) (k : SymbolStack) (w : TextCounts) → NoLevel (m.after_declared x l k w)
after_declared_asks (Sign g.Equal p) l k w = tt
after_declared_asks (Sign g.Comma p) l k w = tt
after_declared_asks (Sign g.Semicolon p) l k w = tt
after_declared_asks _ l k w = tt

declaration_asks : (x : Terminal) (l : ℕ) (k : SymbolStack) (w : TextCounts) → NoLevel (m.wants_declaration x l k w)
declaration_asks (Name y p) l k w = (many.Locals, refl, tt)
declaration_asks _ l k w = tt

after_declaration_asks : (x : Terminal) (l : ℕ) (k : SymbolStack) (w : TextCounts) → NoLevel (m.after_declaration x l k w)
after_declaration_asks (Sign g.Equal p) l k w = tt
after_declaration_asks (Sign g.Semicolon p) l k w = tt
after_declaration_asks _ l k w = tt

statement_asks : (x : Terminal) (l : ℕ) (k : SymbolStack) (w : TextCounts) → NoLevel (m.statement x l k w)
statement_asks (Sign g.Semicolon p) l k w = tt
statement_asks (Sort (Value ty) p) l k w = tt
statement_asks (Name y p) l k w = tt
statement_asks (Key k.Next p) l k w = tt
statement_asks (Key k.Put p) l k w = tt
statement_asks (Key k.If p) l k w = tt
statement_asks (Key k.While p) l k w = tt
statement_asks (Key k.For p) l k w = tt
statement_asks (Key k.Try p) l k w = tt
statement_asks (Key k.Throw p) l k w = tt
statement_asks (Sign g.LeftBrace p) l k w = tt
statement_asks _ l k w = tt

thing_asks : (x : Terminal) (l : ℕ) (k : SymbolStack) (w : TextCounts) → OneLevel (m.thing x l k w)
thing_asks x l k w = level l (m.statement x l k (at_level l w)) (statement_asks x l k (at_level l w))

block_asks : (x : Terminal) (l : ℕ) (k : SymbolStack) (w : TextCounts) → OneLevel (m.wants_block x l k w)
block_asks (Sign g.RightBrace p) l k w = tt
block_asks x l k w = thing_asks x l (Block l ∷ k) w

body_asks : (x : Terminal) (l : ℕ) (k : SymbolStack) (w : TextCounts) → OneLevel (m.body x l k w)
body_asks (Sign g.LeftBrace p) l k w = tt
body_asks x l k w = thing_asks x l k w

after_word_asks : (x : Terminal) (l : ℕ) (k : SymbolStack) (w : TextCounts) → NoLevel (m.after_word x l k w)
after_word_asks (Sign g.Equal p) l k w = tt
after_word_asks (Sign g.LeftParen p) l k w = tt
after_word_asks _ l k w = tt

after_equal_asks : (x : Terminal) (l : ℕ) (k : SymbolStack) (w : TextCounts) → NoLevel (m.after_equal x l k w)
after_equal_asks (Key k.Next p) l k w = tt
after_equal_asks (Key k.Get p) l k w = tt
after_equal_asks x l k w = operand_asks x l (Operators l ∷ Fixed punctuation.Semicolon ∷ k) (new_expression w)

after_next_asks : (x : Terminal) (l : ℕ) (k : SymbolStack) (w : TextCounts) → NoLevel (m.after_next x l k w)
after_next_asks (Sign g.Semicolon p) l k w = tt
after_next_asks (Sign g.Equal p) l k w = tt
after_next_asks _ l k w = tt

-- where one is wanted at all
joined_or_none : (b : Bool) (o : Option Want) → NoLevel o → NoLevel (if b then o else None)
joined_or_none true o h = h
joined_or_none false o h = tt

throw_rest_asks : (x : Terminal) (l : ℕ) (k : SymbolStack) (w : TextCounts) → NoLevel (m.throw_rest x l k w)
throw_rest_asks (Sign g.Semicolon p) l k w = tt
throw_rest_asks (Sign g.LeftParen p) l k w = joined_or_none w.two _ tt
throw_rest_asks _ l k w = tt

catch_rest_asks : (x : Terminal) (k : SymbolStack) (w : TextCounts) → NoLevel (m.catch_rest x k w)
catch_rest_asks (Sign g.RightParen p) k w = tt
catch_rest_asks (Name y p) k w = joined_or_none w.two _ (many.Locals, refl, tt)
catch_rest_asks _ k w = tt

first_asks : (x : Terminal) (l : ℕ) (k : SymbolStack) (w : TextCounts) → OneLevel (m.first_of_for x l k w)
first_asks (Sign g.Semicolon p) l k w = tt
first_asks (Sort (Value ty) p) l k w = tt
first_asks (Name y p) l k w = tt
first_asks _ l k w = tt

test_asks : (x : Terminal) (l : ℕ) (k : SymbolStack) (w : TextCounts) → NoLevel (m.test_of_for x l k w)
test_asks (Sign g.Semicolon p) l k w = tt
test_asks x l k w = operand_asks x l (Operators l ∷ Fixed punctuation.Semicolon ∷ k) (new_expression w)

step_asks : (x : Terminal) (l : ℕ) (k : SymbolStack) (w : TextCounts) → OneLevel (m.step_of_for x l k w)
step_asks (Sign g.RightParen p) l k w = tt
step_asks (Name y p) l k w = tt
step_asks _ l k w = tt

else_asks : (x : Terminal) (l : ℕ) (k : SymbolStack) (w : TextCounts) (other : Option Want) (h : OneLevel other) → OneLevel (m.wants_or_else x l k w other)
else_asks (Key k.Else p) l k w other h = tt
else_asks _ l k w other h = h

pars_asks : (x : Terminal) (l : ℕ) (n : ℕ) (k : SymbolStack) (w : TextCounts) (other : Option Want) (h : OneLevel other) → OneLevel (m.pars x l n k w other)
pars_asks (Key k.Par p) l n k w other h = tt
pars_asks _ l n k w other h = h

after_body_asks : (x : Terminal) (l : ℕ) (d : ℕ) (k : SymbolStack) (w : TextCounts) (other : Option Want) (h : OneLevel other) → OneLevel (m.after_body x l d k w other)
after_body_asks (Key k.Par p) l d k w other h = tt
after_body_asks _ l d k w other h = h

branch_asks : (x : Terminal) (l : ℕ) (n : ℕ) (k : SymbolStack) (w : TextCounts) → NoLevel (m.branch x l n k w)
branch_asks (Sign g.LeftBrace p) l n k w = (many.Branches, refl, tt)
branch_asks (Name y p) l n k w = (many.Branches, refl, tt)
branch_asks _ l n k w = tt

parameter_asks : (x : Terminal) (n : ℕ) (k : SymbolStack) (w : TextCounts) → NoLevel (m.parameter x n k w)
parameter_asks (Sort sort p) n k w = (many.Parameters, refl, tt)
parameter_asks _ n k w = tt

parameters_asks : (x : Terminal) (k : SymbolStack) (w : TextCounts) → NoLevel (m.wants_parameters x k w)
parameters_asks (Sign g.RightParen p) k w = tt
parameters_asks (Key k.Void p) k w = tt
parameters_asks (Sort sort p) k w = (many.Parameters, refl, tt)
parameters_asks _ k w = tt

more_parameters_asks : (x : Terminal) (n : ℕ) (k : SymbolStack) (w : TextCounts) → NoLevel (m.more_parameters x n k w)
more_parameters_asks (Sign g.RightParen p) n k w = tt
more_parameters_asks (Sign g.Comma p) n k w = tt
more_parameters_asks _ n k w = tt

after_sort_asks : (x : Terminal) (k : SymbolStack) (w : TextCounts) → NoLevel (m.after_sort x k w)
after_sort_asks (Name y p) k w = tt
after_sort_asks (Sign g.Amp p) k w = tt
after_sort_asks _ k w = tt

throws_asks : (x : Terminal) (k : SymbolStack) (w : TextCounts) → NoLevel (m.wants_throws x k w)
throws_asks (Sign g.LeftBrace p) k w = tt
throws_asks (Key k.Throws p) k w = tt
throws_asks _ k w = tt

thrown_asks : (x : Terminal) (n : ℕ) (k : SymbolStack) (w : TextCounts) → NoLevel (m.wants_thrown x n k w)
thrown_asks (Name y p) n k w = (many.Throws, refl, tt)
thrown_asks _ n k w = tt

more_throws_asks : (x : Terminal) (n : ℕ) (k : SymbolStack) (w : TextCounts) → NoLevel (m.more_throws x n k w)
more_throws_asks (Sign g.LeftBrace p) n k w = tt
more_throws_asks (Sign g.Comma p) n k w = tt
more_throws_asks _ n k w = tt

functions_asks : (x : Terminal) (n : ℕ) (k : SymbolStack) (w : TextCounts) → NoLevel (m.functions x n k w)
functions_asks (End p) n k w = tt
functions_asks (Key k.Void p) n k w = (many.Functions, refl, tt)
functions_asks _ n k w = tt

source_by : (x : Terminal) (k : SymbolStack) (w : TextCounts) (b : Bool) → is_shim x ≡ b → NoLevel (m.source x k w)
source_by x k w true e = rw e tt
source_by x k w false e = rw e (functions_asks x 0 k w)

version_by : (x : Terminal) (k : SymbolStack) (w : TextCounts) (b : Bool) → is_two x ≡ b → NoLevel (m.version x k w)
version_by x k w true e = rw e tt
version_by x k w false e = rw e tt

pub level_first : (k : SymbolStack) (x : Terminal) (w : TextCounts) → IfSome (wants k x w) (λ n. LevelFirst n.asks)
level_first [] x w = tt
level_first (Fixed f ∷ k) x w = one _ (fixed_asks f x k w)
level_first (Word ∷ k) x w = one _ (word_asks x k w)
level_first (Operand l ∷ k) x w = one _ (operand_asks x l k w)
level_first (Inside l ∷ k) x w = level l _ (operand_asks x l k (at_level l w))
level_first (Expression l ∷ k) x w = one _ (operand_asks x l k (new_expression w))
level_first (Operators l ∷ k) x w = operators_asks x l k w (wants k x w) (level_first k x w)
level_first (Arguments l ∷ k) x w = one _ (arguments_asks x l k w)
level_first (MoreArguments l n ∷ k) x w = one _ (more_arguments_asks x l n k w)
level_first (Argument l n ∷ k) x w = one _ (argument_asks x l n k w)
level_first (Declarations l ∷ k) x w = one _ (declarations_asks x l k w)
level_first (AfterDeclared l ∷ k) x w = one _ (after_declared_asks x l k w)
level_first (MoreDeclarations l ∷ k) x w = one _ (more_declarations_asks x l k w)
level_first (Declaration l ∷ k) x w = one _ (declaration_asks x l k w)
level_first (AfterDeclaration l ∷ k) x w = one _ (after_declaration_asks x l k w)
level_first (Statement l ∷ k) x w = thing_asks x l k w
level_first (Body l ∷ k) x w = body_asks x l k w
level_first (Block l ∷ k) x w = block_asks x l k w
level_first (AfterWord l ∷ k) x w = one _ (after_word_asks x l k w)
level_first (AfterEqual l ∷ k) x w = one _ (after_equal_asks x l k w)
level_first (AfterNext l ∷ k) x w = one _ (after_next_asks x l k w)
level_first (ThrowRest l ∷ k) x w = one _ (throw_rest_asks x l k w)
level_first (CatchRest ∷ k) x w = one _ (catch_rest_asks x k w)
level_first (First l ∷ k) x w = first_asks x l k w
level_first (Test l ∷ k) x w = one _ (test_asks x l k w)
level_first (Step l ∷ k) x w = step_asks x l k w
level_first (Else l ∷ k) x w = else_asks x l k w (wants k x w) (level_first k x w)
level_first (AfterBody l d ∷ k) x w = after_body_asks x l d k w (wants k x (behind_body d w)) (level_first k x (behind_body d w))
level_first (Pars l n ∷ k) x w = pars_asks x l n k w (wants k x w) (level_first k x w)
level_first (Branch l n ∷ k) x w = one _ (branch_asks x l n k w)
level_first (Parameters ∷ k) x w = one _ (parameters_asks x k w)
level_first (AfterSort ∷ k) x w = one _ (after_sort_asks x k w)
level_first (Throws ∷ k) x w = one _ (throws_asks x k w)
level_first (MoreParameters n ∷ k) x w = one _ (more_parameters_asks x n k w)
level_first (Parameter n ∷ k) x w = one _ (parameter_asks x n k w)
level_first (Thrown n ∷ k) x w = one _ (thrown_asks x n k w)
level_first (MoreThrows n ∷ k) x w = one _ (more_throws_asks x n k w)
level_first (Functions n ∷ k) x w = one _ (functions_asks x n k w)
level_first (Source ∷ k) x w = one _ (source_by x k w (is_shim x) refl)
level_first (Version ∷ k) x w = one _ (version_by x k w (is_two x) refl)
