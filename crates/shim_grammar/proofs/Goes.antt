-- What the machine takes may go on to a program, within the limits if they allow all that is asked in the rest.
use Rattle.std.proofs.Common.{◌≡◌, ◌≤◌, inl, List, [], ◌∷◌, length, false, None, refl, arith}
use Rattle.std.specs.Prelude.{pos}
use Rattle.shim_base.specs.declared.token.Sign.TheVariants as g
use Rattle.shim_base.specs.declared.types.Ty.TheVariants as ty
use Rattle.shim_base.specs.Tokens.{start}
use Rattle.shim_syntax.specs.declared.tree.Sort.TheVariants.{Value}
use Rattle.shim_syntax.specs.Terminals.{Terminal, Name, Number, Sort, Sign, End, first}
use Rattle.shim_syntax.specs.Limits.{Limits}
use Rattle.shim_syntax.specs.Grammar as is
use Rattle.shim_syntax.specs.Grammar.{TextCounts, new_function, with_local, new_expression, with_operator, at_level, new_body, behind_body, is_else, is_par}
use Rattle.shim_grammar.specs.declared.punctuation.Punctuation.TheVariants as punctuation
use Rattle.shim_grammar.specs.Machine.{Symbol, Fixed, Word, Operand, Inside, Expression, Operators, Arguments, MoreArguments, Argument, Declarations, AfterDeclared, MoreDeclarations, Declaration, AfterDeclaration, Statement, Body, Block, AfterWord, AfterEqual, AfterNext, ThrowRest, CatchRest, First, Test, Else, AfterBody, Pars, Branch, Parameters, AfterSort, Throws, MoreParameters, Parameter, Thrown, MoreThrows, Functions, SymbolStack, wants, Source, Version}
use Rattle.shim_grammar.specs.Machine.{Step as StepOfFor}
use Rattle.shim_grammar.proofs.Gives.{terminal_of, Gives, Takes, Step, Free}
use Rattle.shim_grammar.proofs.Joins.{lift}
use Rattle.shim_grammar.proofs.GoesExpr as e
use Rattle.shim_grammar.proofs.GoesStmt as st
use Rattle.shim_grammar.proofs.GoesFunction as f

-- what the stack after a terminal takes, the stack before it takes with it
pub sound : (c : Limits) (k : SymbolStack) (x : Terminal) (w : TextCounts) → Step c x k w (wants k x w)
sound c [] x w = tt
sound c (Fixed y ∷ k) x w = e.fixed_sound c y x k w
sound c (Word ∷ k) x w = e.word_sound c x k w
sound c (Operand l ∷ k) x w = e.operand_sound c x l k w
sound c (Inside l ∷ k) x w = e.inside_sound c x l k w
sound c (Expression l ∷ k) x w = e.expression_sound c x l k w
sound c (Operators l ∷ k) x w = e.operators_sound c x l k w (wants k x w) (sound c k x w)
sound c (Arguments l ∷ k) x w = e.arguments_sound c x l k w
sound c (MoreArguments l n ∷ k) x w = e.more_arguments_sound c x l n k w
sound c (Argument l n ∷ k) x w = e.argument_sound c x l n k w
sound c (Declarations l ∷ k) x w = e.declarations_sound c x l k w
sound c (AfterDeclared l ∷ k) x w = e.after_declared_sound c x l k w
sound c (MoreDeclarations l ∷ k) x w = e.more_declarations_sound c x l k w
sound c (Declaration l ∷ k) x w = e.declaration_sound c x l k w
sound c (AfterDeclaration l ∷ k) x w = e.after_declaration_sound c x l k w
sound c (Statement l ∷ k) x w = st.statement_sound c x l k w
sound c (Body l ∷ k) x w = st.body_sound c x l k w
sound c (Block l ∷ k) x w = st.block_sound c x l k w
sound c (AfterWord l ∷ k) x w = st.after_word_sound c x l k w
sound c (AfterEqual l ∷ k) x w = st.after_equal_sound c x l k w
sound c (AfterNext l ∷ k) x w = st.after_next_sound c x l k w
sound c (ThrowRest l ∷ k) x w = st.throw_rest_sound c x l k w
sound c (CatchRest ∷ k) x w = st.catch_rest_sound c x k w
sound c (First l ∷ k) x w = st.first_sound c x l k w
sound c (Test l ∷ k) x w = st.test_sound c x l k w
sound c (StepOfFor l ∷ k) x w = st.step_sound c x l k w
sound c (Else l ∷ k) x w = st.else_sound c x l k w (wants k x w) (sound c k x w)
sound c (AfterBody l d ∷ k) x w = st.after_body_sound c x l d k w (wants k x (behind_body d w)) (sound c k x (behind_body d w))
sound c (Pars l n ∷ k) x w = st.pars_sound c x l n k w (wants k x w) (sound c k x w)
sound c (Branch l n ∷ k) x w = st.branch_sound c x l n k w
sound c (Parameters ∷ k) x w = f.parameters_sound c x k w
sound c (AfterSort ∷ k) x w = f.after_sort_sound c x k w
sound c (Throws ∷ k) x w = f.throws_sound c x k w
sound c (MoreParameters n ∷ k) x w = f.more_parameters_sound c x n k w
sound c (Parameter n ∷ k) x w = f.parameter_sound c x n k w
sound c (Thrown n ∷ k) x w = f.thrown_sound c x n k w
sound c (MoreThrows n ∷ k) x w = f.more_throws_sound c x n k w
sound c (Functions n ∷ k) x w = f.functions_sound c x n k w
sound c (Source ∷ k) x w = f.source_sound c x k w
sound c (Version ∷ k) x w = f.version_sound c x k w

-- terminals that give what a stack still wants
abbrev pub finish : SymbolStack → List Terminal
finish [] = []
finish (Fixed y ∷ k) = terminal_of y start ∷ finish k
finish (Word ∷ k) = Name [] start ∷ finish k
finish (Operand l ∷ k) = Number (pos 0) start ∷ finish k
finish (Inside l ∷ k) = Number (pos 0) start ∷ finish k
finish (Expression l ∷ k) = Number (pos 0) start ∷ finish k
finish (Operators l ∷ k) = finish k
finish (Arguments l ∷ k) = Sign g.RightParen start ∷ finish k
finish (MoreArguments l n ∷ k) = Sign g.RightParen start ∷ finish k
finish (Argument l n ∷ k) = Number (pos 0) start ∷ Sign g.RightParen start ∷ finish k
finish (Declarations l ∷ k) = Name [] start ∷ Sign g.Semicolon start ∷ finish k
finish (AfterDeclared l ∷ k) = Sign g.Semicolon start ∷ finish k
finish (MoreDeclarations l ∷ k) = Sign g.Semicolon start ∷ finish k
finish (Declaration l ∷ k) = Name [] start ∷ Sign g.Semicolon start ∷ finish k
finish (AfterDeclaration l ∷ k) = Sign g.Semicolon start ∷ finish k
finish (Statement l ∷ k) = Sign g.Semicolon start ∷ finish k
finish (Body l ∷ k) = Sign g.Semicolon start ∷ finish k
finish (Block l ∷ k) = Sign g.RightBrace start ∷ finish k
finish (AfterWord l ∷ k) = Sign g.Equal start ∷ Number (pos 0) start ∷ Sign g.Semicolon start ∷ finish k
finish (AfterEqual l ∷ k) = Number (pos 0) start ∷ Sign g.Semicolon start ∷ finish k
finish (AfterNext l ∷ k) = Sign g.Semicolon start ∷ finish k
finish (ThrowRest l ∷ k) = Sign g.Semicolon start ∷ finish k
finish (CatchRest ∷ k) = Sign g.RightParen start ∷ Sign g.LeftBrace start ∷ finish k
finish (First l ∷ k) = Sign g.Semicolon start ∷ finish k
finish (Test l ∷ k) = Sign g.Semicolon start ∷ finish k
finish (StepOfFor l ∷ k) = Sign g.RightParen start ∷ finish k
finish (Else l ∷ k) = finish k
finish (AfterBody l d ∷ k) = finish k
finish (Pars l n ∷ k) = finish k
finish (Branch l n ∷ k) = Sign g.LeftBrace start ∷ Sign g.RightBrace start ∷ finish k
finish (Parameters ∷ k) = Sign g.RightParen start ∷ finish k
finish (AfterSort ∷ k) = Name [] start ∷ finish k
finish (Throws ∷ k) = Sign g.LeftBrace start ∷ finish k
finish (MoreParameters n ∷ k) = Sign g.RightParen start ∷ finish k
finish (Parameter n ∷ k) = Sort (Value ty.Bool) start ∷ Name [] start ∷ Sign g.RightParen start ∷ finish k
finish (Thrown n ∷ k) = Name [] start ∷ Sign g.LeftBrace start ∷ finish k
finish (MoreThrows n ∷ k) = Sign g.LeftBrace start ∷ finish k
finish (Functions n ∷ k) = End start ∷ finish k
finish (Source ∷ k) = End start ∷ finish k
finish (Version ∷ k) = Number (pos 2) start ∷ finish k

-- a symbol that falls through begins as what stands below it
pub no_else : (k : SymbolStack) → is_else (first (finish k)) ≡ false
no_else [] = refl
no_else (Fixed punctuation.Catch ∷ k) = refl
no_else (Fixed y ∷ k) = refl
no_else (Operators l ∷ k) = no_else k
no_else (Else l ∷ k) = no_else k
no_else (AfterBody l d ∷ k) = no_else k
no_else (Pars l n ∷ k) = no_else k
no_else (y ∷ k) = refl

pub no_par : (k : SymbolStack) → is_par (first (finish k)) ≡ false
no_par [] = refl
no_par (Fixed punctuation.Catch ∷ k) = refl
no_par (Fixed y ∷ k) = refl
no_par (Operators l ∷ k) = no_par k
no_par (Else l ∷ k) = no_par k
no_par (AfterBody l d ∷ k) = no_par k
no_par (Pars l n ∷ k) = no_par k
no_par (y ∷ k) = refl

-- what is counted after the terminals that finish a symbol
abbrev counted : Symbol → TextCounts → TextCounts
counted (Inside l) w = at_level l w
counted (Expression l) w = new_expression w
counted (Argument l n) w = new_expression w
counted (Declarations l) w = with_local w
counted (Declaration l) w = with_local w
counted (Statement l) w = at_level l w
counted (Body l) w = at_level l w
counted (AfterWord l) w = new_expression w
counted (AfterEqual l) w = new_expression w
counted (AfterBody l d) w = behind_body d w
counted _ w = w

finish_longer : (y : Symbol) (k : SymbolStack) → length (finish k) ≤ length (finish (y ∷ k))
finish_longer (Operators l) k = omega arith
finish_longer _ k = omega arith

free_behind : (c : Limits) (y : Symbol) (k : SymbolStack) → Free c (finish (y ∷ k)) → Free c (finish k)
free_behind c y k f = λ s limit n h. f s limit n (omega (arith, h, finish_longer y k))

finish_gives : (c : Limits) (y : Symbol) (k : SymbolStack) (w : TextCounts) → Free c (finish (y ∷ k)) → Gives c y w (counted y w) (finish (y ∷ k)) (finish k)
finish_gives c (Fixed y) k w f = (start, refl, refl)
finish_gives c Word k w f = ([], start, refl, refl)
finish_gives c (Operand l) k w f = (_, is.number)
finish_gives c (Inside l) k w f = (_, f _ _ l (omega arith), is.number)
finish_gives c (Expression l) k w f = (_, is.number)
finish_gives c (Operators l) k w f = λ q u x d. (x, d)
finish_gives c (Arguments l) k w f = (_, is.no_arguments)
finish_gives c (MoreArguments l n) k w f = (_, is.arguments_end)
finish_gives c (Argument l n) k w f = (_, _, _, _, f _ _ n (omega arith), lift 10 is.number, is.arguments_end)
finish_gives c (Declarations l) k w f = λ ty line. (_, is.last_declared (is.without_value (f _ _ _ (omega arith))))
finish_gives c (AfterDeclared l) k w f = λ u x p i h ty line. (_, is.last_declared (e.unvalued i h))
finish_gives c (MoreDeclarations l) k w f = inl (start, refl, refl)
finish_gives c (Declaration l) k w f = (start, [], None, is.without_value (f _ _ _ (omega arith)))
finish_gives c (AfterDeclaration l) k w f = λ u x p i h. (start, None, e.unvalued i h)
finish_gives c (Statement l) k w f = (_, f _ _ l (omega arith), is.plain is.empty)
finish_gives c (Body l) k w f = (_, is.body_plain (f _ _ l (omega arith)) is.empty)
finish_gives c (Block l) k w f = (_, is.block_end)
finish_gives c (AfterWord l) k w f = λ x p. (_, is.assign (lift 10 is.number))
finish_gives c (AfterEqual l) k w f = λ x p q. (_, is.assign (lift 10 is.number))
finish_gives c (AfterNext l) k w f = λ x p q. (_, is.next)
finish_gives c (ThrowRest l) k w f = (_, is.no_number)
finish_gives c CatchRest k w f = (_, is.no_variable)
finish_gives c (First l) k w f = (_, is.no_first)
finish_gives c (Test l) k w f = (_, is.no_test)
finish_gives c (StepOfFor l) k w f = (_, is.no_step)
finish_gives c (Else l) k w f = inl (refl, no_else k, refl)
finish_gives c (AfterBody l d) k w f = inl (refl, no_par k, refl)
finish_gives c (Pars l n) k w f = inl (refl, no_par k, refl)
finish_gives c (Branch l n) k w f = (_, f _ _ n (omega arith), is.block_branch is.block_end)
finish_gives c Parameters k w f = (_, is.no_params, refl)
finish_gives c AfterSort k w f = ((λ sort p. (_, is.param)), refl)
finish_gives c Throws k w f = (_, is.no_throws, refl)
finish_gives c (MoreParameters n) k w f = (_, is.params_end, refl)
finish_gives c (Parameter n) k w f = (_, _, _, f _ _ n (omega arith), is.param, is.params_end, refl)
finish_gives c (Thrown n) k w f = ([], start, _, _, refl, f _ _ n (omega arith), is.throws_end, refl)
finish_gives c (MoreThrows n) k w f = (_, is.throws_end, refl)
finish_gives c (Functions n) k w f = (_, is.program_end)
finish_gives c Source k w f = (_, is.version_1 is.program_end)
finish_gives c Version k w f = (_, refl, refl, refl)

pub finishes : (c : Limits) (k : SymbolStack) (w : TextCounts) → Free c (finish k) → Takes c k w (finish k)
finishes c [] w f = refl
finishes c (y ∷ k) w f = (finish k, counted y w, finish_gives c y k w f, finishes c k (counted y w) (free_behind c y k f))
