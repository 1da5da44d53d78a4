-- What the symbols of a stack give, in the grammar's words.
use Rattle.std.proofs.Common.{◌≡◌, ◌≤◌, ◌⊎◌, ℕ, suc, List, [], ◌∷◌, length, true, false, Option}
use Rattle.std.specs.Prelude.{IfSome}
use Rattle.shim_base.specs.declared.token.Keyword.TheVariants as k
use Rattle.shim_base.specs.declared.token.Sign.TheVariants as g
use Rattle.shim_base.specs.declared.types.Ty.{Ty}
use Rattle.shim_base.specs.Tokens.{Place}
use Rattle.shim_syntax.specs.declared.limits.Many.TheVariants as many
use Rattle.shim_syntax.specs.declared.tree.Sort.{Sort as SortOf}
use Rattle.shim_syntax.specs.declared.tree.Expr.{Expr}
use Rattle.shim_syntax.specs.declared.tree.Stmt.{Stmt}
use Rattle.shim_syntax.specs.declared.tree.Branch.{Branch as BranchTree}
use Rattle.shim_syntax.specs.declared.tree.Param.{Param}
use Rattle.shim_syntax.specs.declared.tree.Function.{Function}
use Rattle.shim_syntax.specs.declared.tree.Program.{Program as ProgramTree}
use Rattle.shim_syntax.specs.Terminals.{Terminal, Name, Sort, Key, Sign, first, is_two}
use Rattle.shim_syntax.specs.Limits.{Limit, Nesting, Count, Limits}
use Rattle.shim_syntax.specs.Grammar.{TextCounts, with_local, new_expression, at_level, behind_body, as_branch, is_else, is_par, IsExpr, IsWhole, IsArguments, IsMoreArguments, IsDeclared, IsDeclarations, IsFirst, IsTest, IsStep, IsThrowRest, IsCatchRest, IsBlock, IsStmt, IsBody, IsPlain, IsBranches, IsBranch, IsParam, IsParams, IsMoreParams, IsThrows, IsMoreThrows, IsFunctions, IsProgram}
use Rattle.shim_grammar.specs.declared.punctuation.Punctuation.{Punctuation}
use Rattle.shim_grammar.specs.declared.punctuation.Punctuation.TheVariants as punctuation
use Rattle.shim_grammar.specs.Machine.{Symbol, Fixed, Word, Operand, Inside, Expression, Operators, Arguments, MoreArguments, Argument, Declarations, AfterDeclared, MoreDeclarations, Declaration, AfterDeclaration, Statement, Body, Block, AfterWord, AfterEqual, AfterNext, ThrowRest, CatchRest, First, Test, Step as StepOfFor, Else, AfterBody, Pars, Branch, Parameters, AfterSort, Throws, MoreParameters, Parameter, Thrown, MoreThrows, Functions, SymbolStack, Ask, Want, Source, Version}

abbrev pub terminal_of : Punctuation → Place → Terminal
terminal_of punctuation.LeftParen p = Sign g.LeftParen p
terminal_of punctuation.RightParen p = Sign g.RightParen p
terminal_of punctuation.LeftBrace p = Sign g.LeftBrace p
terminal_of punctuation.Comma p = Sign g.Comma p
terminal_of punctuation.Semicolon p = Sign g.Semicolon p
terminal_of punctuation.Equal p = Sign g.Equal p
terminal_of punctuation.Catch p = Key k.Catch p

-- what a symbol gives from s up to r; w and v are what was counted before it and after it
abbrev pub Gives : Limits → Symbol → TextCounts → TextCounts → List Terminal → List Terminal → Type 0
Gives c (Fixed f) w v s r = (p : Place) × (s ≡ terminal_of f p ∷ r) × (w ≡ v)
Gives c Word w v s r = (x : List ℕ) × (p : Place) × (s ≡ Name x p ∷ r) × (w ≡ v)
Gives c (Operand l) w v s r = (x : Expr) × IsExpr c 0 l w v s r x
Gives c (Inside l) w v s r = (x : Expr) × (c s Nesting l ≡ true) × IsExpr c 0 l (at_level l w) v s r x
Gives c (Expression l) w v s r = (x : Expr) × IsExpr c 0 l (new_expression w) v s r x
Gives c (Operators l) w v s r = (q : List Terminal) (u : TextCounts) (x : Expr) → IsExpr c 10 l u w q s x → (y : Expr) × IsExpr c 10 l u v q r y
Gives c (Arguments l) w v s r = (xs : List Expr) × IsArguments c l w v s r xs
Gives c (MoreArguments l n) w v s r = (xs : List Expr) × IsMoreArguments c l n w v s r xs
Gives c (Argument l n) w v s r = (m : List Terminal) × (u : TextCounts) × (x : Expr) × (xs : List Expr) × (c s (Count many.Arguments) n ≡ true) × IsWhole c l w u s m x × IsMoreArguments c l n u v m r xs
Gives c (Declarations l) w v s r = (ty : Ty) (line : ℕ) → (xs : List Stmt) × IsDeclarations c l ty line w v s r xs
Gives c (AfterDeclared l) w v s r = (u : TextCounts) (x : List ℕ) (p : Place) → w ≡ with_local u → c (Name x p ∷ s) (Count many.Locals) (suc u.locals) ≡ true
    → (ty : Ty) (line : ℕ) → (xs : List Stmt) × IsDeclarations c l ty line u v (Name x p ∷ s) r xs
Gives c (MoreDeclarations l) w v s r = ((p : Place) × (s ≡ Sign g.Semicolon p ∷ r) × (w ≡ v))
    ⊎ ((p : Place) × (q : List Terminal) × (s ≡ Sign g.Comma p ∷ q) × ((ty : Ty) (line : ℕ) → (xs : List Stmt) × IsDeclarations c l ty line w v q r xs))
Gives c (Declaration l) w v s r = (p : Place) × (x : List ℕ) × (value : Option Expr) × IsDeclared c l w v s (Sign g.Semicolon p ∷ r) x value
Gives c (AfterDeclaration l) w v s r = (u : TextCounts) (x : List ℕ) (p : Place) → w ≡ with_local u → c (Name x p ∷ s) (Count many.Locals) (suc u.locals) ≡ true
    → (q : Place) × (value : Option Expr) × IsDeclared c l u v (Name x p ∷ s) (Sign g.Semicolon q ∷ r) x value
Gives c (Statement l) w v s r = (xs : List Stmt) × (c s Nesting l ≡ true) × IsStmt c l (at_level l w) v s r xs
Gives c (Body l) w v s r = (xs : List Stmt) × IsBody c l w v s r xs
Gives c (Block l) w v s r = (xs : List Stmt) × IsBlock c l w v s r xs
Gives c (AfterWord l) w v s r = (x : List ℕ) (p : Place) → (xs : List Stmt) × IsPlain c l w v (Name x p ∷ s) r xs
Gives c (AfterEqual l) w v s r = (x : List ℕ) (p q : Place) → (xs : List Stmt) × IsPlain c l w v (Name x p ∷ Sign g.Equal q ∷ s) r xs
Gives c (AfterNext l) w v s r = (x : List ℕ) (p q : Place) → (xs : List Stmt) × IsPlain c l w v (Key k.Next p ∷ Name x q ∷ s) r xs
Gives c (ThrowRest l) w v s r = (x : Option Expr) × IsThrowRest c l w v s r x
Gives c CatchRest w v s r = (x : Option (List ℕ)) × IsCatchRest c w v s r x
Gives c (First l) w v s r = (xs : List Stmt) × IsFirst c l w v s r xs
Gives c (Test l) w v s r = (x : Option Expr) × IsTest c l w v s r x
Gives c (StepOfFor l) w v s r = (xs : List Stmt) × IsStep c l w v s r xs
Gives c (Else l) w v s r = ((s ≡ r) × (is_else (first r) ≡ false) × (w ≡ v))
    ⊎ ((p : Place) × (q : List Terminal) × (xs : List Stmt) × (s ≡ Key k.Else p ∷ q) × IsBody c l w v q r xs)
Gives c (AfterBody l d) w v s r = ((s ≡ r) × (is_par (first r) ≡ false) × (behind_body d w ≡ v))
    ⊎ ((p : Place) × (q : List Terminal) × (bs : List BranchTree) × (s ≡ Key k.Par p ∷ q) × (c s Nesting (as_branch l w) ≡ true)
    × IsBranches c l 1 (at_level (as_branch l w) (behind_body d w)) v q r bs)
Gives c (Pars l n) w v s r = ((s ≡ r) × (is_par (first r) ≡ false) × (w ≡ v))
    ⊎ ((p : Place) × (q : List Terminal) × (bs : List BranchTree) × (s ≡ Key k.Par p ∷ q) × IsBranches c l n w v q r bs)
Gives c (Branch l n) w v s r = (b : BranchTree) × (c s (Count many.Branches) n ≡ true) × IsBranch c l w v s r b
Gives c Parameters w v s r = (xs : List Param) × IsParams c s r xs × (w ≡ v)
Gives c AfterSort w v s r = ((sort : SortOf) (p : Place) → (x : Param) × IsParam (Sort sort p ∷ s) r x) × (w ≡ v)
Gives c (MoreParameters n) w v s r = (xs : List Param) × IsMoreParams c n s r xs × (w ≡ v)
Gives c (Parameter n) w v s r = (q : List Terminal) × (x : Param) × (xs : List Param) × (c s (Count many.Parameters) n ≡ true) × IsParam s q x × IsMoreParams c n q r xs × (w ≡ v)
Gives c Throws w v s r = (xs : List (List ℕ)) × IsThrows c s r xs × (w ≡ v)
Gives c (Thrown n) w v s r = (x : List ℕ) × (p : Place) × (q : List Terminal) × (xs : List (List ℕ)) × (s ≡ Name x p ∷ q) × (c s (Count many.Throws) n ≡ true) × IsMoreThrows c n q r xs × (w ≡ v)
Gives c (MoreThrows n) w v s r = (xs : List (List ℕ)) × IsMoreThrows c n s r xs × (w ≡ v)
Gives c (Functions n) w v s r = (fs : List Function) × IsFunctions c n w s r fs
Gives c Source w v s r = (p : ProgramTree) × IsProgram c w s r p
Gives c Version w v s r = (x : Terminal) × (is_two x ≡ true) × (s ≡ x ∷ r) × (w ≡ v)

-- the terminals give what the stack still wants
abbrev pub Takes : Limits → SymbolStack → TextCounts → List Terminal → Type 0
Takes c [] w s = s ≡ []
Takes c (y ∷ k) w s = (r : List Terminal) × (v : TextCounts) × Gives c y w v s r × Takes c k v r

-- the limits allow all that is asked where s begins
abbrev pub Allowed : Limits → List Terminal → List Ask → Type 0
Allowed c s [] = Unit {0}
Allowed c s (a ∷ asks) = (c s a.limit a.number ≡ true) × Allowed c s asks

-- what a stack takes after a terminal, it takes with it
abbrev pub Step : Limits → Terminal → SymbolStack → TextCounts → Option Want → Type 0
Step c x k w o = IfSome o (λ n. (s : List Terminal) → Allowed c (x ∷ s) n.asks → Takes c n.stack n.counts s → Takes c k w (x ∷ s))

-- no limit holds for what is no longer than these terminals
abbrev pub Free : Limits → List Terminal → Type 0
Free c t = (s : List Terminal) (limit : Limit) (n : ℕ) → length s ≤ length t → c s limit n ≡ true
