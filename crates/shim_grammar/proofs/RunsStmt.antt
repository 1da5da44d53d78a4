-- The machine runs through what the grammar derives: declarations, statements and functions.
use Rattle.std.proofs.Common.{◌≡◌, ℕ, suc, List, [], ◌∷◌, true, false, Option, Some, None, refl, ap, ◌∙◌}
use Rattle.std.specs.Prelude.{if◌then◌else◌}
use Rattle.shim_base.specs.Tokens.{Place}
use Rattle.shim_base.specs.declared.token.Sign.TheVariants as g
use Rattle.shim_base.specs.declared.types.Ty.{Ty}
use Rattle.shim_syntax.specs.declared.limits.Many.TheVariants as many
use Rattle.shim_syntax.specs.declared.tree.Expr.{Expr}
use Rattle.shim_syntax.specs.declared.tree.Stmt.{Stmt}
use Rattle.shim_syntax.specs.declared.tree.Branch.{Branch as BranchTree}
use Rattle.shim_syntax.specs.declared.tree.Param.{Param}
use Rattle.shim_syntax.specs.declared.tree.Function.{Function}
use Rattle.shim_syntax.specs.declared.tree.Program.{Program as ProgramTree}
use Rattle.shim_syntax.specs.Terminals.{Terminal, Sign, first, is_shim, is_two}
use Rattle.shim_syntax.specs.Limits.{Nesting, Count, Limits}
use Rattle.shim_syntax.specs.Grammar as is
use Rattle.shim_syntax.specs.Grammar.{TextCounts, nothing_read, in_version_2, new_function, with_local, new_body, at_level, behind_body, as_branch, is_else, is_par, IsDeclared, IsDeclarations, IsFirst, IsStep, IsThrowRest, IsCatchRest, IsBlock, IsStmt, IsBody, IsPlain, IsBranches, IsBranch, IsParam, IsParams, IsMoreParams, IsThrows, IsMoreThrows, IsFunction, IsFunctions, Derives}
use Rattle.shim_grammar.specs.declared.punctuation.Punctuation.TheVariants as punctuation
use Rattle.shim_grammar.specs.Machine.{Fixed, Word, Expression, Operators, Declarations, MoreDeclarations, Declaration, Statement, Body, Block, ThrowRest, CatchRest, First, Test, Step, Else, AfterBody, Pars, Branch, Parameters, Throws, MoreParameters, Parameter, MoreThrows, Functions, SymbolStack, Want, ParseEnd, At, Unwanted, judge, wants, go, AllTaken, statement, run_parser, Source, Version}
use Rattle.shim_grammar.proofs.Runs.{run_on, asked, is_left_brace, is_right_brace, else_skips, pars_skips, after_body_skips, block_skips, body_skips, whole_runs, arguments_runs, equal_runs, test_runs}

pub declared_runs : {c : Limits} {l : ℕ} {w : TextCounts} {s r : List Terminal} {x : List ℕ} {p : Place} {value : Option Expr} (v : TextCounts) → IsDeclared c l v w s (Sign g.Semicolon p ∷ r) x value
    → (k : SymbolStack) → run_parser c s (Declaration l ∷ k) v ≡ run_parser c r k w
declared_runs v (is.without_value h) k = rw h refl
declared_runs v (is.with_value h d) k = rw h (whole_runs (with_local v) d (Fixed punctuation.Semicolon ∷ k))

pub last_declared_runs : {c : Limits} {l : ℕ} {w : TextCounts} {s r : List Terminal} {x : List ℕ} {p : Place} {value : Option Expr} (v : TextCounts) → IsDeclared c l v w s (Sign g.Semicolon p ∷ r) x value
    → (k : SymbolStack) → run_parser c s (Declarations l ∷ k) v ≡ run_parser c r k w
last_declared_runs v (is.without_value h) k = rw h refl
last_declared_runs v (is.with_value h d) k = rw h (whole_runs (with_local v) d (MoreDeclarations _ ∷ k))

pub next_declared_runs : {c : Limits} {l : ℕ} {w : TextCounts} {s r : List Terminal} {x : List ℕ} {p : Place} {value : Option Expr} (v : TextCounts) → IsDeclared c l v w s (Sign g.Comma p ∷ r) x value
    → (k : SymbolStack) → run_parser c s (Declarations l ∷ k) v ≡ run_parser c r (Declarations l ∷ k) w
next_declared_runs v (is.without_value h) k = rw h refl
next_declared_runs v (is.with_value h d) k = rw h (whole_runs (with_local v) d (MoreDeclarations _ ∷ k))

pub declarations_runs : {c : Limits} {l line : ℕ} {ty : Ty} {v w : TextCounts} {s r : List Terminal} {xs : List Stmt} → IsDeclarations c l ty line v w s r xs → (k : SymbolStack)
    → run_parser c s (Declarations l ∷ k) v ≡ run_parser c r k w
declarations_runs {v = v} (is.last_declared d) k = last_declared_runs v d k
declarations_runs {v = v} (is.declared d t) k = next_declared_runs v d k ∙ declarations_runs t k

pub first_runs : {c : Limits} {l : ℕ} {v w : TextCounts} {s r : List Terminal} {xs : List Stmt} → IsFirst c l v w s r xs → (k : SymbolStack) → run_parser c s (First l ∷ k) v ≡ run_parser c r k w
first_runs is.no_first k = refl
first_runs {l = l} {v = v} (is.first_declare h d) k = rw h (declared_runs (at_level l v) d k)
first_runs {l = l} {v = v} (is.first_assign h d) k = rw h (whole_runs (at_level l v) d (Fixed punctuation.Semicolon ∷ k))

pub step_runs : {c : Limits} {l : ℕ} {v w : TextCounts} {s r : List Terminal} {xs : List Stmt} → IsStep c l v w s r xs → (k : SymbolStack) → run_parser c s (Step l ∷ k) v ≡ run_parser c r k w
step_runs is.no_step k = refl
step_runs {l = l} {v = v} (is.step h d) k = rw h (whole_runs (at_level l v) d (Fixed punctuation.RightParen ∷ k))

-- where the text is of version 2
number_wanted : (c : Limits) (p : Place) (s : List Terminal) (l : ℕ) (k : SymbolStack) (w : TextCounts) → w.two ≡ true
    → run_parser c (Sign g.LeftParen p ∷ s) (ThrowRest l ∷ k) w ≡ run_parser c s (Expression l ∷ Operators l ∷ Fixed punctuation.RightParen ∷ Fixed punctuation.Semicolon ∷ k) w
number_wanted c p s l k w two =
    ap (λ b. run_on c (Sign g.LeftParen p) s (if b then go (Expression l ∷ Operators l ∷ Fixed punctuation.RightParen ∷ Fixed punctuation.Semicolon ∷ k) w else None)) two

pub throw_rest_runs : {c : Limits} {l : ℕ} {v w : TextCounts} {s r : List Terminal} {x : Option Expr} → IsThrowRest c l v w s r x → (k : SymbolStack) → run_parser c s (ThrowRest l ∷ k) v ≡ run_parser c r k w
throw_rest_runs is.no_number k = refl
throw_rest_runs {c = c} {l = l} {v = v} (is.thrown_number {p = p} {s = s} two d) k = number_wanted c p s l k v two ∙ whole_runs v d (Fixed punctuation.RightParen ∷ Fixed punctuation.Semicolon ∷ k)

pub catch_rest_runs : {c : Limits} {v w : TextCounts} {s r : List Terminal} {x : Option (List ℕ)} → IsCatchRest c v w s r x → (k : SymbolStack) → run_parser c s (CatchRest ∷ k) v ≡ run_parser c r k w
catch_rest_runs is.no_variable k = refl
catch_rest_runs (is.catch_variable two h) k = rw two (rw h refl)

-- a plain statement begins with no brace
pub plain_begins : {c : Limits} {l : ℕ} {v w : TextCounts} {s r : List Terminal} {xs : List Stmt} → IsPlain c l v w s r xs → (is_left_brace (first s) ≡ false) × (is_right_brace (first s) ≡ false)
plain_begins is.empty = (refl, refl)
plain_begins (is.declare d) = (refl, refl)
plain_begins (is.assign d) = (refl, refl)
plain_begins is.assign_next = (refl, refl)
plain_begins is.get = (refl, refl)
plain_begins is.next = (refl, refl)
plain_begins (is.next_assign d) = (refl, refl)
plain_begins (is.put d) = (refl, refl)
plain_begins (is.if_alone d b h) = (refl, refl)
plain_begins (is.if_else d b e) = (refl, refl)
plain_begins (is.while d b) = (refl, refl)
plain_begins (is.for_loop a d e b) = (refl, refl)
plain_begins (is.call d h) = (refl, refl)
plain_begins (is.call_fork d b) = (refl, refl)
plain_begins (is.try b h d) = (refl, refl)
plain_begins (is.throw d) = (refl, refl)

pub stmt_begins : {c : Limits} {l : ℕ} {v w : TextCounts} {s r : List Terminal} {xs : List Stmt} → IsStmt c l v w s r xs → is_right_brace (first s) ≡ false
stmt_begins (is.block b h) = refl
stmt_begins (is.block_fork b d) = refl
stmt_begins (is.plain d) = (plain_begins d).1

pub block_open : {c : Limits} {l : ℕ} {v w : TextCounts} {s r : List Terminal} {xs : List Stmt} → IsStmt c l v w s r xs → (j : ℕ) (u : TextCounts) (k : SymbolStack)
    → run_parser c s (Block j ∷ k) u ≡ run_parser c s (Statement j ∷ Block j ∷ k) u
block_open {c = c} {s = s} d j u k = block_skips c s j u k (stmt_begins d)

pub body_open : {c : Limits} {l : ℕ} {v w : TextCounts} {s r : List Terminal} {xs : List Stmt} → IsPlain c l v w s r xs → (j : ℕ) (u : TextCounts) (k : SymbolStack)
    → run_parser c s (Body j ∷ k) u ≡ run_parser c s (Statement j ∷ k) u
body_open {c = c} {s = s} d j u k = body_skips c s j u k (plain_begins d).0

-- a run over a statement that may begin, and was counted
abbrev pub run_begun : Limits → List Terminal → ℕ → SymbolStack → TextCounts → ParseEnd
run_begun c [] l k v = AllTaken
run_begun c (x ∷ s) l k v = run_on c x s (statement x l k v)

pub statement_runs : (c : Limits) (s : List Terminal) (l : ℕ) (v : TextCounts) (k : SymbolStack) → c s Nesting l ≡ true → run_parser c s (Statement l ∷ k) v ≡ run_begun c s l k (at_level l v)
statement_runs c [] l v k h = refl
statement_runs c (x ∷ s) l v k h = asked c x s Nesting l (statement x l k (at_level l v)) h

stmt_open : {c : Limits} {l : ℕ} {w : TextCounts} {s r : List Terminal} {xs : List Stmt} (v : TextCounts) → c s Nesting l ≡ true → IsStmt c l (at_level l v) w s r xs → (k : SymbolStack)
    → run_parser c s (Statement l ∷ k) v ≡ run_begun c s l k (at_level l v)
stmt_open {c = c} {l = l} {s = s} v h d k = statement_runs c s l v k h

plain_open : {c : Limits} {l : ℕ} {w : TextCounts} {s r : List Terminal} {xs : List Stmt} (v : TextCounts) → c s Nesting l ≡ true → IsPlain c l (at_level l v) w s r xs → (k : SymbolStack)
    → run_parser c s (Statement l ∷ k) v ≡ run_begun c s l k (at_level l v)
plain_open {c = c} {l = l} {s = s} v h d k = statement_runs c s l v k h

mutual
  pub block_runs : {c : Limits} {l : ℕ} {v w : TextCounts} {s r : List Terminal} {xs : List Stmt} → IsBlock c l v w s r xs → (k : SymbolStack) → run_parser c s (Block l ∷ k) v ≡ run_parser c r k w
  block_runs is.block_end k = refl
  block_runs {l = l} {v = v} (is.stmt h d b) k = block_open d l v k ∙ stmt_open v h d (Block l ∷ k) ∙ begun_runs d (Block l ∷ k) ∙ block_runs b k

  pub begun_runs : {c : Limits} {l : ℕ} {v w : TextCounts} {s r : List Terminal} {xs : List Stmt} → IsStmt c l v w s r xs → (k : SymbolStack) → run_begun c s l k v ≡ run_parser c r k w
  begun_runs {c = c} {l = l} {w = w} {r = r} (is.block b e) k = block_runs b (Pars l 1 ∷ k) ∙ pars_skips c r l 1 w k e
  begun_runs {l = l} (is.block_fork b d) k = block_runs b (Pars l 1 ∷ k) ∙ branches_runs d k
  begun_runs (is.plain d) k = plain_begun_runs d k

  pub body_runs : {c : Limits} {l : ℕ} {v w : TextCounts} {s r : List Terminal} {xs : List Stmt} → IsBody c l v w s r xs → (k : SymbolStack) → run_parser c s (Body l ∷ k) v ≡ run_parser c r k w
  body_runs {c = c} {l = l} {v = v} {r = r} (is.body_block {w = w} b h) k = block_runs b (AfterBody l v.deepest ∷ k) ∙ after_body_skips c r l v.deepest w k h
  body_runs {l = l} {v = v} (is.body_fork b h d) k = block_runs b (AfterBody l v.deepest ∷ k) ∙ rw h (branches_runs d k)
  body_runs {l = l} {v = v} (is.body_plain h d) k = body_open d l v k ∙ plain_open v h d k ∙ plain_begun_runs d k

  pub plain_begun_runs : {c : Limits} {l : ℕ} {v w : TextCounts} {s r : List Terminal} {xs : List Stmt} → IsPlain c l v w s r xs → (k : SymbolStack) → run_begun c s l k v ≡ run_parser c r k w
  plain_begun_runs is.empty k = refl
  plain_begun_runs (is.declare d) k = declarations_runs d k
  plain_begun_runs {v = v} (is.assign d) k = equal_runs v d k
  plain_begun_runs is.assign_next k = refl
  plain_begun_runs is.get k = refl
  plain_begun_runs is.next k = refl
  plain_begun_runs {v = v} (is.next_assign d) k = whole_runs v d (Fixed punctuation.Semicolon ∷ k)
  plain_begun_runs {v = v} (is.put d) k = whole_runs v d (Fixed punctuation.Semicolon ∷ k)
  plain_begun_runs {c = c} {l = l} {v = v} {w = w} {r = r} (is.if_alone d b e) k = whole_runs v d (Fixed punctuation.RightParen ∷ Body (suc l) ∷ Else (suc l) ∷ k) ∙ body_runs b (Else (suc l) ∷ k)
      ∙ else_skips c r (suc l) w k e
  plain_begun_runs {l = l} {v = v} (is.if_else d b e) k = whole_runs v d (Fixed punctuation.RightParen ∷ Body (suc l) ∷ Else (suc l) ∷ k) ∙ body_runs b (Else (suc l) ∷ k) ∙ body_runs e k
  plain_begun_runs {l = l} {v = v} (is.while d b) k = whole_runs v d (Fixed punctuation.RightParen ∷ Body (suc l) ∷ k) ∙ body_runs b k
  plain_begun_runs {l = l} (is.for_loop a d e b) k = first_runs a (Test l ∷ Step (suc l) ∷ Body (suc l) ∷ k) ∙ test_runs d (Step (suc l) ∷ Body (suc l) ∷ k)
      ∙ step_runs e (Body (suc l) ∷ k) ∙ body_runs b k
  plain_begun_runs {c = c} {l = l} {w = w} {r = r} (is.call d e) k = arguments_runs d (Fixed punctuation.Semicolon ∷ Pars l 1 ∷ k) ∙ pars_skips c r l 1 w k e
  plain_begun_runs {l = l} (is.call_fork d b) k = arguments_runs d (Fixed punctuation.Semicolon ∷ Pars l 1 ∷ k) ∙ branches_runs b k
  plain_begun_runs {l = l} (is.try b h d) k = block_runs b (Fixed punctuation.Catch ∷ Fixed punctuation.LeftParen ∷ Word ∷ CatchRest ∷ Block (suc l) ∷ k)
      ∙ catch_rest_runs h (Block (suc l) ∷ k) ∙ block_runs d k
  plain_begun_runs (is.throw d) k = throw_rest_runs d k

  pub branches_runs : {c : Limits} {l n : ℕ} {v w : TextCounts} {s r : List Terminal} {bs : List BranchTree} → IsBranches c l n v w s r bs → (k : SymbolStack)
      → run_parser c s (Branch l (suc n) ∷ Pars l (suc n) ∷ k) v ≡ run_parser c r k w
  branches_runs {c = c} {l = l} {n = n} {w = w} {r = r} (is.last_branch h b e) k = branch_runs b (suc n) h (Pars l (suc n) ∷ k) ∙ pars_skips c r l (suc n) w k e
  branches_runs {l = l} {n = n} (is.branch h b d) k = branch_runs b (suc n) h (Pars l (suc n) ∷ k) ∙ branches_runs d k

  pub branch_runs : {c : Limits} {l : ℕ} {v w : TextCounts} {s r : List Terminal} {b : BranchTree} → IsBranch c l v w s r b → (n : ℕ) → c s (Count many.Branches) n ≡ true → (k : SymbolStack)
      → run_parser c s (Branch l n ∷ k) v ≡ run_parser c r k w
  branch_runs (is.block_branch d) n h k = rw h (block_runs d k)
  branch_runs (is.call_branch d) n h k = rw h (arguments_runs d (Fixed punctuation.Semicolon ∷ k))

pub stmt_runs : {c : Limits} {l : ℕ} {w : TextCounts} {s r : List Terminal} {xs : List Stmt} (v : TextCounts) → c s Nesting l ≡ true → IsStmt c l (at_level l v) w s r xs → (k : SymbolStack)
    → run_parser c s (Statement l ∷ k) v ≡ run_parser c r k w
stmt_runs v h d k = stmt_open v h d k ∙ begun_runs d k

parameter_runs : (c : Limits) {s r : List Terminal} {x : Param} → IsParam s r x → (n : ℕ) → c s (Count many.Parameters) n ≡ true → (w : TextCounts) (k : SymbolStack)
    → run_parser c s (Parameter n ∷ k) w ≡ run_parser c r (MoreParameters n ∷ k) w
parameter_runs c is.param n h w k = rw h refl
parameter_runs c is.reference n h w k = rw h refl

first_parameter_runs : (c : Limits) {s r : List Terminal} {x : Param} → IsParam s r x → c s (Count many.Parameters) 1 ≡ true → (w : TextCounts) (k : SymbolStack)
    → run_parser c s (Parameters ∷ k) w ≡ run_parser c r (MoreParameters 1 ∷ k) w
first_parameter_runs c is.param h w k = rw h refl
first_parameter_runs c is.reference h w k = rw h refl

pub more_params_runs : {c : Limits} {n : ℕ} {s r : List Terminal} {xs : List Param} → IsMoreParams c n s r xs → (w : TextCounts) (k : SymbolStack) → run_parser c s (MoreParameters n ∷ k) w ≡ run_parser c r k w
more_params_runs is.params_end w k = refl
more_params_runs {c = c} {n = n} (is.another_param h d t) w k = parameter_runs c d (suc n) h w k ∙ more_params_runs t w k

pub params_runs : {c : Limits} {s r : List Terminal} {xs : List Param} → IsParams c s r xs → (w : TextCounts) (k : SymbolStack) → run_parser c s (Parameters ∷ k) w ≡ run_parser c r k w
params_runs is.no_params w k = refl
params_runs is.void_params w k = refl
params_runs {c = c} (is.params h d t) w k = first_parameter_runs c d h w k ∙ more_params_runs t w k

pub more_throws_runs : {c : Limits} {n : ℕ} {s r : List Terminal} {xs : List (List ℕ)} → IsMoreThrows c n s r xs → (w : TextCounts) (k : SymbolStack) → run_parser c s (MoreThrows n ∷ k) w ≡ run_parser c r k w
more_throws_runs is.throws_end w k = refl
more_throws_runs (is.another_throws h t) w k = rw h (more_throws_runs t w k)

pub throws_runs : {c : Limits} {s r : List Terminal} {xs : List (List ℕ)} → IsThrows c s r xs → (w : TextCounts) (k : SymbolStack) → run_parser c s (Throws ∷ k) w ≡ run_parser c r k w
throws_runs is.no_throws w k = refl
throws_runs (is.throws h t) w k = rw h (more_throws_runs t w k)

pub function_runs : {c : Limits} {v w : TextCounts} {s r : List Terminal} {f : Function} → IsFunction c v w s r f → (n : ℕ) → c s (Count many.Functions) (suc n) ≡ true → (k : SymbolStack)
    → run_parser c s (Functions n ∷ k) v ≡ run_parser c r (Functions (suc n) ∷ k) w
function_runs {v = v} (is.function ps ts b) n h k =
    rw h (params_runs ps (new_function v) (Throws ∷ Block 1 ∷ Functions (suc n) ∷ k) ∙ throws_runs ts (new_function v) (Block 1 ∷ Functions (suc n) ∷ k) ∙ block_runs b (Functions (suc n) ∷ k))

pub functions_runs : {c : Limits} {n : ℕ} {v : TextCounts} {s r : List Terminal} {fs : List Function} → IsFunctions c n v s r fs → (u : TextCounts) × (run_parser c s (Functions n ∷ []) v ≡ run_parser c r [] u)
functions_runs {v = v} is.program_end = (v, refl)
functions_runs {n = n} (is.another_function h d t) = let e = functions_runs t in (e.0, function_runs d n h [] ∙ e.1)

-- functions begin as a source of version 1 does
source_begins : {c : Limits} {v : TextCounts} {s r : List Terminal} {fs : List Function} → IsFunctions c 0 v s r fs → run_parser c s (Source ∷ []) v ≡ run_parser c s (Functions 0 ∷ []) v
source_begins is.program_end = refl
source_begins (is.another_function h (is.function ps ts b) t) = refl

-- what is wanted of a header is taken
after : Limits → Terminal → List Terminal → Option Want → ParseEnd
after c x s o = elim o [ None ↦ At Unwanted (x ∷ s) | Some n ↦ judge c (x ∷ s) n.asks (run_parser c s n.stack n.counts) ]

shim_wanted : (x : Terminal) (k : SymbolStack) (w : TextCounts) → is_shim x ≡ true → wants (Source ∷ k) x w ≡ go (Version ∷ Fixed punctuation.Semicolon ∷ Functions 0 ∷ k) (in_version_2 w)
shim_wanted x k w e = rw e refl

two_wanted : (x : Terminal) (k : SymbolStack) (w : TextCounts) → is_two x ≡ true → wants (Version ∷ k) x w ≡ go k w
two_wanted x k w e = rw e refl

header_runs : (c : Limits) (x y : Terminal) (p : Place) (s : List Terminal) (w : TextCounts) → is_shim x ≡ true → is_two y ≡ true
    → run_parser c (x ∷ y ∷ Sign g.Semicolon p ∷ s) (Source ∷ []) w ≡ run_parser c s (Functions 0 ∷ []) (in_version_2 w)
unfolding after
header_runs c x y p s w shim two =
    ap (after c x (y ∷ Sign g.Semicolon p ∷ s)) (shim_wanted x [] w shim) ∙ ap (after c y (Sign g.Semicolon p ∷ s)) (two_wanted y (Fixed punctuation.Semicolon ∷ Functions 0 ∷ []) (in_version_2 w) two)

-- the terminals of a program are all taken
pub program_runs : {c : Limits} {s : List Terminal} {p : ProgramTree} → Derives c s p → run_parser c s (Source ∷ []) nothing_read ≡ AllTaken
program_runs (is.version_1 d) = source_begins d ∙ (functions_runs d).1
program_runs {c = c} (is.version_2 {x = x} {y = y} {p = p} {s = s} shim two d) = header_runs c x y p s nothing_read shim two ∙ (functions_runs d).1
