-- What is read is no longer than what stood before.
use Rattle.std.proofs.Common.{◌≡◌, ◌≤◌, ℕ, suc, List, [], ◌∷◌, length, Option, refl, ap, arith}
use Rattle.shim_base.specs.declared.types.Ty.{Ty}
use Rattle.shim_syntax.specs.declared.Expr.{Expr}
use Rattle.shim_syntax.specs.declared.Stmt.{Stmt}
use Rattle.shim_syntax.specs.declared.Branch.{Branch as BranchTree}
use Rattle.shim_syntax.specs.Terminals.{Terminal}
use Rattle.shim_syntax.specs.Limits.{limits}
use Rattle.shim_syntax.specs.Grammar as is
use Rattle.shim_syntax.specs.Grammar.{TextCounts, IsArguments, IsDeclarations, IsFirst, IsTest, IsStep, IsThrowRest, IsCatchRest, IsBlock, IsStmt, IsBody, IsPlain, IsBranches, IsBranch}
use Rattle.shim_grammar.specs.Machine.{SymbolStack, Arguments, Declarations, First, Test, Step, ThrowRest, CatchRest, Block, Body, Branch, Pars, run_parser}
use Rattle.shim_grammar.proofs.Judged.{left_of, shorter}
use Rattle.shim_grammar.proofs.Runs.{arguments_runs, test_runs}
use Rattle.shim_grammar.proofs.RunsStmt.{declarations_runs, first_runs, step_runs, throw_rest_runs, catch_rest_runs, block_runs, body_runs, branches_runs}
use Rattle.shim_parser.proofs.ExprExits.{expr_shorter}

nothing_left : (r : List Terminal) (w : TextCounts) → left_of (run_parser limits r [] w) ≡ r
nothing_left [] w = refl
nothing_left (t ∷ r) w = refl

within : (s r : List Terminal) (k : SymbolStack) (v w : TextCounts) → run_parser limits s k v ≡ run_parser limits r [] w → length r ≤ length s
within s r k v w e = omega (arith, shorter limits s k v, ap (λ h. length (left_of h)) e, ap (λ (u : List Terminal). length u) (nothing_left r w))

pub arguments_within : {l : ℕ} {v w : TextCounts} {s r : List Terminal} {xs : List Expr} → IsArguments limits l v w s r xs → length r ≤ length s
arguments_within {l = l} {v = v} {w = w} {s = s} {r = r} d = within s r (Arguments l ∷ []) v w (arguments_runs d [])

declarations_within : {l line : ℕ} {ty : Ty} {v w : TextCounts} {s r : List Terminal} {xs : List Stmt} → IsDeclarations limits l ty line v w s r xs → length r ≤ length s
declarations_within {l = l} {v = v} {w = w} {s = s} {r = r} d = within s r (Declarations l ∷ []) v w (declarations_runs d [])

first_within : {l : ℕ} {v w : TextCounts} {s r : List Terminal} {xs : List Stmt} → IsFirst limits l v w s r xs → length r ≤ length s
first_within {l = l} {v = v} {w = w} {s = s} {r = r} d = within s r (First l ∷ []) v w (first_runs d [])

test_within : {l : ℕ} {v w : TextCounts} {s r : List Terminal} {x : Option Expr} → IsTest limits l v w s r x → length r ≤ length s
test_within {l = l} {v = v} {w = w} {s = s} {r = r} d = within s r (Test l ∷ []) v w (test_runs d [])

step_within : {l : ℕ} {v w : TextCounts} {s r : List Terminal} {xs : List Stmt} → IsStep limits l v w s r xs → length r ≤ length s
step_within {l = l} {v = v} {w = w} {s = s} {r = r} d = within s r (Step l ∷ []) v w (step_runs d [])

throw_rest_within : {l : ℕ} {v w : TextCounts} {s r : List Terminal} {x : Option Expr} → IsThrowRest limits l v w s r x → length r ≤ length s
throw_rest_within {l = l} {v = v} {w = w} {s = s} {r = r} d = within s r (ThrowRest l ∷ []) v w (throw_rest_runs d [])

catch_rest_within : {v w : TextCounts} {s r : List Terminal} {x : Option (List ℕ)} → IsCatchRest limits v w s r x → length r ≤ length s
catch_rest_within {v = v} {w = w} {s = s} {r = r} d = within s r (CatchRest ∷ []) v w (catch_rest_runs d [])

pub block_within : {l : ℕ} {v w : TextCounts} {s r : List Terminal} {xs : List Stmt} → IsBlock limits l v w s r xs → length r ≤ length s
block_within {l = l} {v = v} {w = w} {s = s} {r = r} d = within s r (Block l ∷ []) v w (block_runs d [])

body_within : {l : ℕ} {v w : TextCounts} {s r : List Terminal} {xs : List Stmt} → IsBody limits l v w s r xs → length r ≤ length s
body_within {l = l} {v = v} {w = w} {s = s} {r = r} d = within s r (Body l ∷ []) v w (body_runs d [])

branches_within : {l n : ℕ} {v w : TextCounts} {s r : List Terminal} {bs : List BranchTree} → IsBranches limits l n v w s r bs → length r ≤ length s
branches_within {l = l} {n = n} {v = v} {w = w} {s = s} {r = r} d = within s r (Branch l (suc n) ∷ Pars l (suc n) ∷ []) v w (branches_runs d [])

pub branch_shorter : {l : ℕ} {v w : TextCounts} {s r : List Terminal} {b : BranchTree} → IsBranch limits l v w s r b → length r ≤ length s
branch_shorter (is.block_branch d) = omega (arith, block_within d)
branch_shorter (is.call_branch d) = omega (arith, arguments_within d)

plain_shorter : {l : ℕ} {v w : TextCounts} {s r : List Terminal} {xs : List Stmt} → IsPlain limits l v w s r xs → suc (length r) ≤ length s
plain_shorter is.empty = omega arith
plain_shorter (is.declare d) = omega (arith, declarations_within d)
plain_shorter (is.assign d) = omega (arith, expr_shorter d)
plain_shorter is.assign_next = omega arith
plain_shorter is.get = omega arith
plain_shorter is.next = omega arith
plain_shorter (is.next_assign d) = omega (arith, expr_shorter d)
plain_shorter (is.put d) = omega (arith, expr_shorter d)
plain_shorter (is.if_alone d b h) = omega (arith, expr_shorter d, body_within b)
plain_shorter (is.if_else d b c) = omega (arith, expr_shorter d, body_within b, body_within c)
plain_shorter (is.while d b) = omega (arith, expr_shorter d, body_within b)
plain_shorter (is.for_loop f t p b) = omega (arith, first_within f, test_within t, step_within p, body_within b)
plain_shorter (is.call d h) = omega (arith, arguments_within d)
plain_shorter (is.call_fork d b) = omega (arith, arguments_within d, branches_within b)
plain_shorter (is.try d h b) = omega (arith, block_within d, catch_rest_within h, block_within b)
plain_shorter (is.throw d) = omega (arith, throw_rest_within d)

pub stmt_shorter : {l : ℕ} {v w : TextCounts} {s r : List Terminal} {xs : List Stmt} → IsStmt limits l v w s r xs → suc (length r) ≤ length s
stmt_shorter (is.block d h) = omega (arith, block_within d)
stmt_shorter (is.block_fork d b) = omega (arith, block_within d, branches_within b)
stmt_shorter (is.plain d) = plain_shorter d
