-- What the grammar reads is no larger than the terminals that are taken for it.
use Rattle.std.proofs.Common.{ℕ, suc, ◌+◌, ◌≡◌, ◌≤◌, List, [], ◌∷◌, ◌++◌, Option, length, arith}
use Rattle.shim_base.specs.declared.types.Ty.{Ty}
use Rattle.shim_base.specs.declared.operators.UnOp.TheVariants.{Neg, Not, Flip}
use Rattle.shim_syntax.specs.declared.tree.Expr.{Expr}
use Rattle.shim_syntax.specs.declared.tree.Stmt.{Stmt}
use Rattle.shim_syntax.specs.declared.tree.What.{What}
use Rattle.shim_syntax.specs.declared.tree.What.TheVariants as st
use Rattle.shim_syntax.specs.declared.tree.Branch.{Branch}
use Rattle.shim_syntax.specs.declared.tree.BranchWhat.TheVariants as br
use Rattle.shim_syntax.specs.declared.tree.Param.{Param}
use Rattle.shim_syntax.specs.declared.tree.Function.{Function}
use Rattle.shim_syntax.specs.declared.tree.Program.{Program}
use Rattle.shim_syntax.specs.Terminals.{Terminal}
use Rattle.shim_syntax.specs.Limits.{Limits}
use Rattle.shim_syntax.specs.Grammar as is
use Rattle.shim_syntax.specs.Grammar.{TextCounts, nothing_read, operator_of_sign, IsExpr, IsChain, IsArguments, IsMoreArguments, IsDeclared, IsDeclarations, IsFirst, IsTest, IsStep, IsThrowRest, IsCatchRest, IsBlock, IsStmt, IsBody, IsPlain, IsBranches, IsBranch, IsParam, IsParams, IsMoreParams, IsThrows, IsMoreThrows, IsFunction, IsFunctions, Derives}
use Rattle.shim_syntax.specs.Sizes.{expr_size, exprs_size, option_size, variable_size, what_size, stmts_size, branch_size, branches_size, function_size, functions_size}
use Rattle.shim_syntax.proofs.SizeSteps.{number_size, var_size, unary_size, binary_size, of_stmt, declare_size, assign_size, next_size, next_assign_size, assign_next_size, get_size, put_size, if_size, while_size, for_size, block_size, called_size, try_size, throw_size, par_size, block_branch_size, call_branch_size}

mutual
  pub expr_read : {c : Limits} {n l : ℕ} {v w : TextCounts} {s r : List Terminal} {x : Expr} → IsExpr c n l v w s r x → expr_size x + length r ≤ length s
  expr_read (is.number {n = n}) = omega (arith, number_size n)
  expr_read (is.variable {x = x}) = omega (arith, var_size x)
  expr_read (is.parens h d) = omega (arith, expr_read d)
  expr_read (is.negative {x = x} g h d) = omega (arith, expr_read d, unary_size Neg x)
  expr_read (is.negation {x = x} g h d) = omega (arith, expr_read d, unary_size Not x)
  expr_read (is.complement {x = x} g h d) = omega (arith, expr_read d, unary_size Flip x)
  expr_read (is.row d t) = omega (arith, expr_read d, chain_read t)

  -- the operators of a row and what they join to the operand before them
  chain_read : {c : Limits} {n l : ℕ} {v w : TextCounts} {s r : List Terminal} {x y : Expr} → IsChain c n l v w s r x y → expr_size y + length r ≤ expr_size x + length s
  chain_read is.stop = omega arith
  chain_read (is.join {o = o} {x = x} {y = y} e h d t) = omega (arith, expr_read d, chain_read t, binary_size (operator_of_sign o) x y)

more_arguments_read : {c : Limits} {l n : ℕ} {v w : TextCounts} {s r : List Terminal} {xs : List Expr} → IsMoreArguments c l n v w s r xs → suc (exprs_size xs + length r) ≤ length s
more_arguments_read is.arguments_end = omega arith
more_arguments_read (is.argument h d t) = omega (arith, expr_read d, more_arguments_read t)

arguments_read : {c : Limits} {l : ℕ} {v w : TextCounts} {s r : List Terminal} {xs : List Expr} → IsArguments c l v w s r xs → suc (exprs_size xs + length r) ≤ length s
arguments_read is.no_arguments = omega arith
arguments_read (is.arguments h d t) = omega (arith, expr_read d, more_arguments_read t)

declared_read : {c : Limits} {l : ℕ} {v w : TextCounts} {s r : List Terminal} {x : List ℕ} {value : Option Expr} → IsDeclared c l v w s r x value → suc (option_size value + length r) ≤ length s
declared_read (is.without_value h) = omega arith
declared_read (is.with_value h d) = omega (arith, expr_read d)

-- one statement of a line
one_size : (line : ℕ) (w : What) → stmts_size (record { line = line; what = w } ∷ []) ≡ what_size w
one_size line w = omega (arith, of_stmt (record { line = line; what = w }))

joined_size : (xs ys : List Stmt) → stmts_size (xs ++ ys) ≡ stmts_size xs + stmts_size ys
joined_size [] ys = omega arith
joined_size (x ∷ xs) ys = omega (arith, joined_size xs ys)

declarations_read : {c : Limits} {l line : ℕ} {ty : Ty} {v w : TextCounts} {s r : List Terminal} {xs : List Stmt} → IsDeclarations c l ty line v w s r xs → suc (stmts_size xs + length r) ≤ length s
declarations_read (is.last_declared {line = line} {ty = ty} {x = x} {value = value} d) = omega (arith, declared_read d, one_size line (st.Declare ty x value), declare_size ty x value)
declarations_read (is.declared {line = line} {ty = ty} {x = x} {value = value} d t) =
    omega (arith, declared_read d, declarations_read t, of_stmt (record { line = line; what = st.Declare ty x value }), declare_size ty x value)

first_read : {c : Limits} {l : ℕ} {v w : TextCounts} {s r : List Terminal} {xs : List Stmt} → IsFirst c l v w s r xs → suc (stmts_size xs + length r) ≤ length s
first_read is.no_first = omega arith
first_read (is.first_declare {ty = ty} {p = p} {x = x} {value = value} h d) = omega (arith, declared_read d, one_size p.line (st.Declare ty x value), declare_size ty x value)
first_read (is.first_assign {x = x} {p = p} {value = value} h d) = omega (arith, expr_read d, one_size p.line (st.Assign x value), assign_size x value)

test_read : {c : Limits} {l : ℕ} {v w : TextCounts} {s r : List Terminal} {x : Option Expr} → IsTest c l v w s r x → suc (option_size x + length r) ≤ length s
test_read is.no_test = omega arith
test_read (is.test d) = omega (arith, expr_read d)

step_read : {c : Limits} {l : ℕ} {v w : TextCounts} {s r : List Terminal} {xs : List Stmt} → IsStep c l v w s r xs → suc (stmts_size xs + length r) ≤ length s
step_read is.no_step = omega arith
step_read (is.step {x = x} {p = p} {value = value} h d) = omega (arith, expr_read d, one_size p.line (st.Assign x value), assign_size x value)

throw_rest_read : {c : Limits} {l : ℕ} {v w : TextCounts} {s r : List Terminal} {x : Option Expr} → IsThrowRest c l v w s r x → suc (option_size x + length r) ≤ length s
throw_rest_read is.no_number = omega arith
throw_rest_read (is.thrown_number h d) = omega (arith, expr_read d)

catch_rest_read : {c : Limits} {v w : TextCounts} {s r : List Terminal} {x : Option (List ℕ)} → IsCatchRest c v w s r x → suc (variable_size x + length r) ≤ length s
catch_rest_read is.no_variable = omega arith
catch_rest_read (is.catch_variable h d) = omega arith

mutual
  pub block_read : {c : Limits} {l : ℕ} {v w : TextCounts} {s r : List Terminal} {xs : List Stmt} → IsBlock c l v w s r xs → suc (stmts_size xs + length r) ≤ length s
  block_read is.block_end = omega arith
  block_read (is.stmt {xs = xs} {ys = ys} h d t) = omega (arith, stmt_read d, block_read t, joined_size xs ys)

  stmt_read : {c : Limits} {l : ℕ} {v w : TextCounts} {s r : List Terminal} {xs : List Stmt} → IsStmt c l v w s r xs → suc (stmts_size xs + length r) ≤ length s
  stmt_read (is.block {p = p} {xs = xs} d h) = omega (arith, block_read d, one_size p.line (st.Block xs), block_size xs)
  stmt_read (is.block_fork {p = p} {xs = xs} {bs = bs} d b) =
      omega (arith, block_read d, branches_read b, one_size p.line (st.Par (record { line = p.line; what = br.Block xs } ∷ bs)), par_size (record { line = p.line; what = br.Block xs } ∷ bs), block_branch_size p.line xs)
  stmt_read (is.plain d) = plain_read d

  body_read : {c : Limits} {l : ℕ} {v w : TextCounts} {s r : List Terminal} {xs : List Stmt} → IsBody c l v w s r xs → suc (stmts_size xs + length r) ≤ length s
  body_read (is.body_block d h) = omega (arith, block_read d)
  body_read (is.body_fork {p = p} {xs = xs} {bs = bs} d h b) =
      omega (arith, block_read d, branches_read b, one_size p.line (st.Par (record { line = p.line; what = br.Block xs } ∷ bs)), par_size (record { line = p.line; what = br.Block xs } ∷ bs), block_branch_size p.line xs)
  body_read (is.body_plain h d) = plain_read d

  plain_read : {c : Limits} {l : ℕ} {v w : TextCounts} {s r : List Terminal} {xs : List Stmt} → IsPlain c l v w s r xs → suc (stmts_size xs + length r) ≤ length s
  plain_read is.empty = omega arith
  plain_read (is.declare d) = omega (arith, declarations_read d)
  plain_read (is.assign {x = x} {p = p} {value = value} d) = omega (arith, expr_read d, one_size p.line (st.Assign x value), assign_size x value)
  plain_read (is.assign_next {x = x} {y = y} {p = p}) = omega (arith, one_size p.line (st.AssignNext x y), assign_next_size x y)
  plain_read (is.get {x = x} {y = y} {p = p}) = omega (arith, one_size p.line (st.Get x y), get_size x y)
  plain_read (is.next {x = x} {p = p}) = omega (arith, one_size p.line (st.Next x), next_size x)
  plain_read (is.next_assign {x = x} {p = p} {value = value} d) = omega (arith, expr_read d, one_size p.line (st.NextAssign x value), next_assign_size x value)
  plain_read (is.put {x = x} {p = p} {value = value} d) = omega (arith, expr_read d, one_size p.line (st.Put x value), put_size x value)
  plain_read (is.if_alone {p = p} {x = x} {xs = xs} d b h) = omega (arith, expr_read d, body_read b, one_size p.line (st.If x xs []), if_size x xs [])
  plain_read (is.if_else {p = p} {x = x} {xs = xs} {ys = ys} d b a) = omega (arith, expr_read d, body_read b, body_read a, one_size p.line (st.If x xs ys), if_size x xs ys)
  plain_read (is.while {p = p} {x = x} {xs = xs} d b) = omega (arith, expr_read d, body_read b, one_size p.line (st.While x xs), while_size x xs)
  plain_read (is.for_loop {p = p} {xs = xs} {ys = ys} {zs = zs} {x = x} f t n b) =
      omega (arith, first_read f, test_read t, step_read n, body_read b, one_size p.line (st.For xs x ys zs), for_size xs x ys zs)
  plain_read (is.call {f = f} {p = p} {xs = xs} d h) =
      omega (arith, arguments_read d, one_size p.line (st.Call (record { function = f; args = xs })), called_size (record { function = f; args = xs }))
  plain_read (is.call_fork {f = f} {p = p} {xs = xs} {bs = bs} d b) =
      omega (arith, arguments_read d, branches_read b, one_size p.line (st.Par (record { line = p.line; what = br.Call (record { function = f; args = xs }) } ∷ bs)), par_size (record { line = p.line; what = br.Call (record { function = f; args = xs }) } ∷ bs), call_branch_size p.line (record { function = f; args = xs }))
  plain_read (is.try {x = x} {y = y} {p = p} {xs = xs} {ys = ys} d h b) =
      omega (arith, block_read d, catch_rest_read h, block_read b, one_size p.line (st.Try xs x y ys), try_size xs x y ys)
  plain_read (is.throw {x = x} {p = p} {value = value} d) = omega (arith, throw_rest_read d, one_size p.line (st.Throw x value), throw_size x value)

  branches_read : {c : Limits} {l n : ℕ} {v w : TextCounts} {s r : List Terminal} {bs : List Branch} → IsBranches c l n v w s r bs → suc (branches_size bs + length r) ≤ length s
  branches_read (is.last_branch h d a) = omega (arith, branch_read d)
  branches_read (is.branch h d t) = omega (arith, branch_read d, branches_read t)

  branch_read : {c : Limits} {l : ℕ} {v w : TextCounts} {s r : List Terminal} {b : Branch} → IsBranch c l v w s r b → suc (branch_size b + length r) ≤ length s
  branch_read (is.block_branch {p = p} {xs = xs} d) = omega (arith, block_read d, block_branch_size p.line xs)
  branch_read (is.call_branch {f = f} {p = p} {xs = xs} d) = omega (arith, arguments_read d, call_branch_size p.line (record { function = f; args = xs }))

param_read : {s r : List Terminal} {p : Param} → IsParam s r p → suc (length r) ≤ length s
param_read is.param = omega arith
param_read is.reference = omega arith

more_params_read : {c : Limits} {n : ℕ} {s r : List Terminal} {ps : List Param} → IsMoreParams c n s r ps → length ps + length r ≤ length s
more_params_read is.params_end = omega arith
more_params_read (is.another_param h d t) = omega (arith, param_read d, more_params_read t)

params_read : {c : Limits} {s r : List Terminal} {ps : List Param} → IsParams c s r ps → length ps + length r ≤ length s
params_read is.no_params = omega arith
params_read is.void_params = omega arith
params_read (is.params h d t) = omega (arith, param_read d, more_params_read t)

more_throws_read : {c : Limits} {n : ℕ} {s r : List Terminal} {xs : List (List ℕ)} → IsMoreThrows c n s r xs → length xs + length r ≤ length s
more_throws_read is.throws_end = omega arith
more_throws_read (is.another_throws h t) = omega (arith, more_throws_read t)

throws_read : {c : Limits} {s r : List Terminal} {xs : List (List ℕ)} → IsThrows c s r xs → length xs + length r ≤ length s
throws_read is.no_throws = omega arith
throws_read (is.throws h t) = omega (arith, more_throws_read t)

pub function_read : {c : Limits} {v w : TextCounts} {s r : List Terminal} {f : Function} → IsFunction c v w s r f → function_size f + length r ≤ length s
function_read (is.function p t b) = omega (arith, params_read p, throws_read t, block_read b)

functions_read : {c : Limits} {n : ℕ} {v : TextCounts} {s r : List Terminal} {fs : List Function} → IsFunctions c n v s r fs → functions_size fs + length r ≤ length s
functions_read is.program_end = omega arith
functions_read (is.another_function h d t) = omega (arith, function_read d, functions_read t)

-- a program is no larger than its terminals
pub program_read : {c : Limits} {ts : List Terminal} {p : Program} → Derives c ts p → functions_size p.functions ≤ length ts
program_read (is.version_1 d) = omega (arith, functions_read d)
program_read (is.version_2 shim two d) = omega (arith, functions_read d)
