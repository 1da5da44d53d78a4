-- What the grammar reads has the names of the terminals that are taken for it, in their order.
use Rattle.std.proofs.Common.{ℕ, ◌≡◌, ◌∙◌, List, [], ◌∷◌, ◌++◌, true, Option, refl, sym, ap, append_assoc}
use Rattle.std.proofs.lemmas.List.{append-nil}
use Rattle.shim_base.specs.Tokens.{Place}
use Rattle.shim_base.specs.declared.token.Sign.TheVariants.{Semicolon}
use Rattle.shim_base.specs.declared.types.Ty.{Ty}
use Rattle.shim_base.specs.declared.operators.UnOp.TheVariants.{Neg, Not, Flip}
use Rattle.shim_syntax.specs.declared.tree.Expr.{Expr}
use Rattle.shim_syntax.specs.declared.tree.Stmt.{Stmt}
use Rattle.shim_syntax.specs.declared.tree.What.{What}
use Rattle.shim_syntax.specs.declared.tree.What.TheVariants as st
use Rattle.shim_syntax.specs.declared.tree.Branch.{Branch}
use Rattle.shim_syntax.specs.declared.tree.BranchWhat.TheVariants as br
use Rattle.shim_syntax.specs.declared.tree.Call.{Call}
use Rattle.shim_syntax.specs.declared.tree.Param.{Param}
use Rattle.shim_syntax.specs.declared.tree.Function.{Function}
use Rattle.shim_syntax.specs.declared.tree.Program.{Program}
use Rattle.shim_syntax.specs.Terminals.{Terminal, Name, Sign, is_shim, is_two}
use Rattle.shim_syntax.specs.Limits.{Limits}
use Rattle.shim_syntax.specs.Text.{IsText}
use Rattle.shim_syntax.specs.Grammar as is
use Rattle.shim_syntax.specs.Grammar.{TextCounts, operator_of_sign, IsExpr, IsChain, IsArguments, IsMoreArguments, IsDeclared, IsDeclarations, IsFirst, IsTest, IsStep, IsBlock, IsStmt, IsBody, IsPlain, IsBranches, IsBranch, IsThrowRest, IsCatchRest, IsParam, IsParams, IsMoreParams, IsThrows, IsMoreThrows, IsFunction, IsFunctions, Derives}
use Rattle.shim_syntax.specs.Names.{Texts, param_names}
use Rattle.shim_syntax.specs.Occurrences as occurs
use Rattle.shim_syntax.specs.Occurrences.{in_expr, in_exprs, in_option, in_call, in_stmt, in_function, identifiers}
use Rattle.shim_laws_binding.specs.TextNames.{names_among, of_functions}
use Rattle.shim_laws_binding.proofs.OccurrenceSteps.{in_number, in_variable, in_unary, in_binary, in_what, in_branch, in_stmts, in_branches, in_one, in_single, in_declare, in_assign, in_next, in_next_assign, in_assign_next, in_get, in_put, in_if, in_while, in_for, in_block, in_called, in_try, in_throw, in_par, in_block_branch, in_call_branch}

-- the terminals s begin with those of the names t, and r follows
abbrev Take : Texts → List Terminal → List Terminal → Type 0
Take t s r = names_among s ≡ t ++ names_among r

one_then : (a b : Texts) (s m r : List Terminal) → Take a s m → Take b m r → Take (a ++ b) s r
one_then a b s m r p q = p ∙ ap (λ l. a ++ l) q ∙ sym (append_assoc a b (names_among r))

are_those : (a b : Texts) (s r : List Terminal) → a ≡ b → Take b s r → Take a s r
are_those a b s r e p = p ∙ ap (λ l. l ++ names_among r) (sym e)

mutual
  expr_read : {c : Limits} {n l : ℕ} {v w : TextCounts} {s r : List Terminal} {x : Expr} → IsExpr c n l v w s r x → Take (in_expr x) s r
  expr_read (is.number {n = n} {p = p} {r = r}) = ap (λ l. l ++ names_among r) (sym (in_number n))
  expr_read (is.variable {x = x} {r = r}) = ap (λ l. l ++ names_among r) (sym (in_variable x))
  expr_read (is.parens h d) = expr_read d
  expr_read (is.negative {s = s} {r = r} {x = x} g h d) = are_those _ _ s r (in_unary Neg x) (expr_read d)
  expr_read (is.negation {s = s} {r = r} {x = x} g h d) = are_those _ _ s r (in_unary Not x) (expr_read d)
  expr_read (is.complement {s = s} {r = r} {x = x} g h d) = are_those _ _ s r (in_unary Flip x) (expr_read d)
  expr_read (is.row d t) = expr_read d ∙ chain_read t

  -- the operators of a row and what they join to the operand before them
  chain_read : {c : Limits} {n l : ℕ} {v w : TextCounts} {s r : List Terminal} {x y : Expr} → IsChain c n l v w s r x y → in_expr x ++ names_among s ≡ in_expr y ++ names_among r
  chain_read is.stop = refl
  chain_read (is.join {o = o} {m = m} {x = x} {y = y} e h d t) =
      ap (λ l. in_expr x ++ l) (expr_read d) ∙ sym (append_assoc (in_expr x) (in_expr y) (names_among m)) ∙ ap (λ l. l ++ names_among m) (sym (in_binary (operator_of_sign o) x y)) ∙ chain_read t

more_arguments_read : {c : Limits} {l n : ℕ} {v w : TextCounts} {s r : List Terminal} {xs : List Expr} → IsMoreArguments c l n v w s r xs → Take (in_exprs xs) s r
more_arguments_read is.arguments_end = refl
more_arguments_read (is.argument {s = s} {m = m} {r = r} {x = x} {xs = xs} h d t) = one_then (in_expr x) (in_exprs xs) s m r (expr_read d) (more_arguments_read t)

arguments_read : {c : Limits} {l : ℕ} {v w : TextCounts} {s r : List Terminal} {xs : List Expr} → IsArguments c l v w s r xs → Take (in_exprs xs) s r
arguments_read is.no_arguments = refl
arguments_read (is.arguments {s = s} {m = m} {r = r} {x = x} {xs = xs} h d t) = one_then (in_expr x) (in_exprs xs) s m r (expr_read d) (more_arguments_read t)

throw_rest_read : {c : Limits} {l : ℕ} {v w : TextCounts} {s r : List Terminal} {value : Option Expr} → IsThrowRest c l v w s r value → Take (in_option value) s r
throw_rest_read is.no_number = refl
throw_rest_read (is.thrown_number two d) = expr_read d

catch_read : {c : Limits} {v w : TextCounts} {s r : List Terminal} {y : Option (List ℕ)} → IsCatchRest c v w s r y → Take (occurs.in_variable y) s r
catch_read is.no_variable = refl
catch_read (is.catch_variable two h) = refl

declared_read : {c : Limits} {l : ℕ} {v w : TextCounts} {s r : List Terminal} {x : List ℕ} {value : Option Expr} → IsDeclared c l v w s r x value → Take (x ∷ in_option value) s r
declared_read (is.without_value h) = refl
declared_read (is.with_value {x = x} h d) = ap (λ l. x ∷ l) (expr_read d)

in_both : (xs ys : List Stmt) → in_stmts (xs ++ ys) ≡ in_stmts xs ++ in_stmts ys
in_both [] ys = refl
in_both (x ∷ xs) ys = ap (λ l. in_stmt x ++ l) (in_both xs ys) ∙ sym (append_assoc (in_stmt x) (in_stmts xs) (in_stmts ys))

-- one statement of a line
single : (line : ℕ) (x : What) (t : Texts) (s r : List Terminal) → in_what x ≡ t → Take t s r → Take (in_stmts (record { line = line; what = x } ∷ [])) s r
single line x t s r e p = are_those (in_stmts (record { line = line; what = x } ∷ [])) t s r (in_single line x t e) p

declarations_read : {c : Limits} {l line : ℕ} {ty : Ty} {v w : TextCounts} {s r : List Terminal} {xs : List Stmt} → IsDeclarations c l ty line v w s r xs → Take (in_stmts xs) s r
declarations_read (is.last_declared {line = line} {ty = ty} {s = s} {r = r} {x = x} {value = value} d) =
    single line (st.Declare ty x value) (x ∷ in_option value) s r (in_declare ty x value) (declared_read d)
declarations_read (is.declared {line = line} {ty = ty} {s = s} {m = m} {r = r} {x = x} {value = value} {xs = xs} d t) =
    one_then (in_stmt (record { line = line; what = st.Declare ty x value })) (in_stmts xs) s m r
    (are_those _ (x ∷ in_option value) s m (in_one line (st.Declare ty x value) (x ∷ in_option value) (in_declare ty x value)) (declared_read d)) (declarations_read t)

first_read : {c : Limits} {l : ℕ} {v w : TextCounts} {s r : List Terminal} {xs : List Stmt} → IsFirst c l v w s r xs → Take (in_stmts xs) s r
first_read is.no_first = refl
first_read (is.first_declare {ty = ty} {p = p} {s = s} {r = r} {x = x} {value = value} h d) = single p.line (st.Declare ty x value) (x ∷ in_option value) s r (in_declare ty x value) (declared_read d)
first_read (is.first_assign {x = x} {p = p} {q = q} {s = s} {r = r} {value = value} h d) =
    single p.line (st.Assign x value) (x ∷ in_expr value) (Name x p ∷ s) r (in_assign x value) (ap (λ l. x ∷ l) (expr_read d))

test_read : {c : Limits} {l : ℕ} {v w : TextCounts} {s r : List Terminal} {x : Option Expr} → IsTest c l v w s r x → Take (in_option x) s r
test_read is.no_test = refl
test_read (is.test d) = expr_read d

step_read : {c : Limits} {l : ℕ} {v w : TextCounts} {s r : List Terminal} {xs : List Stmt} → IsStep c l v w s r xs → Take (in_stmts xs) s r
step_read is.no_step = refl
step_read (is.step {x = x} {p = p} {s = s} {r = r} {value = value} h d) =
    single p.line (st.Assign x value) (x ∷ in_expr value) (Name x p ∷ s) r (in_assign x value) (ap (λ l. x ∷ l) (expr_read d))

-- a fork of one branch and more
fork : (line : ℕ) (b : Branch) (bs : List Branch) (t : Texts) (s m r : List Terminal) → in_branch b ≡ t → Take t s m → Take (in_branches bs) m r
    → Take (in_stmts (record { line = line; what = st.Par (b ∷ bs) } ∷ [])) s r
fork line b bs t s m r e p q = single line (st.Par (b ∷ bs)) (in_branch b ++ in_branches bs) s r (in_par (b ∷ bs)) (one_then (in_branch b) (in_branches bs) s m r (are_those (in_branch b) t s m e p) q)

abbrev call_of : List ℕ → List Expr → Call
call_of f xs = record { function = f; args = xs }

mutual
  block_read : {c : Limits} {l : ℕ} {v w : TextCounts} {s r : List Terminal} {xs : List Stmt} → IsBlock c l v w s r xs → Take (in_stmts xs) s r
  block_read is.block_end = refl
  block_read (is.stmt {s = s} {m = m} {r = r} {xs = xs} {ys = ys} h d t) = are_those _ _ s r (in_both xs ys) (one_then (in_stmts xs) (in_stmts ys) s m r (stmt_read d) (block_read t))

  stmt_read : {c : Limits} {l : ℕ} {v w : TextCounts} {s r : List Terminal} {xs : List Stmt} → IsStmt c l v w s r xs → Take (in_stmts xs) s r
  stmt_read (is.block {p = p} {s = s} {r = r} {xs = xs} d h) = single p.line (st.Block xs) (in_stmts xs) s r (in_block xs) (block_read d)
  stmt_read (is.block_fork {p = p} {s = s} {m = m} {r = r} {xs = xs} {bs = bs} d b) =
      fork p.line (record { line = p.line; what = br.Block xs }) bs (in_stmts xs) s m r (in_block_branch p.line xs) (block_read d) (branches_read b)
  stmt_read (is.plain d) = plain_read d

  body_read : {c : Limits} {l : ℕ} {v w : TextCounts} {s r : List Terminal} {xs : List Stmt} → IsBody c l v w s r xs → Take (in_stmts xs) s r
  body_read (is.body_block d h) = block_read d
  body_read (is.body_fork {p = p} {s = s} {m = m} {r = r} {xs = xs} {bs = bs} d h b) =
      fork p.line (record { line = p.line; what = br.Block xs }) bs (in_stmts xs) s m r (in_block_branch p.line xs) (block_read d) (branches_read b)
  body_read (is.body_plain h d) = plain_read d

  plain_read : {c : Limits} {l : ℕ} {v w : TextCounts} {s r : List Terminal} {xs : List Stmt} → IsPlain c l v w s r xs → Take (in_stmts xs) s r
  plain_read is.empty = refl
  plain_read (is.declare d) = declarations_read d
  plain_read (is.assign {x = x} {p = p} {s = s} {r = r} {value = value} d) =
      single p.line (st.Assign x value) (x ∷ in_expr value) (Name x p ∷ s) r (in_assign x value) (ap (λ l. x ∷ l) (expr_read d))
  plain_read (is.assign_next {x = x} {y = y} {p = p} {a = a} {r = r}) =
      single p.line (st.AssignNext x y) (x ∷ y ∷ []) (Name x p ∷ Name y a ∷ r) r (in_assign_next x y) refl
  plain_read (is.get {x = x} {y = y} {p = p} {a = a} {r = r}) = single p.line (st.Get x y) (x ∷ y ∷ []) (Name x p ∷ Name y a ∷ r) r (in_get x y) refl
  plain_read (is.next {x = x} {p = p} {q = q} {r = r}) = single p.line (st.Next x) (x ∷ []) (Name x q ∷ r) r (in_next x) refl
  plain_read (is.next_assign {x = x} {p = p} {q = q} {s = s} {r = r} {value = value} d) =
      single p.line (st.NextAssign x value) (x ∷ in_expr value) (Name x q ∷ s) r (in_next_assign x value) (ap (λ l. x ∷ l) (expr_read d))
  plain_read (is.put {x = x} {p = p} {q = q} {s = s} {r = r} {value = value} d) =
      single p.line (st.Put x value) (x ∷ in_expr value) (Name x q ∷ s) r (in_put x value) (ap (λ l. x ∷ l) (expr_read d))
  plain_read (is.if_alone {p = p} {s = s} {m = m} {r = r} {x = x} {xs = xs} d b h) =
      single p.line (st.If x xs []) (in_expr x ++ (in_stmts xs ++ [])) s r (in_if x xs [])
      (one_then (in_expr x) (in_stmts xs ++ []) s m r (expr_read d) (are_those (in_stmts xs ++ []) (in_stmts xs) m r (append-nil (in_stmts xs)) (body_read b)))
  plain_read (is.if_else {p = p} {s = s} {m = m} {i = i} {r = r} {x = x} {xs = xs} {ys = ys} d b a) =
      single p.line (st.If x xs ys) (in_expr x ++ (in_stmts xs ++ in_stmts ys)) s r (in_if x xs ys)
      (one_then (in_expr x) (in_stmts xs ++ in_stmts ys) s m r (expr_read d) (one_then (in_stmts xs) (in_stmts ys) m i r (body_read b) (body_read a)))
  plain_read (is.while {p = p} {s = s} {m = m} {r = r} {x = x} {xs = xs} d b) =
      single p.line (st.While x xs) (in_expr x ++ in_stmts xs) s r (in_while x xs) (one_then (in_expr x) (in_stmts xs) s m r (expr_read d) (body_read b))
  plain_read (is.for_loop {p = p} {s = s} {m = m} {i = i} {j = j} {r = r} {xs = xs} {ys = ys} {zs = zs} {x = x} f t n b) =
      single p.line (st.For xs x ys zs) (in_stmts xs ++ (in_option x ++ (in_stmts ys ++ in_stmts zs))) s r (in_for xs x ys zs)
      (one_then (in_stmts xs) (in_option x ++ (in_stmts ys ++ in_stmts zs)) s m r (first_read f)
      (one_then (in_option x) (in_stmts ys ++ in_stmts zs) m i r (test_read t) (one_then (in_stmts ys) (in_stmts zs) i j r (step_read n) (body_read b))))
  plain_read (is.call {f = f} {p = p} {s = s} {r = r} {xs = xs} d h) =
      single p.line (st.Call (call_of f xs)) (in_call (call_of f xs)) (Name f p ∷ s) r (in_called (call_of f xs)) (ap (λ l. f ∷ l) (arguments_read d))
  plain_read (is.call_fork {f = f} {p = p} {s = s} {m = m} {r = r} {xs = xs} {bs = bs} d b) =
      fork p.line (record { line = p.line; what = br.Call (call_of f xs) }) bs (in_call (call_of f xs)) (Name f p ∷ s) m r (in_call_branch p.line (call_of f xs)) (ap (λ l. f ∷ l) (arguments_read d)) (branches_read b)
  plain_read (is.try {x = x} {y = y} {p = p} {b = place} {s = s} {i = i} {m = m} {r = r} {xs = xs} {ys = ys} d c b) =
      single p.line (st.Try xs x y ys) (in_stmts xs ++ x ∷ (occurs.in_variable y ++ in_stmts ys)) s r (in_try xs x y ys)
      (one_then (in_stmts xs) (x ∷ (occurs.in_variable y ++ in_stmts ys)) s (Name x place ∷ i) r (block_read d)
      (ap (λ l. x ∷ l) (one_then (occurs.in_variable y) (in_stmts ys) i m r (catch_read c) (block_read b))))
  plain_read (is.throw {x = x} {p = p} {q = q} {s = s} {r = r} {value = a} d) =
      single p.line (st.Throw x a) (x ∷ in_option a) (Name x q ∷ s) r (in_throw x a) (ap (λ l. x ∷ l) (throw_rest_read d))

  branches_read : {c : Limits} {l n : ℕ} {v w : TextCounts} {s r : List Terminal} {bs : List Branch} → IsBranches c l n v w s r bs → Take (in_branches bs) s r
  branches_read (is.last_branch {s = s} {r = r} {b = b} h d a) = are_those (in_branches (b ∷ [])) (in_branch b) s r (append-nil (in_branch b)) (branch_read d)
  branches_read (is.branch {s = s} {m = m} {r = r} {b = b} {bs = bs} h d t) = one_then (in_branch b) (in_branches bs) s m r (branch_read d) (branches_read t)

  branch_read : {c : Limits} {l : ℕ} {v w : TextCounts} {s r : List Terminal} {b : Branch} → IsBranch c l v w s r b → Take (in_branch b) s r
  branch_read (is.block_branch {p = p} {s = s} {r = r} {xs = xs} d) = are_those (in_branch (record { line = p.line; what = br.Block xs })) (in_stmts xs) s r (in_block_branch p.line xs) (block_read d)
  branch_read (is.call_branch {f = f} {p = p} {s = s} {r = r} {xs = xs} d) =
      are_those (in_branch (record { line = p.line; what = br.Call (call_of f xs) })) (in_call (call_of f xs)) (Name f p ∷ s) r (in_call_branch p.line (call_of f xs)) (ap (λ l. f ∷ l) (arguments_read d))

param_read : {s r : List Terminal} {p : Param} → IsParam s r p → Take (p.name ∷ []) s r
param_read is.param = refl
param_read is.reference = refl

more_params_read : {c : Limits} {n : ℕ} {s r : List Terminal} {ps : List Param} → IsMoreParams c n s r ps → Take (param_names ps) s r
more_params_read is.params_end = refl
more_params_read (is.another_param {s = s} {m = m} {r = r} {x = x} {xs = xs} h d t) = one_then (x.name ∷ []) (param_names xs) s m r (param_read d) (more_params_read t)

params_read : {c : Limits} {s r : List Terminal} {ps : List Param} → IsParams c s r ps → Take (param_names ps) s r
params_read is.no_params = refl
params_read is.void_params = refl
params_read (is.params {s = s} {m = m} {r = r} {x = x} {xs = xs} h d t) = one_then (x.name ∷ []) (param_names xs) s m r (param_read d) (more_params_read t)

more_throws_read : {c : Limits} {n : ℕ} {s r : List Terminal} {xs : Texts} → IsMoreThrows c n s r xs → Take xs s r
more_throws_read is.throws_end = refl
more_throws_read (is.another_throws {x = x} h t) = ap (λ l. x ∷ l) (more_throws_read t)

throws_read : {c : Limits} {s r : List Terminal} {xs : Texts} → IsThrows c s r xs → Take xs s r
throws_read is.no_throws = refl
throws_read (is.throws {x = x} h t) = ap (λ l. x ∷ l) (more_throws_read t)

function_read : {c : Limits} {v w : TextCounts} {s r : List Terminal} {f : Function} → IsFunction c v w s r f → Take (in_function f) s r
function_read (is.function {f = f} {s = s} {m = m} {i = i} {r = r} {xs = xs} {ts = ts} {ys = ys} p t b) =
    ap (λ l. f ∷ l) (one_then (param_names xs) (ts ++ in_stmts ys) s m r (params_read p) (one_then ts (in_stmts ys) m i r (throws_read t) (block_read b)))

functions_read : {c : Limits} {n : ℕ} {v : TextCounts} {s r : List Terminal} {fs : List Function} → IsFunctions c n v s r fs → Take (identifiers fs) s r
functions_read is.program_end = refl
functions_read (is.another_function {s = s} {m = m} {r = r} {f = f} {fs = fs} h d t) = one_then (in_function f) (identifiers fs) s m r (function_read d) (functions_read t)

-- no function begins as version 2 does
no_header : {c : Limits} {n : ℕ} {v : TextCounts} {s r : List Terminal} {fs : List Function} → IsFunctions c n v s r fs → of_functions s ≡ s
no_header is.program_end = refl
no_header (is.another_function h (is.function p t b) f) = refl

header_passed : (x y : Terminal) (p : Place) (s : List Terminal) → is_shim x ≡ true → is_two y ≡ true → of_functions (x ∷ y ∷ Sign Semicolon p ∷ s) ≡ s
header_passed x y p s shim two = rw (shim, two) refl

program_read : {c : Limits} {ts : List Terminal} {p : Program} → Derives c ts p → names_among (of_functions ts) ≡ identifiers p.functions ++ []
program_read (is.version_1 d) = ap names_among (no_header d) ∙ functions_read d
program_read (is.version_2 {x = x} {y = y} {p = p} {s = s} shim two d) = ap names_among (header_passed x y p s shim two) ∙ functions_read d

pub identifiers_are_the_names_of_the_text : (bytes : List ℕ) (p : Program) (text : IsText bytes p) → identifiers p.functions ≡ names_among (of_functions text.terminals)
identifiers_are_the_names_of_the_text bytes p text = sym (program_read text.derives ∙ append-nil (identifiers p.functions))
