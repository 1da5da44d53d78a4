-- A function of a text has no more parameters and declarations than the limits allow.
use Rattle.std.proofs.Common.{ℕ, suc, ◌+◌, ◌≡◌, ◌∙◌, ◌≤◌, true, List, [], ◌∷◌, ◌++◌, Option, length, map, nat_le, refl, ap, arith}
use Rattle.shim_base.specs.declared.types.Ty.{Ty}
use Rattle.shim_syntax.specs.declared.tree.Expr.{Expr}
use Rattle.shim_syntax.specs.declared.tree.Call.{Call as CallOf}
use Rattle.shim_syntax.specs.declared.tree.Stmt.{Stmt, fold-Stmt, fold-roll-Stmt}
use Rattle.shim_syntax.specs.declared.tree.What.{What, What-F, fold-What, fold-roll-What, map-What, roll-What}
use Rattle.shim_syntax.specs.declared.tree.What.TheVariants as st
use Rattle.shim_syntax.specs.declared.tree.Branch.{Branch, fold-Branch, fold-roll-Branch}
use Rattle.shim_syntax.specs.declared.tree.BranchWhat.{BranchWhat, BranchWhat-F, fold-BranchWhat, fold-roll-BranchWhat, map-BranchWhat, roll-BranchWhat}
use Rattle.shim_syntax.specs.declared.tree.BranchWhat.TheVariants as br
use Rattle.shim_syntax.specs.declared.tree.Param.{Param}
use Rattle.shim_syntax.specs.declared.tree.Function.{Function}
use Rattle.shim_syntax.specs.declared.tree.Program.{Program}
use Rattle.shim_syntax.specs.Terminals.{Terminal}
use Rattle.shim_syntax.specs.Limits.{limits}
use Rattle.shim_syntax.specs.Grammar as is
use Rattle.shim_syntax.specs.Grammar.{TextCounts, IsExpr, IsChain, IsArguments, IsMoreArguments, IsDeclared, IsDeclarations, IsFirst, IsTest, IsStep, IsBlock, IsStmt, IsBody, IsPlain, IsBranches, IsBranch, IsThrowRest, IsCatchRest, IsParams, IsMoreParams, IsFunction, IsFunctions, Derives}
use Rattle.shim_syntax.specs.Sizes.{sum_of, variable_size}

-- how many declarations there are in a statement's text

abbrev pub branch_counts : BranchWhat-F ℕ ℕ ℕ ℕ → ℕ
branch_counts (BranchWhat-F.BranchWhat::Block body) = sum_of body
branch_counts (BranchWhat-F.BranchWhat::Call c) = 0

abbrev pub what_counts : What-F ℕ ℕ ℕ ℕ → ℕ
what_counts (What-F.Declare ty x e) = 1
what_counts (What-F.If e first other) = sum_of first + sum_of other
what_counts (What-F.While e body) = sum_of body
what_counts (What-F.For first test step body) = sum_of first + (sum_of step + sum_of body)
what_counts (What-F.What::Block body) = sum_of body
what_counts (What-F.Try body x y handler) = sum_of body + (variable_size y + sum_of handler)
what_counts (What-F.Par branches) = sum_of branches
what_counts _ = 0

abbrev pub branch_what_locals : BranchWhat → ℕ
branch_what_locals = fold-BranchWhat ℕ ℕ ℕ ℕ branch_counts what_counts (λ b. b.what) (λ s. s.what)

abbrev pub what_locals : What → ℕ
what_locals = fold-What ℕ ℕ ℕ ℕ branch_counts what_counts (λ b. b.what) (λ s. s.what)

abbrev pub branch_locals : Branch → ℕ
branch_locals = fold-Branch ℕ ℕ ℕ ℕ branch_counts what_counts (λ b. b.what) (λ s. s.what)

abbrev pub stmt_locals : Stmt → ℕ
stmt_locals = fold-Stmt ℕ ℕ ℕ ℕ branch_counts what_counts (λ b. b.what) (λ s. s.what)

abbrev pub locals : List Stmt → ℕ
locals body = sum_of (map stmt_locals body)

abbrev pub fork_locals : List Branch → ℕ
fork_locals branches = sum_of (map branch_locals branches)

pub of_stmt : (s : Stmt) → stmt_locals s ≡ what_locals s.what
of_stmt s = fold-roll-Stmt ℕ ℕ ℕ ℕ branch_counts what_counts (λ b. b.what) (λ s. s.what) (record { line = s.line; what = s.what })

pub at_what : (y : What-F BranchWhat What Branch Stmt)
    → what_locals (roll-What y) ≡ what_counts (map-What BranchWhat What Branch Stmt ℕ ℕ ℕ ℕ branch_what_locals what_locals branch_locals stmt_locals y)
at_what y = fold-roll-What ℕ ℕ ℕ ℕ branch_counts what_counts (λ b. b.what) (λ s. s.what) y

pub of_branch : (b : Branch) → branch_locals b ≡ branch_what_locals b.what
of_branch b = fold-roll-Branch ℕ ℕ ℕ ℕ branch_counts what_counts (λ b. b.what) (λ s. s.what) (record { line = b.line; what = b.what })

pub at_branch : (y : BranchWhat-F BranchWhat What Branch Stmt)
    → branch_what_locals (roll-BranchWhat y) ≡ branch_counts (map-BranchWhat BranchWhat What Branch Stmt ℕ ℕ ℕ ℕ branch_what_locals what_locals branch_locals stmt_locals y)
at_branch y = fold-roll-BranchWhat ℕ ℕ ℕ ℕ branch_counts what_counts (λ b. b.what) (λ s. s.what) y

declare_locals : (ty : Ty) (x : List ℕ) (value : Option Expr) → what_locals (st.Declare ty x value) ≡ 1
unfolding roll-What denote.Hole.Carrier.roll
declare_locals ty x value = at_what (What-F.Declare ty x value)

if_locals : (a : Expr) (first other : List Stmt) → what_locals (st.If a first other) ≡ locals first + locals other
unfolding roll-What denote.Hole.Carrier.roll
if_locals a first other = at_what (What-F.If a first other)

while_locals : (a : Expr) (body : List Stmt) → what_locals (st.While a body) ≡ locals body
unfolding roll-What denote.Hole.Carrier.roll
while_locals a body = at_what (What-F.While a body)

for_locals : (first : List Stmt) (test : Option Expr) (step body : List Stmt) → what_locals (st.For first test step body) ≡ locals first + (locals step + locals body)
unfolding roll-What denote.Hole.Carrier.roll
for_locals first test step body = at_what (What-F.For first test step body)

block_locals : (body : List Stmt) → what_locals (st.Block body) ≡ locals body
unfolding roll-What denote.Hole.Carrier.roll
block_locals body = at_what (What-F.What::Block body)

try_locals : (body : List Stmt) (x : List ℕ) (y : Option (List ℕ)) (handler : List Stmt) → what_locals (st.Try body x y handler) ≡ locals body + (variable_size y + locals handler)
unfolding roll-What denote.Hole.Carrier.roll
try_locals body x y handler = at_what (What-F.Try body x y handler)

par_locals : (branches : List Branch) → what_locals (st.Par branches) ≡ fork_locals branches
unfolding roll-What denote.Hole.Carrier.roll
par_locals branches = at_what (What-F.Par branches)

-- statements that declare nothing

assign_locals : (x : List ℕ) (a : Expr) → what_locals (st.Assign x a) ≡ 0
unfolding roll-What denote.Hole.Carrier.roll
assign_locals x a = at_what (What-F.Assign x a)

next_locals : (x : List ℕ) → what_locals (st.Next x) ≡ 0
unfolding roll-What denote.Hole.Carrier.roll
next_locals x = at_what (What-F.Next x)

next_assign_locals : (x : List ℕ) (a : Expr) → what_locals (st.NextAssign x a) ≡ 0
unfolding roll-What denote.Hole.Carrier.roll
next_assign_locals x a = at_what (What-F.NextAssign x a)

assign_next_locals : (x y : List ℕ) → what_locals (st.AssignNext x y) ≡ 0
unfolding roll-What denote.Hole.Carrier.roll
assign_next_locals x y = at_what (What-F.AssignNext x y)

get_locals : (x y : List ℕ) → what_locals (st.Get x y) ≡ 0
unfolding roll-What denote.Hole.Carrier.roll
get_locals x y = at_what (What-F.Get x y)

put_locals : (x : List ℕ) (a : Expr) → what_locals (st.Put x a) ≡ 0
unfolding roll-What denote.Hole.Carrier.roll
put_locals x a = at_what (What-F.Put x a)

called_locals : (c : CallOf) → what_locals (st.Call c) ≡ 0
unfolding roll-What denote.Hole.Carrier.roll
called_locals c = at_what (What-F.What::Call c)

throw_locals : (x : List ℕ) (a : Option Expr) → what_locals (st.Throw x a) ≡ 0
unfolding roll-What denote.Hole.Carrier.roll
throw_locals x a = at_what (What-F.Throw x a)

block_branch_locals : (line : ℕ) (body : List Stmt) → branch_locals (record { line = line; what = br.Block body }) ≡ locals body
unfolding roll-BranchWhat denote.Hole.Carrier.roll
block_branch_locals line body = of_branch (record { line = line; what = br.Block body }) ∙ at_branch (BranchWhat-F.BranchWhat::Block body)

call_branch_locals : (line : ℕ) (c : CallOf) → branch_locals (record { line = line; what = br.Call c }) ≡ 0
unfolding roll-BranchWhat denote.Hole.Carrier.roll
call_branch_locals line c = of_branch (record { line = line; what = br.Call c }) ∙ at_branch (BranchWhat-F.BranchWhat::Call c)

-- one statement of a line
one : (line : ℕ) (w : What) → locals (record { line = line; what = w } ∷ []) ≡ what_locals w
one line w = omega (arith, of_stmt (record { line = line; what = w }))

joined : (xs ys : List Stmt) → locals (xs ++ ys) ≡ locals xs + locals ys
joined [] ys = omega arith
joined (x ∷ xs) ys = omega (arith, joined xs ys)

-- between two places stand n declarations at the most, and the limit is kept
record Read (n before after : ℕ) : Type 0 where
  pub counted : before + n ≤ after
  pub most : before ≤ 64 → after ≤ 64

nothing : (v w : ℕ) → w ≡ v → Read 0 v w
nothing v w e = record { counted = omega (arith, e); most = λ h. omega (arith, e, h) }

then : (m n v u w : ℕ) → Read m v u → Read n u w → Read (m + n) v w
then m n v u w a b = record { counted = omega (arith, a.counted, b.counted); most = λ h. b.most (a.most h) }

counts : (m n v w : ℕ) → n ≡ m → Read m v w → Read n v w
counts m n v w e a = record { counted = omega (arith, e, a.counted); most = a.most }

-- what was counted before is the same
begins : (n v u w : ℕ) → u ≡ v → Read n u w → Read n v w
begins n v u w e a = record { counted = omega (arith, e, a.counted); most = λ h. a.most (omega (arith, e, h)) }

slot_map : (m n : ℕ) → nat_le m n ≡ true → m ≤ n
slot_map m n h = grind (arith, h)

mutual
  expr_locals : {n l : ℕ} {v w : TextCounts} {s r : List Terminal} {x : Expr} → IsExpr limits n l v w s r x → w.locals ≡ v.locals
  expr_locals is.number = refl
  expr_locals is.variable = refl
  expr_locals (is.parens h d) = expr_locals d
  expr_locals (is.negative g h d) = expr_locals d
  expr_locals (is.negation g h d) = expr_locals d
  expr_locals (is.complement g h d) = expr_locals d
  expr_locals (is.row d t) = chain_locals t ∙ expr_locals d

  chain_locals : {n l : ℕ} {v w : TextCounts} {s r : List Terminal} {x y : Expr} → IsChain limits n l v w s r x y → w.locals ≡ v.locals
  chain_locals is.stop = refl
  chain_locals (is.join e h d t) = chain_locals t ∙ expr_locals d

more_arguments_locals : {l n : ℕ} {v w : TextCounts} {s r : List Terminal} {xs : List Expr} → IsMoreArguments limits l n v w s r xs → w.locals ≡ v.locals
more_arguments_locals is.arguments_end = refl
more_arguments_locals (is.argument h d t) = more_arguments_locals t ∙ expr_locals d

arguments_locals : {l : ℕ} {v w : TextCounts} {s r : List Terminal} {xs : List Expr} → IsArguments limits l v w s r xs → w.locals ≡ v.locals
arguments_locals is.no_arguments = refl
arguments_locals (is.arguments h d t) = more_arguments_locals t ∙ expr_locals d

next_local : (v w : ℕ) → nat_le (suc v) 64 ≡ true → w ≡ suc v → Read 1 v w
next_local v w h e = record { counted = omega (arith, e); most = λ k. omega (arith, e, slot_map (suc v) 64 h) }

declared_locals : {l : ℕ} {v w : TextCounts} {s r : List Terminal} {x : List ℕ} {value : Option Expr} → IsDeclared limits l v w s r x value → Read 1 v.locals w.locals
declared_locals (is.without_value h) = next_local _ _ h refl
declared_locals (is.with_value h d) = next_local _ _ h (expr_locals d)

declarations_locals : {l line : ℕ} {ty : Ty} {v w : TextCounts} {s r : List Terminal} {xs : List Stmt} → IsDeclarations limits l ty line v w s r xs → Read (locals xs) v.locals w.locals
declarations_locals (is.last_declared {line = line} {ty = ty} {x = x} {value = value} d) =
    counts _ _ _ _ (one line (st.Declare ty x value) ∙ declare_locals ty x value) (declared_locals d)
declarations_locals (is.declared {line = line} {ty = ty} {x = x} {value = value} {xs = xs} d t) =
    counts _ _ _ _ (ap (λ k. k + locals xs) (of_stmt (record { line = line; what = st.Declare ty x value }) ∙ declare_locals ty x value)) (then _ _ _ _ _ (declared_locals d) (declarations_locals t))

first_locals : {l : ℕ} {v w : TextCounts} {s r : List Terminal} {xs : List Stmt} → IsFirst limits l v w s r xs → Read (locals xs) v.locals w.locals
first_locals is.no_first = nothing _ _ refl
first_locals (is.first_declare {ty = ty} {p = p} {x = x} {value = value} h d) = counts _ _ _ _ (one p.line (st.Declare ty x value) ∙ declare_locals ty x value) (declared_locals d)
first_locals (is.first_assign {x = x} {p = p} {value = value} h d) = counts _ _ _ _ (one p.line (st.Assign x value) ∙ assign_locals x value) (nothing _ _ (expr_locals d))

test_locals : {l : ℕ} {v w : TextCounts} {s r : List Terminal} {x : Option Expr} → IsTest limits l v w s r x → w.locals ≡ v.locals
test_locals is.no_test = refl
test_locals (is.test d) = expr_locals d

step_locals : {l : ℕ} {v w : TextCounts} {s r : List Terminal} {xs : List Stmt} → IsStep limits l v w s r xs → Read (locals xs) v.locals w.locals
step_locals is.no_step = nothing _ _ refl
step_locals (is.step {x = x} {p = p} {value = value} h d) = counts _ _ _ _ (one p.line (st.Assign x value) ∙ assign_locals x value) (nothing _ _ (expr_locals d))

throw_rest_locals : {l : ℕ} {v w : TextCounts} {s r : List Terminal} {value : Option Expr} → IsThrowRest limits l v w s r value → w.locals ≡ v.locals
throw_rest_locals is.no_number = refl
throw_rest_locals (is.thrown_number two d) = expr_locals d

catch_locals : {v w : TextCounts} {s r : List Terminal} {y : Option (List ℕ)} → IsCatchRest limits v w s r y → Read (variable_size y) v.locals w.locals
catch_locals is.no_variable = nothing _ _ refl
catch_locals (is.catch_variable two h) = next_local _ _ h refl

-- a fork whose first branch was read before the others
fork : (line : ℕ) (b : Branch) (bs : List Branch) (m v u w : ℕ) → branch_locals b ≡ m → Read m v u → Read (fork_locals bs) u w → Read (locals (record { line = line; what = st.Par (b ∷ bs) } ∷ [])) v w
fork line b bs m v u w e first others = counts _ _ _ _ (one line (st.Par (b ∷ bs)) ∙ par_locals (b ∷ bs) ∙ ap (λ k. k + fork_locals bs) e) (then m _ v u w first others)

mutual
  block_read : {l : ℕ} {v w : TextCounts} {s r : List Terminal} {xs : List Stmt} → IsBlock limits l v w s r xs → Read (locals xs) v.locals w.locals
  block_read is.block_end = nothing _ _ refl
  block_read (is.stmt {xs = xs} {ys = ys} h d t) = counts _ _ _ _ (joined xs ys) (then _ _ _ _ _ (stmt_read d) (block_read t))

  stmt_read : {l : ℕ} {v w : TextCounts} {s r : List Terminal} {xs : List Stmt} → IsStmt limits l v w s r xs → Read (locals xs) v.locals w.locals
  stmt_read (is.block {p = p} {xs = xs} d h) = counts _ _ _ _ (one p.line (st.Block xs) ∙ block_locals xs) (block_read d)
  stmt_read (is.block_fork {p = p} {xs = xs} {bs = bs} d b) = fork p.line (record { line = p.line; what = br.Block xs }) bs _ _ _ _ (block_branch_locals p.line xs) (block_read d) (branches_read b)
  stmt_read (is.plain d) = plain_read d

  body_read : {l : ℕ} {v w : TextCounts} {s r : List Terminal} {xs : List Stmt} → IsBody limits l v w s r xs → Read (locals xs) v.locals w.locals
  body_read (is.body_block d h) = block_read d
  body_read (is.body_fork {p = p} {xs = xs} {bs = bs} d h b) = fork p.line (record { line = p.line; what = br.Block xs }) bs _ _ _ _ (block_branch_locals p.line xs) (block_read d) (branches_read b)
  body_read (is.body_plain h d) = plain_read d

  plain_read : {l : ℕ} {v w : TextCounts} {s r : List Terminal} {xs : List Stmt} → IsPlain limits l v w s r xs → Read (locals xs) v.locals w.locals
  plain_read is.empty = nothing _ _ refl
  plain_read (is.declare d) = declarations_locals d
  plain_read (is.assign {x = x} {p = p} {value = value} d) = counts _ _ _ _ (one p.line (st.Assign x value) ∙ assign_locals x value) (nothing _ _ (expr_locals d))
  plain_read (is.assign_next {x = x} {y = y} {p = p}) = counts _ _ _ _ (one p.line (st.AssignNext x y) ∙ assign_next_locals x y) (nothing _ _ refl)
  plain_read (is.get {x = x} {y = y} {p = p}) = counts _ _ _ _ (one p.line (st.Get x y) ∙ get_locals x y) (nothing _ _ refl)
  plain_read (is.next {x = x} {p = p}) = counts _ _ _ _ (one p.line (st.Next x) ∙ next_locals x) (nothing _ _ refl)
  plain_read (is.next_assign {x = x} {p = p} {value = value} d) = counts _ _ _ _ (one p.line (st.NextAssign x value) ∙ next_assign_locals x value) (nothing _ _ (expr_locals d))
  plain_read (is.put {x = x} {p = p} {value = value} d) = counts _ _ _ _ (one p.line (st.Put x value) ∙ put_locals x value) (nothing _ _ (expr_locals d))
  plain_read (is.if_alone {p = p} {x = x} {xs = xs} d b h) =
      counts _ _ _ _ (one p.line (st.If x xs []) ∙ if_locals x xs []) (then _ _ _ _ _ (begins _ _ _ _ (expr_locals d) (body_read b)) (nothing _ _ refl))
  plain_read (is.if_else {p = p} {x = x} {xs = xs} {ys = ys} d b a) =
      counts _ _ _ _ (one p.line (st.If x xs ys) ∙ if_locals x xs ys) (then _ _ _ _ _ (begins _ _ _ _ (expr_locals d) (body_read b)) (body_read a))
  plain_read (is.while {p = p} {x = x} {xs = xs} d b) = counts _ _ _ _ (one p.line (st.While x xs) ∙ while_locals x xs) (begins _ _ _ _ (expr_locals d) (body_read b))
  plain_read (is.for_loop {p = p} {xs = xs} {ys = ys} {zs = zs} {x = x} f t n b) =
      counts _ _ _ _ (one p.line (st.For xs x ys zs) ∙ for_locals xs x ys zs) (then _ _ _ _ _ (first_locals f) (begins _ _ _ _ (test_locals t) (then _ _ _ _ _ (step_locals n) (body_read b))))
  plain_read (is.call {f = f} {p = p} {xs = xs} d h) =
      counts _ _ _ _ (one p.line (st.Call (record { function = f; args = xs })) ∙ called_locals (record { function = f; args = xs })) (nothing _ _ (arguments_locals d))
  plain_read (is.call_fork {f = f} {p = p} {xs = xs} {bs = bs} d b) =
      fork p.line (record { line = p.line; what = br.Call (record { function = f; args = xs }) }) bs 0 _ _ _ (call_branch_locals p.line (record { function = f; args = xs })) (nothing _ _ (arguments_locals d)) (branches_read b)
  plain_read (is.try {x = x} {y = y} {p = p} {xs = xs} {ys = ys} d c b) =
      counts _ _ _ _ (one p.line (st.Try xs x y ys) ∙ try_locals xs x y ys) (then _ _ _ _ _ (block_read d) (then _ _ _ _ _ (catch_locals c) (block_read b)))
  plain_read (is.throw {x = x} {p = p} {value = value} d) = counts _ _ _ _ (one p.line (st.Throw x value) ∙ throw_locals x value) (nothing _ _ (throw_rest_locals d))

  branches_read : {l n : ℕ} {v w : TextCounts} {s r : List Terminal} {bs : List Branch} → IsBranches limits l n v w s r bs → Read (fork_locals bs) v.locals w.locals
  branches_read (is.last_branch {b = b} h d a) = counts _ _ _ _ (omega arith) (branch_read d)
  branches_read (is.branch h d t) = then _ _ _ _ _ (branch_read d) (branches_read t)

  branch_read : {l : ℕ} {v w : TextCounts} {s r : List Terminal} {b : Branch} → IsBranch limits l v w s r b → Read (branch_locals b) v.locals w.locals
  branch_read (is.block_branch {p = p} {xs = xs} d) = counts _ _ _ _ (block_branch_locals p.line xs) (block_read d)
  branch_read (is.call_branch {f = f} {p = p} {xs = xs} d) = counts _ _ _ _ (call_branch_locals p.line (record { function = f; args = xs })) (nothing _ _ (arguments_locals d))

more_params_read : {n : ℕ} {s r : List Terminal} {ps : List Param} → IsMoreParams limits n s r ps → n ≤ 32 → n + length ps ≤ 32
more_params_read is.params_end h = omega (arith, h)
more_params_read (is.another_param h d t) low = omega (arith, more_params_read t (slot_map _ 32 h))

params_read : {s r : List Terminal} {ps : List Param} → IsParams limits s r ps → length ps ≤ 32
params_read is.no_params = omega arith
params_read is.void_params = omega arith
params_read (is.params h d t) = omega (arith, more_params_read t (slot_map 1 32 h))

-- the parameters and declarations of a function are 96 at the most
abbrev pub IsNarrow : Function → Type 0
IsNarrow f = length f.params + locals f.body ≤ 96

abbrev pub AreNarrow : List Function → Type 0
AreNarrow [] = Unit {0}
AreNarrow (f ∷ fs) = IsNarrow f × AreNarrow fs

narrow : (ps : List Param) (body : List Stmt) (before after : ℕ) → before ≡ 0 → Read (locals body) before after → length ps ≤ 32 → length ps + locals body ≤ 96
narrow ps body before after e b p = let m : after ≤ 64 = b.most (omega (arith, e)) in omega (arith, e, b.counted, m, p)

function_read : {v w : TextCounts} {s r : List Terminal} {f : Function} → IsFunction limits v w s r f → IsNarrow f
function_read (is.function {xs = xs} {ys = ys} p t b) = narrow xs ys _ _ refl (block_read b) (params_read p)

functions_read : {n : ℕ} {v : TextCounts} {s r : List Terminal} {fs : List Function} → IsFunctions limits n v s r fs → AreNarrow fs
functions_read is.program_end = tt
functions_read (is.another_function h d t) = (function_read d, functions_read t)

pub program_read : {ts : List Terminal} {p : Program} → Derives limits ts p → AreNarrow p.functions
program_read (is.version_1 d) = functions_read d
program_read (is.version_2 shim two d) = functions_read d
