-- What is read adds no more slots and exceptions to a function than its size.
use Rattle.std.proofs.Common.{ℕ, suc, ◌+◌, ◌≡◌, ◌≤◌, List, [], ◌∷◌, Option, Some, None, Ok, length, map, sym, ap, subst, arith}
use Rattle.std.proofs.lemmas.List.{length-append}
use Rattle.shim_base.specs.declared.types.Ty.{Ty}
use Rattle.shim_base.specs.declared.types.Ty.TheVariants.{Int32}
use Rattle.shim_syntax.specs.declared.tree.Expr.{Expr}
use Rattle.shim_syntax.specs.declared.tree.Call.{Call}
use Rattle.shim_syntax.specs.declared.tree.Stmt.{Stmt}
use Rattle.shim_syntax.specs.declared.tree.What.{What, What-F, map-What, roll-What}
use Rattle.shim_syntax.specs.declared.tree.Branch.{Branch}
use Rattle.shim_syntax.specs.declared.tree.BranchWhat.{BranchWhat, BranchWhat-F, map-BranchWhat, roll-BranchWhat}
use Rattle.shim_scopes.specs.declared.fault.ScopeKind.{ScopeKind}
use Rattle.shim_scopes.specs.declared.fault.ScopeKind.TheVariants.{UnknownName, UnknownException, Twice, WrongKind}
use Rattle.shim_scopes.specs.declared.scope.LocalDeclaration.{LocalDeclaration}
use Rattle.shim_scopes.specs.declared.tree.RStmt.{RStmt}
use Rattle.shim_scopes.specs.declared.tree.RCall.{RCall}
use Rattle.shim_scopes.specs.declared.tree.RWhat.{RWhat}
use Rattle.shim_scopes.specs.declared.tree.RWhat.TheVariants.{Declare, Assign, Next, NextAssign, AssignNext, Get, Put, If, While, For, Try, Throw}
use Rattle.shim_syntax.specs.declared.tree.Sort.TheVariants.{Value}
use Rattle.std.specs.Option.{option_or}
use Rattle.shim_scopes.specs.Binding.{unknown, unknown_in_option, stream_in, stream_in_option, no_number, no_input, no_output, slot_of, placed, placed_option, exception_number, unhandled}
use Rattle.shim_syntax.specs.Names.{Texts, name_index}
use Rattle.shim_scopes.specs.declared.tree.UExpr.{UExpr}
use Rattle.shim_scopes.specs.Refusals.{refused_for}
use Rattle.shim_scopes.specs.Statements.{Whole, Around, Before, BoundTo, Bind, with_declaration, inside_block, opened, after_block, with_handled, tried, variable_declared, variable_slot, bind_handler, bind_declare, bind_store, bind_next, bind_assign_next, bind_get, bind_put, bind_throw, bind_block, on_tree, bind_two, bind_test, bind_if, bind_while, bind_try, bind_parts, bind_first_test, bind_for, visible, declared_in, unknown_in_both, unknown_of_two}
use Rattle.shim_scopes.specs.Calls.{bind_call, bind_called}
use Rattle.shim_scopes.specs.Bodies.{WhatMeans, StmtMeans, BranchWhatMeans, bind_fork, first_declares, stmt_meaning, bind_stmts, bind_branch}
use Rattle.shim_syntax.specs.Sizes.{sum_of, expr_size, option_size, variable_size, branch_counts, what_counts, what_size, stmt_size, branch_size, stmts_size}
use Rattle.shim_syntax.proofs.FormInduction.{InBranchWhat, InWhat, Each, each, each_stmt, each_branch}
use Rattle.shim_syntax.proofs.SizeSteps.{branch_what_size, of_branch, at_branch, of_stmt, at_what}
use Rattle.shim_scopes.proofs.MeaningSteps.{branch_what_means, what_means, branch_what_at, what_at, rolled_branch_what, rolled_what, branch_means, stmt_means}
use Rattle.shim_scopes.proofs.Refusals.{passed, first_ok, bound}

-- how many slots and exceptions stand before a place, without those of the `throws`
abbrev pub given : Before → ℕ
given b = length b.slots + length b.tries

-- where the part is bound, it adds so many at the most
abbrev pub AddsAtMost : {T : Type 0} → ℕ → Bind T → Type 0
AddsAtMost {T = T} n f = (a : Around) (b : Before) (r : BoundTo T) → f a b ≡ Ok r → given r.before ≤ given b + n

abbrev WhatAdds : ℕ → (ℕ → Bind RWhat) → Type 0
WhatAdds n f = (line : ℕ) → AddsAtMost n (f line)

behind_tree : {T : Type 0} (t : T) (b : Before) (r : BoundTo T) → bound t b ≡ Ok r → given r.before ≡ given b
behind_tree {T = T} t b r e = let s : BoundTo T = record { tree = t; before = b } in let p : s ≡ r = cc in ap (λ (s : BoundTo T). given s.before) (sym p)

-- a part that leaves what stands before it as it is
nothing_added : {T : Type 0} (t : T) (b : Before) (r : BoundTo T) (n : ℕ) → bound t b ≡ Ok r → given r.before ≤ given b + n
nothing_added t b r n e = omega (arith, behind_tree t b r e)

-- so it is where two questions come first
asked_two : (line : ℕ) (kind other : ScopeKind) (o p : Option (List ℕ)) (t : RWhat) (b : Before) (r : BoundTo RWhat) (n : ℕ)
    → refused_for line kind o (refused_for line other p (bound t b)) ≡ Ok r → given r.before ≤ given b + n
asked_two line kind other o p t b r n h = nothing_added t b r n (passed line other p _ r (passed line kind o _ r h))

declare_adds : (w : Whole) (ty : Ty) (x : List ℕ) (e : Option Expr) (n : ℕ) → WhatAdds (suc n) (bind_declare w ty x e)
declare_adds w ty x e n line a b r h =
    let p = passed line UnknownName (unknown_in_option (visible a b) e) _ r h in
    let q = passed line Twice (declared_in b.own x) _ r p in
    let s = passed line WrongKind (stream_in_option (visible a b) e) _ r q in
    omega (arith, behind_tree (Declare ty (length b.slots) (placed_option (visible a b) e)) (with_declaration w.names x (Value ty) b) r s, length-append b.slots (Value ty ∷ []))

store_adds : (g : ℕ → UExpr → RWhat) (x : List ℕ) (e : Expr) (n : ℕ) → WhatAdds n (bind_store g x e)
store_adds g x e n line a b r h =
    let v : List LocalDeclaration = visible a b in
    asked_two line UnknownName WrongKind (unknown_in_both v x e) (option_or (no_number v x) (stream_in v e)) (g (slot_of v x) (placed v e)) b r n h

next_adds : (x : List ℕ) (n : ℕ) → WhatAdds n (bind_next x)
next_adds x n line a b r h =
    let v : List LocalDeclaration = visible a b in
    asked_two line UnknownName WrongKind (unknown v x) (no_number v x) (Next (slot_of v x)) b r n h

assign_next_adds : (x y : List ℕ) (n : ℕ) → WhatAdds n (bind_assign_next x y)
assign_next_adds x y n line a b r h =
    let v : List LocalDeclaration = visible a b in
    asked_two line UnknownName WrongKind (unknown_of_two v x y) (option_or (no_number v x) (no_number v y)) (AssignNext (slot_of v x) (slot_of v y)) b r n h

get_adds : (x y : List ℕ) (n : ℕ) → WhatAdds n (bind_get x y)
get_adds x y n line a b r h =
    let v : List LocalDeclaration = visible a b in
    asked_two line UnknownName WrongKind (unknown_of_two v x y) (option_or (no_number v x) (no_input v y)) (Get (slot_of v x) (slot_of v y)) b r n h

put_adds : (x : List ℕ) (e : Expr) (n : ℕ) → WhatAdds n (bind_put x e)
put_adds x e n line a b r h =
    let v : List LocalDeclaration = visible a b in
    asked_two line UnknownName WrongKind (unknown_in_both v x e) (option_or (no_output v x) (stream_in v e)) (Put (slot_of v x) (placed v e)) b r n h

throw_adds : (x : List ℕ) (e : Option Expr) (n : ℕ) → WhatAdds n (bind_throw x e)
throw_adds x e n line a b r h =
    let v : List LocalDeclaration = visible a b in
    asked_two line UnknownException WrongKind (unhandled a.handled x) (stream_in_option v e) (Throw (exception_number a.handled x) (placed_option v e)) b r n
    (passed line UnknownName (unknown_in_option v e) _ r h)

called_adds : {T : Type 0} (g : RCall → T) (w : Whole) (c : Call) (line n : ℕ) → AddsAtMost n (bind_called g w c line)
called_adds g w c line n a b r h = let p = first_ok (bind_call w c line a b) _ r h in nothing_added (g p.0) b r n p.2

pub block_adds : {T : Type 0} (f : Bind T) (n : ℕ) → AddsAtMost n f → AddsAtMost n (bind_block f)
block_adds f n k a b r h =
    let p = first_ok (f (inside_block a b) (opened b)) _ r h in
    omega (arith, k (inside_block a b) (opened b) p.0 p.1, behind_tree p.0.tree (after_block b p.0.before) r p.2)

tree_adds : {S T : Type 0} (g : S → T) (f : Bind S) (m n : ℕ) → m ≤ n → AddsAtMost m f → AddsAtMost n (on_tree g f)
tree_adds g f m n l k a b r h =
    let p = first_ok (f a b) _ r h in
    omega (arith, l, k a b p.0 p.1, behind_tree (g p.0.tree) p.0.before r p.2)

two_add : {R S T : Type 0} (g : R → S → T) (f : Bind R) (h : Bind S) (m n : ℕ) → AddsAtMost m f → AddsAtMost n h → AddsAtMost (m + n) (bind_two g f h)
two_add g f h m n k l a b r e =
    let p = first_ok (f a b) _ r e in
    let q = first_ok (h a p.0.before) _ r p.2 in
    omega (arith, k a b p.0 p.1, l a p.0.before q.0 q.1, behind_tree (g p.0.tree q.0.tree) q.0.before r q.2)

if_adds : (e : Expr) (f h : Bind (List RStmt)) (m n o : ℕ) → AddsAtMost m f → AddsAtMost n h → WhatAdds (suc (o + (m + n))) (bind_if e f h)
if_adds e f h m n o k l line a b r is =
    let p = first_ok (bind_test e line a b) _ r is in
    omega (arith, two_add (If p.0) (bind_block f) (bind_block h) m n (block_adds f m k) (block_adds h n l) a b r p.2)

while_adds : (e : Expr) (f : Bind (List RStmt)) (m o : ℕ) → AddsAtMost m f → WhatAdds (suc (o + m)) (bind_while e f)
while_adds e f m o k line a b r is =
    let p = first_ok (bind_test e line a b) _ r is in
    omega (arith, tree_adds (While p.0) (bind_block f) m m (omega arith) (block_adds f m k) a b r p.2)

-- a handler's variable is one slot
pub variable_added : (names : Texts) (y : Option (List ℕ)) (b : Before) → given (variable_declared names y b) ≡ given b + variable_size y
variable_added names None b = omega arith
variable_added names (Some y) b = omega (arith, length-append b.slots (Value Int32 ∷ []))

handler_adds : (w : Whole) (y : Option (List ℕ)) (h : Bind (List RStmt)) (n : ℕ) → AddsAtMost n h → AddsAtMost (variable_size y + n) (bind_handler w y h)
handler_adds w y h n k a b r is = omega (arith, variable_added w.names y b, k a (variable_declared w.names y b) r is)

try_adds : (w : Whole) (x : List ℕ) (y : Option (List ℕ)) (f h : Bind (List RStmt)) (m n : ℕ) → AddsAtMost m f → AddsAtMost n h
    → AddsAtMost (suc (m + (variable_size y + n))) (bind_try w x y f h)
try_adds w x y f h m n k l a b r is =
    let p = first_ok (bind_block f (with_handled x a b) (tried w x b)) _ r is in
    let q = first_ok (bind_block (bind_handler w y h) a p.0.before) _ r p.2 in
    omega (
      arith,
      block_adds f m k (with_handled x a b) (tried w x b) p.0 p.1,
      length-append b.tries (name_index w.names x ∷ []),
      block_adds (bind_handler w y h) (variable_size y + n) (handler_adds w y h n l) a p.0.before q.0 q.1,
      behind_tree (Try p.0.tree (a.throws + length b.tries) (variable_slot y p.0.before) q.0.tree) q.0.before r q.2,
    )

parts_add : (test : Option Expr) (f g h : Bind (List RStmt)) (i m n : ℕ) → AddsAtMost i f → AddsAtMost m g → AddsAtMost n h → AddsAtMost (i + (m + n)) (bind_parts test f g h)
parts_add test f g h i m n j k l a b r is =
    let p = first_ok (f a b) _ r is in
    let q = first_ok (g a p.0.before) _ r p.2 in
    let s = first_ok (bind_block h a q.0.before) _ r q.2 in
    omega (
      arith,
      j a b p.0 p.1,
      k a p.0.before q.0 q.1,
      block_adds h n l a q.0.before s.0 s.1,
      behind_tree (For p.0.tree (placed_option (visible a p.0.before) test) q.0.tree s.0.tree) s.0.before r s.2,
    )

for_adds : (declares : ℕ → List LocalDeclaration) (test : Option Expr) (f g h : Bind (List RStmt)) (i m n o : ℕ) → AddsAtMost i f → AddsAtMost m g → AddsAtMost n h
    → WhatAdds (suc (i + (o + (m + n)))) (bind_for declares test f g h)
for_adds declares test f g h i m n o j k l line a b r is =
    let p = first_ok (bind_first_test declares test line a b) _ r is in
    omega (arith, block_adds (bind_parts test f g h) (i + (m + n)) (parts_add test f g h i m n j k l) a b r p.2)

module _ (w : Whole) where
  -- a part that adds no more than its size
  abbrev BranchWhatAdds : BranchWhatMeans → ℕ → Type 0
  BranchWhatAdds f n = (line : ℕ) → AddsAtMost n (f line)

  abbrev BranchAdds : Branch → Type 0
  BranchAdds b = AddsAtMost (branch_size b) (bind_branch w b)

  abbrev StmtAdds : Stmt → Type 0
  StmtAdds s = AddsAtMost (stmt_size s) (stmt_meaning w s).bind

  stmts_add : (body : List Stmt) → Each StmtAdds body → AddsAtMost (stmts_size body) (bind_stmts w body)
  stmts_add [] h a b r is = nothing_added [] b r 0 is
  stmts_add (s ∷ body) h a b r is =
      let p = first_ok ((stmt_meaning w s).bind a b) _ r is in
      let q = first_ok (bind_stmts w body a p.0.before) _ r p.2 in
      omega (arith, h.0 a b p.0 p.1, stmts_add body h.1 a p.0.before q.0 q.1, behind_tree (p.0.tree ∷ q.0.tree) q.0.before r q.2)

  branches_add : (bs : List Branch) → Each BranchAdds bs → AddsAtMost (sum_of (map branch_size bs)) (bind_fork (map (bind_branch w) bs))
  branches_add [] h a b r is = nothing_added [] b r 0 is
  branches_add (x ∷ bs) h a b r is =
      let p = first_ok (bind_branch w x a b) _ r is in
      let q = first_ok (bind_fork (map (bind_branch w) bs) a p.0.before) _ r p.2 in
      omega (arith, h.0 a b p.0 p.1, branches_add bs h.1 a p.0.before q.0 q.1, behind_tree (p.0.tree ∷ q.0.tree) q.0.before r q.2)

  branch_what_layer : (y : BranchWhat-F BranchWhat What Branch Stmt) → InBranchWhat StmtAdds y
      → BranchWhatAdds (branch_what_at w y)
      (branch_counts (map-BranchWhat BranchWhat What Branch Stmt ℕ ℕ ℕ ℕ branch_what_size what_size branch_size stmt_size y))
  branch_what_layer (BranchWhat-F.BranchWhat::Block body) h line = tree_adds _ _ _ _ (omega arith) (block_adds _ _ (stmts_add body h))
  branch_what_layer (BranchWhat-F.BranchWhat::Call c) h line = called_adds _ w c line _

  what_layer : (y : What-F BranchWhat What Branch Stmt) → InWhat BranchAdds StmtAdds y
      → WhatAdds (what_counts (map-What BranchWhat What Branch Stmt ℕ ℕ ℕ ℕ branch_what_size what_size branch_size stmt_size y))
      (what_at w y).bind
  what_layer (What-F.Declare ty x e) h line = declare_adds w ty x e (option_size e) line
  what_layer (What-F.Assign x e) h line = store_adds Assign x e _ line
  what_layer (What-F.Next x) h line = next_adds x _ line
  what_layer (What-F.NextAssign x e) h line = store_adds NextAssign x e _ line
  what_layer (What-F.AssignNext x y) h line = assign_next_adds x y _ line
  what_layer (What-F.Get x y) h line = get_adds x y _ line
  what_layer (What-F.Put x e) h line = put_adds x e _ line
  what_layer (What-F.If e first other) h line = if_adds e _ _ _ _ (expr_size e) (stmts_add first h.0) (stmts_add other h.1) line
  what_layer (What-F.While e body) h line = while_adds e _ _ (expr_size e) (stmts_add body h) line
  what_layer (What-F.For first test step body) h line = for_adds (first_declares (map (stmt_meaning w) first)) test _ _ _ _ _ _ (option_size test) (stmts_add first h.0) (stmts_add step h.1) (stmts_add body h.2) line
  what_layer (What-F.What::Block body) h line = tree_adds _ _ _ _ (omega arith) (block_adds _ _ (stmts_add body h))
  what_layer (What-F.What::Call c) h line = called_adds _ w c line _
  what_layer (What-F.Try body x y handler) h line = try_adds w x y _ _ _ _ (stmts_add body h.0) (stmts_add handler h.1)
  what_layer (What-F.Throw x e) h line = throw_adds x e _ line
  what_layer (What-F.Par bs) h line = tree_adds _ _ _ _ (omega arith) (branches_add bs h)

  -- the same bound, of a part and a size that are equal to these
  same_adds : {T : Type 0} (f g : Bind T) (m n : ℕ) → f ≡ g → m ≡ n → AddsAtMost n g → AddsAtMost m f
  same_adds f g m n p q h = subst (λ o. AddsAtMost o f) (sym q) (subst (λ k. AddsAtMost n k) (sym p) h)

  of_branch_what : (y : BranchWhat-F BranchWhat What Branch Stmt) → InBranchWhat StmtAdds y → BranchWhatAdds (branch_what_means w (roll-BranchWhat y)) (branch_what_size (roll-BranchWhat y))
  of_branch_what y h line = same_adds _ _ _ _ (ap (λ (k : BranchWhatMeans). k line) (rolled_branch_what w y)) (at_branch y) (branch_what_layer y h line)

  of_what : (y : What-F BranchWhat What Branch Stmt) → InWhat BranchAdds StmtAdds y → WhatAdds (what_size (roll-What y)) (what_means w (roll-What y)).bind
  of_what y h line = same_adds _ _ _ _ (ap (λ (k : WhatMeans). k.bind line) (rolled_what w y)) (at_what y) (what_layer y h line)

  in_branch : (line : ℕ) (x : BranchWhat) → BranchWhatAdds (branch_what_means w x) (branch_what_size x) → BranchAdds (record { line = line; what = x })
  in_branch line x h = same_adds _ _ _ _ (branch_means w line x) (of_branch (record { line = line; what = x })) (tree_adds _ _ _ _ (omega arith) (h line))

  in_stmt : (line : ℕ) (x : What) → WhatAdds (what_size x) (what_means w x).bind → StmtAdds (record { line = line; what = x })
  in_stmt line x h =
      same_adds _ _ _ _ (ap (λ (k : StmtMeans). k.bind) (stmt_means w line x)) (of_stmt (record { line = line; what = x })) (tree_adds _ _ _ _ (omega arith) (h line))

  pub stmt_adds : (s : Stmt) → AddsAtMost (stmt_size s) (stmt_meaning w s).bind
  stmt_adds = each_stmt (λ x. BranchWhatAdds (branch_what_means w x) (branch_what_size x)) (λ x. WhatAdds (what_size x) (what_means w x).bind) BranchAdds StmtAdds of_branch_what of_what in_branch in_stmt

  pub branch_adds : (b : Branch) → AddsAtMost (branch_size b) (bind_branch w b)
  branch_adds = each_branch (λ x. BranchWhatAdds (branch_what_means w x) (branch_what_size x)) (λ x. WhatAdds (what_size x) (what_means w x).bind) BranchAdds StmtAdds of_branch_what of_what in_branch in_stmt

  pub body_adds : (body : List Stmt) → AddsAtMost (stmts_size body) (bind_stmts w body)
  body_adds body = stmts_add body (each StmtAdds stmt_adds body)
