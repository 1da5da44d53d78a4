-- What is bound is no larger than its text, and declares no more.
use Rattle.std.proofs.Common.{ℕ, suc, ◌+◌, ◌≡◌, ◌∙◌, ◌≤◌, List, [], ◌∷◌, ◌++◌, Option, Some, None, Result, Ok, length, map, refl, sym, ap, subst, arith}
use Rattle.std.proofs.lemmas.List.{length-map}
use Rattle.std.specs.Option.{option_or}
use Rattle.shim_base.specs.declared.types.Ty.{Ty}
use Rattle.shim_syntax.specs.declared.tree.Expr.{Expr, Expr-F, fold-roll-Expr, ind-Expr, map-Expr, roll-Expr}
use Rattle.shim_syntax.specs.declared.tree.Expr.TheVariants as e
use Rattle.shim_syntax.specs.declared.tree.Call.{Call}
use Rattle.shim_syntax.specs.declared.tree.Stmt.{Stmt}
use Rattle.shim_syntax.specs.declared.tree.What.{What, What-F, map-What, roll-What}
use Rattle.shim_syntax.specs.declared.tree.Branch.{Branch}
use Rattle.shim_syntax.specs.declared.tree.BranchWhat.{BranchWhat, BranchWhat-F, map-BranchWhat, roll-BranchWhat}
use Rattle.shim_syntax.specs.declared.tree.Function.{Function}
use Rattle.shim_syntax.specs.declared.tree.Program.{Program}
use Rattle.shim_syntax.specs.declared.tree.Sort.TheVariants.{Value}
use Rattle.shim_scopes.specs.declared.fault.ScopeKind.{ScopeKind}
use Rattle.shim_scopes.specs.declared.fault.ScopeKind.TheVariants.{UnknownName, UnknownException, Arity, Twice, MainParameters, WrongKind}
use Rattle.shim_scopes.specs.declared.scope.LocalDeclaration.{LocalDeclaration}
use Rattle.shim_scopes.specs.declared.tree.UExpr.{UExpr}
use Rattle.shim_scopes.specs.declared.tree.UExpr.TheVariants as u
use Rattle.shim_scopes.specs.declared.tree.RStmt.{RStmt}
use Rattle.shim_scopes.specs.declared.tree.RCall.{RCall}
use Rattle.shim_scopes.specs.declared.tree.RWhat.{RWhat}
use Rattle.shim_scopes.specs.declared.tree.RWhat.TheVariants.{Declare, Assign, Next, NextAssign, AssignNext, Get, Put, If, While, For, Block as RBlock, Call as RCalled, Try, Throw, Par}
use Rattle.shim_scopes.specs.declared.tree.RBranch.{RBranch}
use Rattle.shim_scopes.specs.declared.tree.RBranchWhat.{RBranchWhat}
use Rattle.shim_scopes.specs.declared.tree.RBranchWhat.TheVariants.{Block as BranchBlock, Call as BranchCall}
use Rattle.shim_scopes.specs.declared.tree.RFunction.{RFunction}
use Rattle.shim_scopes.specs.declared.form.Form.{Form as Resolved}
use Rattle.shim_scopes.specs.Binding.{unknown, unknown_in, unknown_in_option, unknown_in_all, stream_in, stream_in_option, no_number, no_input, no_output, slot_of, placed_step, placed, placed_option, placed_all, exception_number, unhandled}
use Rattle.shim_syntax.specs.Names.{Texts, name_index, with_functions, param_names}
use Rattle.shim_scopes.specs.Refusals.{Refusal, refused_for}
use Rattle.shim_scopes.specs.Statements.{Whole, Around, Before, BoundTo, Bind, with_declaration, inside_block, opened, after_block, with_handled, tried, variable_declared, variable_slot, bind_handler, bind_declare, bind_store, bind_next, bind_assign_next, bind_get, bind_put, bind_throw, bind_block, on_tree, bind_test, bind_if, bind_while, bind_try, bind_parts, bind_first_test, bind_for, visible, declared_in, unknown_in_both, unknown_of_two}
use Rattle.shim_scopes.specs.Calls.{bind_call, bind_called, bind_known, function_of, unhandled_of_all, wrong_in_all, if_false}
use Rattle.shim_scopes.specs.Bodies.{WhatMeans, StmtMeans, BranchWhatMeans, bind_fork, first_declares, stmt_meaning, bind_stmts, bind_branch}
use Rattle.shim_scopes.specs.Functions.{name_in, twice_after, wrong_main, placed_param, made_function, bind_function, bind_functions, main_of, bind_program}
use Rattle.shim_syntax.specs.Sizes as text
use Rattle.shim_syntax.specs.Sizes.{sum_of}
use Rattle.shim_syntax.proofs.FormInduction.{InBranchWhat, InWhat, Each, each, each_stmt}
use Rattle.shim_syntax.proofs.SizeSteps as source
use Rattle.shim_units.specs.Sizes.{Extent, plain, variable_extent, expr_size, option_size, call_size, branch_what_extent, what_extent, branch_extent, stmt_extent, extent, fork_extent, function_size, functions_size}
use Rattle.shim_sharing.proofs.TextLocals as counted
use Rattle.shim_sharing.proofs.TextLocals.{locals, stmt_locals, branch_locals, what_locals, branch_what_locals, IsNarrow, AreNarrow}
use Rattle.shim_sharing.proofs.ExtentSteps.{number_size, variable_size, unary_size, binary_size, of_stmt, of_branch, at_declare, at_assign, at_next, at_next_assign, at_assign_next, at_get, at_put, at_if, at_while, at_for, at_block, at_call, at_try, at_throw, at_par, at_block_branch, at_call_branch}
use Rattle.shim_scopes.proofs.MeaningSteps.{branch_what_means, what_means, branch_what_at, what_at, rolled_branch_what, rolled_what, branch_means, stmt_means}
use Rattle.shim_scopes.proofs.Refusals.{passed, first_ok, bound, its_tree}

-- an expression keeps its size

placed_number : (around : List LocalDeclaration) (n : _) → placed around (e.Number n) ≡ u.Number n
unfolding placed roll-Expr denote.Hole.Carrier.roll
placed_number around n = fold-roll-Expr UExpr (placed_step around) (Expr-F.Number n)

placed_variable : (around : List LocalDeclaration) (x : List ℕ) → placed around (e.Var x) ≡ u.Var (slot_of around x)
unfolding placed roll-Expr denote.Hole.Carrier.roll
placed_variable around x = fold-roll-Expr UExpr (placed_step around) (Expr-F.Var x)

placed_unary : (around : List LocalDeclaration) (op : _) (a : Expr) → placed around (e.Unary op a) ≡ u.Unary op (placed around a)
unfolding placed roll-Expr denote.Hole.Carrier.roll
placed_unary around op a = fold-roll-Expr UExpr (placed_step around) (Expr-F.Unary op a)

placed_binary : (around : List LocalDeclaration) (op : _) (a b : Expr) → placed around (e.Binary op a b) ≡ u.Binary op (placed around a) (placed around b)
unfolding placed roll-Expr denote.Hole.Carrier.roll
placed_binary around op a b = fold-roll-Expr UExpr (placed_step around) (Expr-F.Binary op a b)

abbrev KeepsSize : Expr → Type 0
KeepsSize a = (around : List LocalDeclaration) → expr_size (placed around a) ≡ text.expr_size a

abbrev KeptExpr : Type 0
KeptExpr = (a : Expr) × KeepsSize a

expr_layer : (y : Expr-F KeptExpr) → KeepsSize (roll-Expr (map-Expr KeptExpr Expr (λ e. e.0) y))
unfolding roll-Expr denote.Hole.Carrier.roll
expr_layer (Expr-F.Number n) around = ap expr_size (placed_number around n) ∙ number_size n ∙ sym (source.number_size n)
expr_layer (Expr-F.Var x) around = ap expr_size (placed_variable around x) ∙ variable_size (slot_of around x) ∙ sym (source.var_size x)
expr_layer (Expr-F.Unary op a) around =
    ap expr_size (placed_unary around op a.0) ∙ unary_size op (placed around a.0) ∙ ap suc (a.1 around) ∙ sym (source.unary_size op a.0)
expr_layer (Expr-F.Binary op a b) around =
    ap expr_size (placed_binary around op a.0 b.0) ∙ binary_size op (placed around a.0) (placed around b.0)
    ∙ ap (λ n. suc (n + expr_size (placed around b.0))) (a.1 around) ∙ ap (λ n. suc (text.expr_size a.0 + n)) (b.1 around) ∙ sym (source.binary_size op a.0 b.0)

pub placed_size : (around : List LocalDeclaration) (a : Expr) → expr_size (placed around a) ≡ text.expr_size a
placed_size around a = ind-Expr KeepsSize (λ x y is. subst (λ z. KeepsSize (roll-Expr z)) is (expr_layer y)) a around

placed_option_size : (around : List LocalDeclaration) (a : Option Expr) → option_size (placed_option around a) ≡ text.option_size a
placed_option_size around None = refl
placed_option_size around (Some a) = placed_size around a

placed_all_size : (around : List LocalDeclaration) (es : List Expr) → sum_of (map expr_size (placed_all around es)) ≡ text.exprs_size es
placed_all_size around [] = refl
placed_all_size around (a ∷ es) = omega (arith, placed_size around a, placed_all_size around es)

-- a part is no larger than that, and declares no more
record IsWithin (n d : ℕ) (x : Extent) : Type 0 where
  pub size : x.size ≤ n
  pub declared : x.own + x.forked ≤ d

is_within : (n d : ℕ) (x y : Extent) → x ≡ y → y.size ≤ n → y.own + y.forked ≤ d → IsWithin n d x
is_within n d x y e s h = record { size = omega (arith, ap (λ (z : Extent). z.size) e, s); declared = omega (arith, ap (λ (z : Extent). z.own) e, ap (λ (z : Extent). z.forked) e, h) }

-- so it is of whatever it is bound to
abbrev BoundWithin : {T : Type 0} → (T → Extent) → ℕ → ℕ → Bind T → Type 0
BoundWithin {T = T} x n d f = (a : Around) (b : Before) (r : BoundTo T) → f a b ≡ Ok r → IsWithin n d (x r.tree)

abbrev WhatWithin : ℕ → ℕ → (ℕ → Bind RWhat) → Type 0
WhatWithin n d f = (line : ℕ) → BoundWithin what_extent n d (f line)

abbrev given : {A : Type 0} → A → Result A Refusal
given x = Ok x

the_same : {A : Type 0} (x y : A) → given x ≡ Ok y → x ≡ y
the_same x y e = cc

-- the tree is within that
made : {T : Type 0} (x : T → Extent) (n d : ℕ) (t : T) (b : Before) (r : BoundTo T) → bound t b ≡ Ok r → IsWithin n d (x t) → IsWithin n d (x r.tree)
made x n d t b r e h = subst (λ s. IsWithin n d (x s)) (its_tree t b r e) h

asked_two : (line : ℕ) (kind other : ScopeKind) (o p : Option (List ℕ)) (t : RWhat) (b : Before) (r : BoundTo RWhat) (n d : ℕ)
    → refused_for line kind o (refused_for line other p (bound t b)) ≡ Ok r → IsWithin n d (what_extent t) → IsWithin n d (what_extent r.tree)
asked_two line kind other o p t b r n d h k = made what_extent n d t b r (passed line other p _ r (passed line kind o _ r h)) k

declare_within : (w : Whole) (ty : Ty) (x : List ℕ) (e : Option Expr) → WhatWithin (suc (text.option_size e)) 1 (bind_declare w ty x e)
declare_within w ty x e line a b r h =
    let p = passed line UnknownName (unknown_in_option (visible a b) e) _ r h in
    let q = passed line Twice (declared_in b.own x) _ r p in
    let s = passed line WrongKind (stream_in_option (visible a b) e) _ r q in
    made what_extent _ 1 (Declare ty (length b.slots) (placed_option (visible a b) e)) (with_declaration w.names x (Value ty) b) r s
    (is_within _ 1 _ _ (at_declare ty (length b.slots) (placed_option (visible a b) e)) (omega (arith, placed_option_size (visible a b) e)) (omega arith))

store_within : (g : ℕ → UExpr → RWhat) → ((x : ℕ) (e : UExpr) → what_extent (g x e) ≡ plain (suc (expr_size e))) → (x : List ℕ) (e : Expr) (d : ℕ)
    → WhatWithin (suc (text.expr_size e)) d (bind_store g x e)
store_within g at x e d line a b r h =
    let v : List LocalDeclaration = visible a b in
    asked_two line UnknownName WrongKind (unknown_in_both v x e) (option_or (no_number v x) (stream_in v e)) (g (slot_of v x) (placed v e)) b r _ d h
    (is_within _ d _ _ (at (slot_of v x) (placed v e)) (omega (arith, placed_size v e)) (omega arith))

next_within : (x : List ℕ) (d : ℕ) → WhatWithin 1 d (bind_next x)
next_within x d line a b r h =
    let v : List LocalDeclaration = visible a b in
    asked_two line UnknownName WrongKind (unknown v x) (no_number v x) (Next (slot_of v x)) b r 1 d h (is_within 1 d _ _ (at_next (slot_of v x)) (omega arith) (omega arith))

assign_next_within : (x y : List ℕ) (d : ℕ) → WhatWithin 2 d (bind_assign_next x y)
assign_next_within x y d line a b r h =
    let v : List LocalDeclaration = visible a b in
    asked_two line UnknownName WrongKind (unknown_of_two v x y) (option_or (no_number v x) (no_number v y)) (AssignNext (slot_of v x) (slot_of v y)) b r 2 d h
    (is_within 2 d _ _ (at_assign_next (slot_of v x) (slot_of v y)) (omega arith) (omega arith))

get_within : (x y : List ℕ) (d : ℕ) → WhatWithin 2 d (bind_get x y)
get_within x y d line a b r h =
    let v : List LocalDeclaration = visible a b in
    asked_two line UnknownName WrongKind (unknown_of_two v x y) (option_or (no_number v x) (no_input v y)) (Get (slot_of v x) (slot_of v y)) b r 2 d h
    (is_within 2 d _ _ (at_get (slot_of v x) (slot_of v y)) (omega arith) (omega arith))

put_within : (x : List ℕ) (e : Expr) (d : ℕ) → WhatWithin (suc (text.expr_size e)) d (bind_put x e)
put_within x e d line a b r h =
    let v : List LocalDeclaration = visible a b in
    asked_two line UnknownName WrongKind (unknown_in_both v x e) (option_or (no_output v x) (stream_in v e)) (Put (slot_of v x) (placed v e)) b r _ d h
    (is_within _ d _ _ (at_put (slot_of v x) (placed v e)) (omega (arith, placed_size v e)) (omega arith))

throw_within : (x : List ℕ) (e : Option Expr) (d : ℕ) → WhatWithin (suc (text.option_size e)) d (bind_throw x e)
throw_within x e d line a b r h =
    let v : List LocalDeclaration = visible a b in
    asked_two line UnknownException WrongKind (unhandled a.handled x) (stream_in_option v e) (Throw (exception_number a.handled x) (placed_option v e)) b r _ d
    (passed line UnknownName (unknown_in_option v e) _ r h)
    (is_within _ d _ _ (at_throw (exception_number a.handled x) (placed_option v e)) (omega (arith, placed_option_size v e)) (omega arith))

known_call : (o : Option Function) (fs : List Function) (c : Call) (line : ℕ) (a : Around) (b : Before) (r : RCall) → bind_known o fs c line a b ≡ Ok r → call_size r ≡ text.call_size c
known_call None fs c line a b r h = absurd (cc)
known_call (Some f) fs c line a b r h =
    let p = passed line UnknownException (unhandled_of_all a.handled f.throws) _ r h in
    let q = passed line Arity (if_false c.function _) _ r p in
    let s = passed line WrongKind (wrong_in_all (visible a b) f.params c.args) _ r q in
    ap (λ (c : RCall). call_size c) (sym (the_same _ r s)) ∙ ap suc (placed_all_size (visible a b) c.args)

called : (w : Whole) (c : Call) (line : ℕ) (a : Around) (b : Before) (r : RCall) → bind_call w c line a b ≡ Ok r → call_size r ≡ text.call_size c
called w c line a b r h = known_call (function_of w.functions c.function) w.functions c line a b r (passed line UnknownName (unknown_in_all (visible a b) c.args) _ r h)

called_within : {T : Type 0} (x : T → Extent) (g : RCall → T) → ((c : RCall) → x (g c) ≡ plain (call_size c)) → (w : Whole) (c : Call) (line d : ℕ) → BoundWithin x (text.call_size c) d (bind_called g w c line)
called_within x g at w c line d a b r h =
    let p = first_ok (bind_call w c line a b) _ r h in
    made x _ d (g p.0) b r p.2 (is_within _ d _ _ (at p.0) (omega (arith, called w c line a b p.0 p.1)) (omega arith))

block_within : {T : Type 0} (x : T → Extent) (f : Bind T) (n d : ℕ) → BoundWithin x n d f → BoundWithin x n d (bind_block f)
block_within x f n d k a b r h =
    let p = first_ok (f (inside_block a b) (opened b)) _ r h in
    made x n d p.0.tree (after_block b p.0.before) r p.2 (k (inside_block a b) (opened b) p.0 p.1)

tree_within : {S T : Type 0} (x : S → Extent) (y : T → Extent) (g : S → T) (f : Bind S) (m n d : ℕ) → ((s : S) → IsWithin m d (x s) → IsWithin n d (y (g s))) → BoundWithin x m d f → BoundWithin y n d (on_tree g f)
tree_within x y g f m n d l k a b r h =
    let p = first_ok (f a b) _ r h in
    made y n d (g p.0.tree) p.0.before r p.2 (l p.0.tree (k a b p.0 p.1))

if_within : (e : Expr) (f h : Bind (List RStmt)) (m n d c : ℕ) → BoundWithin extent m d f → BoundWithin extent n c h → WhatWithin (suc (text.expr_size e + (m + n))) (d + c) (bind_if e f h)
if_within e f h m n d c k l line a b r is =
    let p = first_ok (bind_test e line a b) _ r is in
    let t = passed line WrongKind (stream_in (visible a b) e) _ p.0 (passed line UnknownName (unknown_in (visible a b) e) _ p.0 p.1) in
    let q = first_ok (bind_block f a b) _ r p.2 in
    let s = first_ok (bind_block h a q.0.before) _ r q.2 in
    let one = block_within extent f m d k a b q.0 q.1 in
    let two = block_within extent h n c l a q.0.before s.0 s.1 in
    let test : expr_size p.0 ≡ text.expr_size e = ap expr_size (sym (the_same (placed (visible a b) e) p.0 t)) ∙ placed_size (visible a b) e in
    made what_extent _ _ (If p.0 q.0.tree s.0.tree) s.0.before r s.2
    (is_within _ _ _ _ (at_if p.0 q.0.tree s.0.tree) (omega (arith, test, one.size, two.size)) (omega (arith, one.declared, two.declared)))

while_within : (e : Expr) (f : Bind (List RStmt)) (m d : ℕ) → BoundWithin extent m d f → WhatWithin (suc (text.expr_size e + m)) d (bind_while e f)
while_within e f m d k line a b r is =
    let p = first_ok (bind_test e line a b) _ r is in
    let t = passed line WrongKind (stream_in (visible a b) e) _ p.0 (passed line UnknownName (unknown_in (visible a b) e) _ p.0 p.1) in
    let q = first_ok (bind_block f a b) _ r p.2 in
    let one = block_within extent f m d k a b q.0 q.1 in
    let test : expr_size p.0 ≡ text.expr_size e = ap expr_size (sym (the_same (placed (visible a b) e) p.0 t)) ∙ placed_size (visible a b) e in
    made what_extent _ _ (While p.0 q.0.tree) q.0.before r q.2
    (is_within _ _ _ _ (at_while p.0 q.0.tree) (omega (arith, test, one.size)) (omega (arith, one.declared)))

-- a variable of a handler is as large as its slot, and declares it
variable_within : (y : Option (List ℕ)) (b : Before) → IsWithin (text.variable_size y) (text.variable_size y) (variable_extent (variable_slot y b))
variable_within None b = record { size = omega arith; declared = omega arith }
variable_within (Some y) b = record { size = omega arith; declared = omega arith }

handler_within : (w : Whole) (y : Option (List ℕ)) (h : Bind (List RStmt)) (n c : ℕ) → BoundWithin extent n c h → BoundWithin extent n c (bind_handler w y h)
handler_within w y h n c k a b r is = k a (variable_declared w.names y b) r is

try_within : (w : Whole) (x : List ℕ) (y : Option (List ℕ)) (f h : Bind (List RStmt)) (m n d c : ℕ) → BoundWithin extent m d f → BoundWithin extent n c h
    → BoundWithin what_extent (suc (m + (text.variable_size y + n))) (d + (text.variable_size y + c)) (bind_try w x y f h)
try_within w x y f h m n d c k l a b r is =
    let p = first_ok (bind_block f (with_handled x a b) (tried w x b)) _ r is in
    let q = first_ok (bind_block (bind_handler w y h) a p.0.before) _ r p.2 in
    let one = block_within extent f m d k (with_handled x a b) (tried w x b) p.0 p.1 in
    let slot = variable_within y p.0.before in
    let two = block_within extent (bind_handler w y h) n c (handler_within w y h n c l) a p.0.before q.0 q.1 in
    made what_extent _ _ (Try p.0.tree (a.throws + length b.tries) (variable_slot y p.0.before) q.0.tree) q.0.before r q.2
    (is_within _ _ _ _ (at_try p.0.tree (a.throws + length b.tries) (variable_slot y p.0.before) q.0.tree) (omega (arith, one.size, slot.size, two.size))
    (omega (arith, one.declared, slot.declared, two.declared)))

parts_within : (test : Option Expr) (f g h : Bind (List RStmt)) (i m n d c j : ℕ) → BoundWithin extent i d f → BoundWithin extent m c g → BoundWithin extent n j h
    → BoundWithin what_extent (suc (i + (text.option_size test + (m + n)))) (d + (c + j)) (bind_parts test f g h)
parts_within test f g h i m n d c j o k l a b r is =
    let p = first_ok (f a b) _ r is in
    let q = first_ok (g a p.0.before) _ r p.2 in
    let s = first_ok (bind_block h a q.0.before) _ r q.2 in
    let one = o a b p.0 p.1 in
    let two = k a p.0.before q.0 q.1 in
    let three = block_within extent h n j l a q.0.before s.0 s.1 in
    let t : Option UExpr = placed_option (visible a p.0.before) test in
    made what_extent _ _ (For p.0.tree t q.0.tree s.0.tree) s.0.before r s.2
    (is_within _ _ _ _ (at_for p.0.tree t q.0.tree s.0.tree) (omega (arith, placed_option_size (visible a p.0.before) test, one.size, two.size, three.size)) (omega (arith, one.declared, two.declared, three.declared)))

for_within : (declares : ℕ → List LocalDeclaration) (test : Option Expr) (f g h : Bind (List RStmt)) (i m n d c j : ℕ) → BoundWithin extent i d f → BoundWithin extent m c g → BoundWithin extent n j h
    → WhatWithin (suc (i + (text.option_size test + (m + n)))) (d + (c + j)) (bind_for declares test f g h)
for_within declares test f g h i m n d c j o k l line a b r is =
    let p = first_ok (bind_first_test declares test line a b) _ r is in
    block_within what_extent (bind_parts test f g h) _ _ (parts_within test f g h i m n d c j o k l) a b r p.2

-- in a block, in a fork

in_block : (n d : ℕ) (body : List RStmt) → IsWithin n d (extent body) → IsWithin (suc n) d (what_extent (RBlock body))
in_block n d body k = is_within _ _ _ _ (at_block body) (omega (arith, k.size)) (omega (arith, k.declared))

in_fork : (n d : ℕ) (branches : List RBranch) → IsWithin n d (fork_extent branches) → IsWithin (suc n) d (what_extent (Par branches))
in_fork n d branches k = is_within _ _ _ _ (at_par branches) (omega (arith, k.size)) (omega (arith, k.declared))

in_branch : (n d : ℕ) (body : List RStmt) → IsWithin n d (extent body) → IsWithin (suc n) d (branch_what_extent (BranchBlock body))
in_branch n d body k = is_within _ _ _ _ (at_block_branch body) (omega (arith, k.size)) (omega (arith, k.declared))

module _ (w : Whole) where
  -- a part that is bound within its size in the text, and its declarations
  abbrev BranchWhatFits : BranchWhatMeans → ℕ → ℕ → Type 0
  BranchWhatFits f n d = (line : ℕ) → BoundWithin branch_what_extent n d (f line)

  abbrev BranchWithin : Branch → Type 0
  BranchWithin b = BoundWithin branch_extent (text.branch_size b) (branch_locals b) (bind_branch w b)

  abbrev StmtWithin : Stmt → Type 0
  StmtWithin s = BoundWithin stmt_extent (text.stmt_size s) (stmt_locals s) (stmt_meaning w s).bind

  stmts_within : (body : List Stmt) → Each StmtWithin body → BoundWithin extent (text.stmts_size body) (locals body) (bind_stmts w body)
  stmts_within [] h a b r is = made extent 0 0 [] b r is (is_within _ _ _ _ refl (omega arith) (omega arith))
  stmts_within (s ∷ body) h a b r is =
      let p = first_ok ((stmt_meaning w s).bind a b) _ r is in
      let q = first_ok (bind_stmts w body a p.0.before) _ r p.2 in
      let one = h.0 a b p.0 p.1 in
      let rest = stmts_within body h.1 a p.0.before q.0 q.1 in
      made extent _ _ (p.0.tree ∷ q.0.tree) q.0.before r q.2 (is_within _ _ _ _ refl (omega (arith, one.size, rest.size)) (omega (arith, one.declared, rest.declared)))

  branches_within : (bs : List Branch) → Each BranchWithin bs → BoundWithin fork_extent (sum_of (map text.branch_size bs)) (sum_of (map branch_locals bs)) (bind_fork (map (bind_branch w) bs))
  branches_within [] h a b r is = made fork_extent 0 0 [] b r is (is_within _ _ _ _ refl (omega arith) (omega arith))
  branches_within (x ∷ bs) h a b r is =
      let p = first_ok (bind_branch w x a b) _ r is in
      let q = first_ok (bind_fork (map (bind_branch w) bs) a p.0.before) _ r p.2 in
      let one = h.0 a b p.0 p.1 in
      let rest = branches_within bs h.1 a p.0.before q.0 q.1 in
      made fork_extent _ _ (p.0.tree ∷ q.0.tree) q.0.before r q.2 (is_within _ _ _ _ refl (omega (arith, one.size, rest.size)) (omega (arith, one.declared, rest.declared)))

  branch_what_layer : (y : BranchWhat-F BranchWhat What Branch Stmt) → InBranchWhat StmtWithin y
      → BranchWhatFits (branch_what_at w y)
      (text.branch_counts (map-BranchWhat BranchWhat What Branch Stmt ℕ ℕ ℕ ℕ source.branch_what_size text.what_size text.branch_size text.stmt_size y))
      (counted.branch_counts (map-BranchWhat BranchWhat What Branch Stmt ℕ ℕ ℕ ℕ branch_what_locals what_locals branch_locals stmt_locals y))
  branch_what_layer (BranchWhat-F.BranchWhat::Block body) h line = tree_within extent branch_what_extent BranchBlock _ _ _ _ (in_branch _ _) (block_within extent _ _ _ (stmts_within body h))
  branch_what_layer (BranchWhat-F.BranchWhat::Call c) h line = called_within branch_what_extent BranchCall at_call_branch w c line 0

  what_layer : (y : What-F BranchWhat What Branch Stmt) → InWhat BranchWithin StmtWithin y
      → WhatWithin (text.what_counts (map-What BranchWhat What Branch Stmt ℕ ℕ ℕ ℕ source.branch_what_size text.what_size text.branch_size text.stmt_size y))
      (counted.what_counts (map-What BranchWhat What Branch Stmt ℕ ℕ ℕ ℕ branch_what_locals what_locals branch_locals stmt_locals y))
      (what_at w y).bind
  what_layer (What-F.Declare ty x e) h line = declare_within w ty x e line
  what_layer (What-F.Assign x e) h line = store_within Assign at_assign x e 0 line
  what_layer (What-F.Next x) h line = next_within x 0 line
  what_layer (What-F.NextAssign x e) h line = store_within NextAssign at_next_assign x e 0 line
  what_layer (What-F.AssignNext x y) h line = assign_next_within x y 0 line
  what_layer (What-F.Get x y) h line = get_within x y 0 line
  what_layer (What-F.Put x e) h line = put_within x e 0 line
  what_layer (What-F.If e first other) h line = if_within e _ _ _ _ _ _ (stmts_within first h.0) (stmts_within other h.1) line
  what_layer (What-F.While e body) h line = while_within e _ _ _ (stmts_within body h) line
  what_layer (What-F.For first test step body) h line = for_within (first_declares (map (stmt_meaning w) first)) test _ _ _ _ _ _ _ _ _ (stmts_within first h.0) (stmts_within step h.1) (stmts_within body h.2) line
  what_layer (What-F.What::Block body) h line = tree_within extent what_extent RBlock _ _ _ _ (in_block _ _) (block_within extent _ _ _ (stmts_within body h))
  what_layer (What-F.What::Call c) h line = called_within what_extent RCalled at_call w c line 0
  what_layer (What-F.Try body x y handler) h line = try_within w x y _ _ _ _ _ _ (stmts_within body h.0) (stmts_within handler h.1)
  what_layer (What-F.Throw x e) h line = throw_within x e 0 line
  what_layer (What-F.Par bs) h line = tree_within fork_extent what_extent Par _ _ _ _ (in_fork _ _) (branches_within bs h)

  -- the same bound, of a part and of sizes that are equal to these
  same_within : {T : Type 0} (x : T → Extent) (f g : Bind T) (m n c d : ℕ) → f ≡ g → m ≡ n → c ≡ d → BoundWithin x n d g → BoundWithin x m c f
  same_within x f g m n c d p q o h = subst (λ i. BoundWithin x m i f) (sym o) (subst (λ i. BoundWithin x i d f) (sym q) (subst (λ k. BoundWithin x n d k) (sym p) h))

  of_branch_what : (y : BranchWhat-F BranchWhat What Branch Stmt) → InBranchWhat StmtWithin y
      → BranchWhatFits (branch_what_means w (roll-BranchWhat y)) (source.branch_what_size (roll-BranchWhat y)) (branch_what_locals (roll-BranchWhat y))
  of_branch_what y h line =
      same_within branch_what_extent _ _ _ _ _ _ (ap (λ (k : BranchWhatMeans). k line) (rolled_branch_what w y))
      (source.at_branch y) (counted.at_branch y) (branch_what_layer y h line)

  of_what : (y : What-F BranchWhat What Branch Stmt) → InWhat BranchWithin StmtWithin y → WhatWithin (text.what_size (roll-What y)) (what_locals (roll-What y)) (what_means w (roll-What y)).bind
  of_what y h line =
      same_within what_extent _ _ _ _ _ _ (ap (λ (k : WhatMeans). k.bind line) (rolled_what w y))
      (source.at_what y) (counted.at_what y) (what_layer y h line)

  in_line : (line n d : ℕ) (t : RWhat) → IsWithin n d (what_extent t) → IsWithin n d (stmt_extent (record { line = line; what = t }))
  in_line line n d t h = subst (λ x. IsWithin n d x) (sym (of_stmt line t)) h

  branch_in_line : (line n d : ℕ) (t : RBranchWhat) → IsWithin n d (branch_what_extent t) → IsWithin n d (branch_extent (record { line = line; what = t }))
  branch_in_line line n d t h = subst (λ x. IsWithin n d x) (sym (of_branch line t)) h

  in_branch_line : (line : ℕ) (x : BranchWhat) → BranchWhatFits (branch_what_means w x) (source.branch_what_size x) (branch_what_locals x) → BranchWithin (record { line = line; what = x })
  in_branch_line line x h =
      same_within branch_extent _ _ _ _ _ _ (branch_means w line x)
      (source.of_branch (record { line = line; what = x })) (counted.of_branch (record { line = line; what = x }))
      (tree_within branch_what_extent branch_extent (λ t. record { line = line; what = t }) _ _ _ _ (branch_in_line line _ _) (h line))

  in_stmt_line : (line : ℕ) (x : What) → WhatWithin (text.what_size x) (what_locals x) (what_means w x).bind → StmtWithin (record { line = line; what = x })
  in_stmt_line line x h =
      same_within stmt_extent _ _ _ _ _ _ (ap (λ (k : StmtMeans). k.bind) (stmt_means w line x))
      (source.of_stmt (record { line = line; what = x })) (counted.of_stmt (record { line = line; what = x }))
      (tree_within what_extent stmt_extent (λ t. record { line = line; what = t }) _ _ _ _ (in_line line _ _) (h line))

  body_within : (body : List Stmt) → BoundWithin extent (text.stmts_size body) (locals body) (bind_stmts w body)
  body_within body = stmts_within body (each StmtWithin
      (each_stmt (λ x. BranchWhatFits (branch_what_means w x) (source.branch_what_size x) (branch_what_locals x)) (λ x. WhatWithin (text.what_size x) (what_locals x) (what_means w x).bind)
      BranchWithin StmtWithin of_branch_what of_what in_branch_line in_stmt_line) body)

-- functions

-- the parameters of a function, and what it declares, are 96 at the most
abbrev pub HasFewSlots : RFunction → Type 0
HasFewSlots f = length f.params + ((extent f.body).own + (extent f.body).forked) ≤ 96

abbrev pub HaveFewSlots : List RFunction → Type 0
HaveFewSlots [] = Unit {0}
HaveFewSlots (f ∷ fs) = HasFewSlots f × HaveFewSlots fs

record IsSmaller (f : Function) (g : RFunction) : Type 0 where
  pub size : function_size g ≤ text.function_size f
  pub slots : IsNarrow f → HasFewSlots g

of_function : (w : Whole) (f : Function) (r : BoundTo (List RStmt)) → IsWithin (text.stmts_size f.body) (locals f.body) (extent r.tree) → IsSmaller f (made_function w f r)
of_function w f r k = record {
  size = omega (arith, k.size, length-map f.params (placed_param w.names), length-map f.throws (name_index w.names));
  slots = λ h. omega (arith, h, k.declared, length-map f.params (placed_param w.names));
}

function_within : (w : Whole) (earlier : Texts) (f : Function) (g : RFunction) → bind_function w earlier f ≡ Ok g → IsSmaller f g
unfolding bind_function
function_within w earlier f g h =
    let a = passed f.line Twice (name_in earlier f.name) _ g h in
    let b = passed f.line Twice (twice_after [] (param_names f.params)) _ g a in
    let c = passed f.line Twice (twice_after [] f.throws) _ g b in
    let d = passed f.line MainParameters (wrong_main f) _ g c in
    let p = first_ok (bind_stmts w f.body _ _) _ g d in
    subst (λ k. IsSmaller f k) (the_same _ g p.2) (of_function w f p.0 (body_within w f.body _ _ p.0 p.1))

pub record AreSmaller (fs : List Function) (gs : List RFunction) : Type 0 where
  pub size : functions_size gs ≤ text.functions_size fs
  pub slots : AreNarrow fs → HaveFewSlots gs

functions_within : (w : Whole) (earlier : Texts) (fs : List Function) (gs : List RFunction) → bind_functions w earlier fs ≡ Ok gs → AreSmaller fs gs
functions_within w earlier [] gs h = subst (λ k. AreSmaller [] k) (the_same [] gs h) (record { size = omega arith; slots = λ n. tt })
functions_within w earlier (f ∷ fs) gs h =
    let p = first_ok (bind_function w earlier f) _ gs h in
    let q = first_ok (bind_functions w (earlier ++ f.name ∷ []) fs) _ gs p.2 in
    let one = function_within w earlier f p.0 p.1 in
    let rest = functions_within w (earlier ++ f.name ∷ []) fs q.0 q.1 in
    subst (λ k. AreSmaller (f ∷ fs) k) (the_same (p.0 ∷ q.0) gs q.2) (record { size = omega (arith, one.size, rest.size); slots = λ n. (one.slots n.0, rest.slots n.1) })

pub program_within : (p : Program) (r : Resolved) → bind_program p ≡ Ok r → AreSmaller p.functions r.functions
program_within p r h =
    let w : Whole = record { functions = p.functions; names = with_functions p.functions [] } in
    let fs = first_ok (bind_functions w [] p.functions) _ r h in
    let main = first_ok (main_of p.functions) _ r fs.2 in
    subst (λ k. AreSmaller p.functions k) (ap (λ (x : Resolved). x.functions) (the_same _ r main.2)) (functions_within w [] p.functions fs.0 fs.1)
