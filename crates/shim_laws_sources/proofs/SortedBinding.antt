-- What each kind of statement is bound to has its sorts among its function's slots.
use Rattle.shim_syntax.specs.Names.{Texts}
use Rattle.std.proofs.Common.{ℕ, ◌+◌, ◌≡◌, ◌∙◌, List, [], ◌∷◌, ◌++◌, Option, Some, None, Ok, length, slice_get, refl, sym, ap, subst, append_assoc}
use Rattle.std.specs.Option.{option_or}
use Rattle.std.proofs.lemmas.List.{append-nil}
use Rattle.shim_base.specs.declared.types.Ty.{Ty}
use Rattle.shim_base.specs.declared.types.Ty.TheVariants.{Int32}
use Rattle.shim_syntax.specs.declared.tree.Call.{Call}
use Rattle.shim_syntax.specs.declared.tree.Expr.{Expr}
use Rattle.shim_syntax.specs.declared.tree.Sort.{Sort}
use Rattle.shim_syntax.specs.declared.tree.Sort.TheVariants.{Value}
use Rattle.shim_scopes.specs.declared.fault.ScopeKind.{ScopeKind}
use Rattle.shim_scopes.specs.declared.fault.ScopeKind.TheVariants.{UnknownName, UnknownException, Twice, WrongKind}
use Rattle.shim_scopes.specs.declared.scope.LocalDeclaration.{LocalDeclaration}
use Rattle.shim_scopes.specs.declared.tree.RBranch.{RBranch}
use Rattle.shim_scopes.specs.declared.tree.RCall.{RCall}
use Rattle.shim_scopes.specs.declared.tree.RStmt.{RStmt}
use Rattle.shim_scopes.specs.declared.tree.RWhat.{RWhat}
use Rattle.shim_scopes.specs.declared.tree.RWhat.TheVariants as to
use Rattle.shim_scopes.specs.declared.tree.UExpr.{UExpr}
use Rattle.shim_scopes.specs.Binding.{unknown, unknown_in_option, stream_in, stream_in_option, no_number, no_input, no_output, slot_of, placed, placed_option, exception_number, unhandled}
use Rattle.shim_scopes.specs.Refusals.{refused_for}
use Rattle.shim_scopes.specs.Statements.{Whole, Around, Before, BoundTo, Bind, with_declaration, inside_block, opened, after_block, with_handled, tried, variable_declared, variable_slot, bind_handler, bind_declare, bind_store, bind_next, bind_assign_next, bind_get, bind_put, bind_throw, bind_block, on_tree, bind_two, bind_test, bind_if, bind_while, bind_try, bind_parts, bind_first_test, bind_for, visible, declared_in, unknown_in_both, unknown_of_two}
use Rattle.shim_scopes.specs.Calls.{bind_call, bind_called}
use Rattle.shim_laws_binding.proofs.Bound.{is_bound}
use Rattle.shim_laws_sources.proofs.Lists.{at_length}
use Rattle.shim_laws_sources.proofs.SortedStmts.{VariableIsSorted}
use Rattle.shim_laws_sources.proofs.SortedParts.{BodySorted, WhatSorted, ForkSorted, part_declare, part_next, part_assign_next, part_get, part_put, part_if, part_while, part_for, part_block, part_try, part_throw, part_par}
use Rattle.shim_scopes.proofs.Refusals.{passed, first_ok, bound}

-- the second list goes on from the first
pub record GoesOn (xs ys : List Sort) : Type 0 where
  pub more : List Sort
  pub whole : ys ≡ xs ++ more

pub as_it_was : (xs : List Sort) → GoesOn xs xs
as_it_was xs = record { more = []; whole = sym (append-nil xs) }

pub goes_twice : (xs ys zs : List Sort) → GoesOn xs ys → GoesOn ys zs → GoesOn xs zs
goes_twice xs ys zs f g = record { more = f.more ++ g.more; whole = g.whole ∙ ap (λ l. l ++ g.more) f.whole ∙ append_assoc xs f.more g.more }

-- the slots go on from those before, and the tree is right in a function whose slots go on from these
pub record IsSortedBy {T : Type 0} (right : List Sort → T → Type 0) (old : Before) (r : BoundTo T) : Type 0 where
  pub slots : GoesOn old.slots r.before.slots
  pub tree : (all : List Sort) → GoesOn r.before.slots all → right all r.tree

abbrev pub Sorts : {T : Type 0} → (List Sort → T → Type 0) → Bind T → Type 0
Sorts {T = T} right f = (a : Around) (b : Before) (r : BoundTo T) → f a b ≡ Ok r → IsSortedBy right b r

pub at_answer : {T : Type 0} (right : List Sort → T → Type 0) (old new : Before) (t : T) (r : BoundTo T) → bound t new ≡ Ok r → GoesOn old.slots new.slots → ((all : List Sort) → GoesOn new.slots all → right all t)
    → IsSortedBy right old r
at_answer {T = T} right old new t r e slots tree = subst (λ (s : BoundTo T). IsSortedBy right old s) (sym (is_bound t new r e)) (record { slots = slots; tree = tree })

-- what is right with any slots, and adds none
pub stays : {T : Type 0} (right : List Sort → T → Type 0) (t : T) (b : Before) (r : BoundTo T) → ((all : List Sort) → right all t) → bound t b ≡ Ok r → IsSortedBy right b r
stays right t b r so e = at_answer right b b t r e (as_it_was b.slots) (λ all on. so all)

asked_two : (line : ℕ) (kind other : ScopeKind) (o p : Option (List ℕ)) (t : RWhat) (b : Before) (r : BoundTo RWhat) → ((all : List Sort) → WhatSorted all t)
    → refused_for line kind o (refused_for line other p (bound t b)) ≡ Ok r → IsSortedBy WhatSorted b r
asked_two line kind other o p t b r so h = stays WhatSorted t b r so (passed line other p _ r (passed line kind o _ r h))

pub block_sorts : {T : Type 0} (right : List Sort → T → Type 0) (f : Bind T) → Sorts right f → Sorts right (bind_block f)
block_sorts right f k a b r h =
    let p = first_ok (f (inside_block a b) (opened b)) _ r h in
    let g = k (inside_block a b) (opened b) p.0 p.1 in
    at_answer right b (after_block b p.0.before) p.0.tree r p.2 g.slots g.tree

pub tree_sorts : {S T : Type 0} (right : List Sort → S → Type 0) (better : List Sort → T → Type 0) (g : S → T) (f : Bind S) → ((all : List Sort) (s : S) → right all s → better all (g s)) → Sorts right f → Sorts better (on_tree g f)
tree_sorts right better g f so k a b r h =
    let p = first_ok (f a b) _ r h in
    let q = k a b p.0 p.1 in
    at_answer better b p.0.before (g p.0.tree) r p.2 q.slots (λ all on. so all p.0.tree (q.tree all on))

pub two_sort : {R S T : Type 0} (right : List Sort → R → Type 0) (fine : List Sort → S → Type 0) (better : List Sort → T → Type 0) (g : R → S → T) (f : Bind R) (h : Bind S)
    → ((all : List Sort) (q : R) (s : S) → right all q → fine all s → better all (g q s)) → Sorts right f → Sorts fine h → Sorts better (bind_two g f h)
two_sort right fine better g f h so k l a b r e =
    let p = first_ok (f a b) _ r e in
    let q = first_ok (h a p.0.before) _ r p.2 in
    let m = k a b p.0 p.1 in
    let n = l a p.0.before q.0 q.1 in
    at_answer better b q.0.before (g p.0.tree q.0.tree) r q.2 (goes_twice b.slots p.0.before.slots q.0.before.slots m.slots n.slots)
    (λ all on. so all p.0.tree q.0.tree (m.tree all (goes_twice p.0.before.slots q.0.before.slots all n.slots on)) (n.tree all on))

-- a statement of any line
abbrev pub WhatSorts : (ℕ → Bind RWhat) → Type 0
WhatSorts f = (line : ℕ) → Sorts WhatSorted (f line)

-- the slot of a declaration is the next one, and has its sort
declared_at : (slots : List Sort) (ty : Ty) (all : List Sort) → GoesOn (slots ++ Value ty ∷ []) all → slice_get all (length slots) ≡ Some (Value ty)
declared_at slots ty all on = ap (λ l. slice_get l (length slots)) (on.whole ∙ append_assoc slots (Value ty ∷ []) on.more) ∙ at_length slots (Value ty) on.more

pub declare_sorts : (w : Whole) (ty : Ty) (x : List ℕ) (e : Option Expr) → WhatSorts (bind_declare w ty x e)
declare_sorts w ty x e line a b r h =
    let p = passed line UnknownName (unknown_in_option (visible a b) e) _ r h in
    let q = passed line Twice (declared_in b.own x) _ r p in
    let s = passed line WrongKind (stream_in_option (visible a b) e) _ r q in
    let slot : ℕ = length b.slots in
    let made : Option UExpr = placed_option (visible a b) e in
    at_answer WhatSorted b (with_declaration w.names x (Value ty) b) (to.Declare ty slot made) r s (record { more = Value ty ∷ []; whole = refl }) (λ all on. part_declare all ty slot made (declared_at b.slots ty all on))

pub store_sorts : (g : ℕ → UExpr → RWhat) (x : List ℕ) (e : Expr) → ((all : List Sort) (slot : ℕ) (a : UExpr) → WhatSorted all (g slot a)) → WhatSorts (bind_store g x e)
store_sorts g x e so line a b r h =
    let v : List LocalDeclaration = visible a b in
    asked_two line UnknownName WrongKind (unknown_in_both v x e) (option_or (no_number v x) (stream_in v e)) (g (slot_of v x) (placed v e)) b r (λ all. so all (slot_of v x) (placed v e)) h

pub next_sorts : (x : List ℕ) → WhatSorts (bind_next x)
next_sorts x line a b r h =
    let v : List LocalDeclaration = visible a b in
    asked_two line UnknownName WrongKind (unknown v x) (no_number v x) (to.Next (slot_of v x)) b r (λ all. part_next all (slot_of v x)) h

pub assign_next_sorts : (x y : List ℕ) → WhatSorts (bind_assign_next x y)
assign_next_sorts x y line a b r h =
    let v : List LocalDeclaration = visible a b in
    asked_two line UnknownName WrongKind (unknown_of_two v x y) (option_or (no_number v x) (no_number v y)) (to.AssignNext (slot_of v x) (slot_of v y)) b r (λ all. part_assign_next all (slot_of v x) (slot_of v y)) h

pub get_sorts : (x y : List ℕ) → WhatSorts (bind_get x y)
get_sorts x y line a b r h =
    let v : List LocalDeclaration = visible a b in
    asked_two line UnknownName WrongKind (unknown_of_two v x y) (option_or (no_number v x) (no_input v y)) (to.Get (slot_of v x) (slot_of v y)) b r (λ all. part_get all (slot_of v x) (slot_of v y)) h

pub put_sorts : (x : List ℕ) (e : Expr) → WhatSorts (bind_put x e)
put_sorts x e line a b r h =
    let v : List LocalDeclaration = visible a b in
    asked_two line UnknownName WrongKind (unknown_in_both v x e) (option_or (no_output v x) (stream_in v e)) (to.Put (slot_of v x) (placed v e)) b r (λ all. part_put all (slot_of v x) (placed v e)) h

pub throw_sorts : (x : List ℕ) (e : Option Expr) → WhatSorts (bind_throw x e)
throw_sorts x e line a b r h =
    let v : List LocalDeclaration = visible a b in
    let number : ℕ = exception_number a.handled x in
    asked_two line UnknownException WrongKind (unhandled a.handled x) (stream_in_option v e) (to.Throw number (placed_option v e)) b r (λ all. part_throw all number (placed_option v e))
    (passed line UnknownName (unknown_in_option v e) _ r h)

pub called_sorts : {T : Type 0} (w : Whole) (right : List Sort → T → Type 0) (g : RCall → T) (c : Call) (line : ℕ) → ((all : List Sort) (d : RCall) → right all (g d)) → Sorts right (bind_called g w c line)
called_sorts w right g c line so a b r h = let p = first_ok (bind_call w c line a b) _ r h in stays right (g p.0) b r (λ all. so all p.0) p.2

pub if_sorts : (e : Expr) (f h : Bind (List RStmt)) → Sorts BodySorted f → Sorts BodySorted h → WhatSorts (bind_if e f h)
if_sorts e f h k l line a b r is =
    let p = first_ok (bind_test e line a b) _ r is in
    two_sort BodySorted BodySorted WhatSorted (to.If p.0) (bind_block f) (bind_block h) (λ all q s i j. part_if all p.0 q s i j) (block_sorts BodySorted f k) (block_sorts BodySorted h l) a b r p.2

pub while_sorts : (e : Expr) (f : Bind (List RStmt)) → Sorts BodySorted f → WhatSorts (bind_while e f)
while_sorts e f k line a b r is =
    let p = first_ok (bind_test e line a b) _ r is in
    tree_sorts BodySorted WhatSorted (to.While p.0) (bind_block f) (λ all s i. part_while all p.0 s i) (block_sorts BodySorted f k) a b r p.2

-- the variable of a handler
variable_goes : (names : Texts) (y : Option (List ℕ)) (b : Before) → GoesOn b.slots (variable_declared names y b).slots
variable_goes names None b = as_it_was b.slots
variable_goes names (Some y) b = record { more = Value Int32 ∷ []; whole = refl }

variable_at : (names : Texts) (y : Option (List ℕ)) (b : Before) (all : List Sort) → GoesOn (variable_declared names y (opened b)).slots all → VariableIsSorted all (variable_slot y b)
variable_at names None b all on = tt
variable_at names (Some y) b all on = declared_at b.slots Int32 all on

-- a handler, whose slots go on from these
record HandlerSorts (begun : List Sort) (r : BoundTo (List RStmt)) : Type 0 where
  slots : GoesOn begun r.before.slots
  tree : (all : List Sort) → GoesOn r.before.slots all → BodySorted all r.tree

handler_sorts : (w : Whole) (y : Option (List ℕ)) (h : Bind (List RStmt)) (a : Around) (b : Before) (r : BoundTo (List RStmt)) → Sorts BodySorted h → bind_block (bind_handler w y h) a b ≡ Ok r
    → HandlerSorts (variable_declared w.names y (opened b)).slots r
handler_sorts w y h a b r k is =
    let begun : Before = variable_declared w.names y (opened b) in
    let o = first_ok (h (inside_block a b) begun) _ r is in
    let n = k (inside_block a b) begun o.0 o.1 in
    subst (λ (v : BoundTo (List RStmt)). HandlerSorts begun.slots v) (sym (is_bound o.0.tree (after_block b o.0.before) r o.2)) (record { slots = n.slots; tree = n.tree })

pub try_sorts : (w : Whole) (x : List ℕ) (y : Option (List ℕ)) (f h : Bind (List RStmt)) → Sorts BodySorted f → Sorts BodySorted h → Sorts WhatSorted (bind_try w x y f h)
try_sorts w x y f h k l a b r is =
    let p = first_ok (bind_block f (with_handled x a b) (tried w x b)) _ r is in
    let q = first_ok (bind_block (bind_handler w y h) a p.0.before) _ r p.2 in
    let m = block_sorts BodySorted f k (with_handled x a b) (tried w x b) p.0 p.1 in
    let begun : List Sort = (variable_declared w.names y (opened p.0.before)).slots in
    let n = handler_sorts w y h a p.0.before q.0 l q.1 in
    let from : GoesOn p.0.before.slots q.0.before.slots = goes_twice p.0.before.slots begun q.0.before.slots (variable_goes w.names y (opened p.0.before)) n.slots in
    let number : ℕ = a.throws + length b.tries in
    at_answer WhatSorted b q.0.before (to.Try p.0.tree number (variable_slot y p.0.before) q.0.tree) r q.2 (goes_twice b.slots p.0.before.slots q.0.before.slots m.slots from)
    (λ all on. part_try all p.0.tree number (variable_slot y p.0.before) q.0.tree (m.tree all (goes_twice p.0.before.slots q.0.before.slots all from on))
    (variable_at w.names y p.0.before all (goes_twice begun q.0.before.slots all n.slots on)) (n.tree all on))

parts_sort : (test : Option Expr) (f g h : Bind (List RStmt)) → Sorts BodySorted f → Sorts BodySorted g → Sorts BodySorted h → Sorts WhatSorted (bind_parts test f g h)
parts_sort test f g h j k l a b r is =
    let p = first_ok (f a b) _ r is in
    let q = first_ok (g a p.0.before) _ r p.2 in
    let s = first_ok (bind_block h a q.0.before) _ r q.2 in
    let m = j a b p.0 p.1 in
    let n = k a p.0.before q.0 q.1 in
    let o = block_sorts BodySorted h l a q.0.before s.0 s.1 in
    let tested : Option UExpr = placed_option (visible a p.0.before) test in
    let rest : GoesOn p.0.before.slots s.0.before.slots = goes_twice p.0.before.slots q.0.before.slots s.0.before.slots n.slots o.slots in
    at_answer WhatSorted b s.0.before (to.For p.0.tree tested q.0.tree s.0.tree) r s.2 (goes_twice b.slots p.0.before.slots s.0.before.slots m.slots rest)
    (λ all on. part_for all p.0.tree tested q.0.tree s.0.tree (m.tree all (goes_twice p.0.before.slots s.0.before.slots all rest on)) (n.tree all (goes_twice q.0.before.slots s.0.before.slots all o.slots on)) (o.tree all on))

pub for_sorts : (declares : ℕ → List LocalDeclaration) (test : Option Expr) (f g h : Bind (List RStmt)) → Sorts BodySorted f → Sorts BodySorted g → Sorts BodySorted h → WhatSorts (bind_for declares test f g h)
for_sorts declares test f g h j k l line a b r is =
    let p = first_ok (bind_first_test declares test line a b) _ r is in
    block_sorts WhatSorted (bind_parts test f g h) (parts_sort test f g h j k l) a b r p.2

pub inner_sorts : (f : Bind (List RStmt)) → Sorts BodySorted f → Sorts WhatSorted (on_tree to.Block (bind_block f))
inner_sorts f k = tree_sorts BodySorted WhatSorted to.Block (bind_block f) (λ all s i. part_block all s i) (block_sorts BodySorted f k)

pub fork_sorts : (f : Bind (List RBranch)) → Sorts ForkSorted f → Sorts WhatSorted (on_tree to.Par f)
fork_sorts f k = tree_sorts ForkSorted WhatSorted to.Par f (λ all s i. part_par all s i) k
