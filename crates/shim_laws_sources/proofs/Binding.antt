-- What each kind of statement is bound to declares slots after those that stand before it.
use Rattle.std.proofs.Common.{ℕ, ◌+◌, ◌≤◌, ◌≡◌, List, [], ◌∷◌, ◌++◌, Option, Some, None, Ok, length, refl, sym, subst, arith, length-append}
use Rattle.std.specs.Option.{option_or}
use Rattle.shim_base.specs.declared.types.Ty.{Ty}
use Rattle.shim_base.specs.declared.types.Ty.TheVariants.{Int32}
use Rattle.shim_syntax.specs.declared.tree.Call.{Call}
use Rattle.shim_syntax.specs.declared.tree.Expr.{Expr}
use Rattle.shim_syntax.specs.declared.tree.Sort.TheVariants.{Value}
use Rattle.shim_scopes.specs.declared.fault.ScopeKind.{ScopeKind}
use Rattle.shim_scopes.specs.declared.fault.ScopeKind.TheVariants.{UnknownName, UnknownException, Twice, WrongKind}
use Rattle.shim_scopes.specs.declared.scope.LocalDeclaration.{LocalDeclaration}
use Rattle.shim_scopes.specs.declared.tree.RBranch.{RBranch}
use Rattle.shim_scopes.specs.declared.tree.RCall.{RCall}
use Rattle.shim_scopes.specs.declared.tree.RStmt.{RStmt}
use Rattle.shim_scopes.specs.declared.tree.RWhat.{RWhat}
use Rattle.shim_scopes.specs.declared.tree.RWhat.TheVariants as to
use Rattle.shim_scopes.specs.declared.tree.UExpr.{UExpr}
use Rattle.shim_scopes.specs.Binding.{unknown, unknown_in_option, stream_in, stream_in_option, no_number, no_input, no_output, slot_of, placed, placed_option, exception_number, unhandled}
use Rattle.shim_scopes.specs.Refusals.{refused_for}
use Rattle.shim_scopes.specs.Statements.{Whole, Around, Before, BoundTo, Bind, with_declaration, inside_block, opened, after_block, with_handled, tried, variable_declared, variable_slot, bind_handler, bind_declare, bind_store, bind_next, bind_assign_next, bind_get, bind_put, bind_throw, bind_block, on_tree, bind_two, bind_test, bind_if, bind_while, bind_try, bind_parts, bind_first_test, bind_for, visible, declared_in, unknown_in_both, unknown_of_two}
use Rattle.shim_scopes.specs.Calls.{bind_call, bind_called}
use Rattle.shim_units.specs.Own.{some_slot}
use Rattle.shim_units.specs.PartFold.{declares_in}
use Rattle.shim_laws_binding.proofs.Bound.{is_bound}
use Rattle.shim_laws_binding.proofs.Lists.{Each, each_of_both}
use Rattle.shim_laws_sources.proofs.Lists.{each_weaker}
use Rattle.shim_laws_sources.proofs.OwnSteps.{own_what, own_declare, own_next, own_assign_next, own_get, own_put, own_if, own_while, own_for, own_block, own_try, own_throw, own_par}
use Rattle.shim_scopes.proofs.Refusals.{passed, first_ok, bound}

-- the slots from that number on
abbrev pub AllFrom : ℕ → List ℕ → Type 0
AllFrom n ys = Each (λ y. n ≤ y) ys

pub from_less : (m n : ℕ) (ys : List ℕ) → m ≤ n → AllFrom n ys → AllFrom m ys
from_less m n ys less h = each_weaker (λ y. n ≤ y) (λ y. m ≤ y) (λ y k. omega (arith, less, k)) ys h

-- there are no fewer slots than before, and what the tree declares is behind those before
pub record IsAfter {T : Type 0} (own : T → List ℕ) (old : Before) (r : BoundTo T) : Type 0 where
  pub longer : length old.slots ≤ length r.before.slots
  pub behind : AllFrom (length old.slots) (own r.tree)

abbrev pub Adds : {T : Type 0} → (T → List ℕ) → Bind T → Type 0
Adds {T = T} own f = (a : Around) (b : Before) (r : BoundTo T) → f a b ≡ Ok r → IsAfter own b r

-- a tree that declares nothing, or whose declarations are in units of their own
abbrev pub none : {T : Type 0} → T → List ℕ
none t = []

pub at_answer : {T : Type 0} (own : T → List ℕ) (old new : Before) (t : T) (r : BoundTo T) → bound t new ≡ Ok r → length old.slots ≤ length new.slots → AllFrom (length old.slots) (own t) → IsAfter own old r
at_answer {T = T} own old new t r e longer behind = subst (λ (s : BoundTo T). IsAfter own old s) (sym (is_bound t new r e)) (record { longer = longer; behind = behind })

-- nothing is declared
pub stays : {T : Type 0} (own : T → List ℕ) (t : T) (b : Before) (r : BoundTo T) → own t ≡ [] → bound t b ≡ Ok r → IsAfter own b r
stays own t b r nothing e = at_answer own b b t r e (omega arith) (subst (λ ys. AllFrom (length b.slots) ys) (sym nothing) tt)

asked_two : (own : RWhat → List ℕ) (line : ℕ) (kind other : ScopeKind) (o p : Option (List ℕ)) (t : RWhat) (b : Before) (r : BoundTo RWhat) → own t ≡ []
    → refused_for line kind o (refused_for line other p (bound t b)) ≡ Ok r → IsAfter own b r
asked_two own line kind other o p t b r nothing h = stays own t b r nothing (passed line other p _ r (passed line kind o _ r h))

pub block_adds : {T : Type 0} (own : T → List ℕ) (f : Bind T) → Adds own f → Adds own (bind_block f)
block_adds own f k a b r h =
    let p = first_ok (f (inside_block a b) (opened b)) _ r h in
    let g = k (inside_block a b) (opened b) p.0 p.1 in
    at_answer own b (after_block b p.0.before) p.0.tree r p.2 g.longer g.behind

-- the tree around it declares the same, or nothing
pub tree_adds : {S T : Type 0} (own : S → List ℕ) (all : T → List ℕ) (g : S → T) (f : Bind S) → ((n : ℕ) (s : S) → AllFrom n (own s) → AllFrom n (all (g s))) → Adds own f → Adds all (on_tree g f)
tree_adds own all g f same k a b r h =
    let p = first_ok (f a b) _ r h in
    let q = k a b p.0 p.1 in
    at_answer all b p.0.before (g p.0.tree) r p.2 q.longer (same (length b.slots) p.0.tree q.behind)

pub two_add : {R S T : Type 0} (own : R → List ℕ) (next : S → List ℕ) (all : T → List ℕ) (g : R → S → T) (f : Bind R) (h : Bind S)
    → ((n : ℕ) (q : R) (s : S) → AllFrom n (own q) → AllFrom n (next s) → AllFrom n (all (g q s))) → Adds own f → Adds next h → Adds all (bind_two g f h)
two_add own next all g f h same k l a b r e =
    let p = first_ok (f a b) _ r e in
    let q = first_ok (h a p.0.before) _ r p.2 in
    let m = k a b p.0 p.1 in
    let n = l a p.0.before q.0 q.1 in
    at_answer all b q.0.before (g p.0.tree q.0.tree) r q.2 (omega (arith, m.longer, n.longer))
    (same (length b.slots) p.0.tree q.0.tree m.behind (from_less _ _ (next q.0.tree) m.longer n.behind))

-- two lists of slots, as they stand in the whole
pub both_from : (n : ℕ) (all xs ys : List ℕ) → all ≡ xs ++ ys → AllFrom n xs → AllFrom n ys → AllFrom n all
both_from n all xs ys e h k = subst (λ zs. AllFrom n zs) (sym e) (each_of_both (λ y. n ≤ y) xs ys h k)

pub same_from : (n : ℕ) (all xs : List ℕ) → all ≡ xs → AllFrom n xs → AllFrom n all
same_from n all xs e h = subst (λ zs. AllFrom n zs) (sym e) h

-- a statement of any line, whose tree is read in any line
abbrev pub WhatAdds : (ℕ → Bind RWhat) → Type 0
WhatAdds f = (line place : ℕ) → Adds (own_what place) (f line)

pub declare_adds : (w : Whole) (ty : Ty) (x : List ℕ) (e : Option Expr) → WhatAdds (bind_declare w ty x e)
declare_adds w ty x e line place a b r h =
    let p = passed line UnknownName (unknown_in_option (visible a b) e) _ r h in
    let q = passed line Twice (declared_in b.own x) _ r p in
    let s = passed line WrongKind (stream_in_option (visible a b) e) _ r q in
    let slot : ℕ = length b.slots in
    let made : Option UExpr = placed_option (visible a b) e in
    at_answer (own_what place) b (with_declaration w.names x (Value ty) b) (to.Declare ty slot made) r s
    (omega (arith, length-append b.slots (Value ty ∷ [])))
    (same_from slot (own_what place (to.Declare ty slot made)) (slot ∷ []) (own_declare place ty slot made) (omega arith, tt))

pub store_adds : (g : ℕ → UExpr → RWhat) (x : List ℕ) (e : Expr) → ((place slot : ℕ) (a : UExpr) → own_what place (g slot a) ≡ []) → WhatAdds (bind_store g x e)
store_adds g x e nothing line place a b r h =
    let v : List LocalDeclaration = visible a b in
    asked_two (own_what place) line UnknownName WrongKind (unknown_in_both v x e) (option_or (no_number v x) (stream_in v e)) (g (slot_of v x) (placed v e)) b r (nothing place (slot_of v x) (placed v e)) h

pub next_adds : (x : List ℕ) → WhatAdds (bind_next x)
next_adds x line place a b r h =
    let v : List LocalDeclaration = visible a b in
    asked_two (own_what place) line UnknownName WrongKind (unknown v x) (no_number v x) (to.Next (slot_of v x)) b r (own_next place (slot_of v x)) h

pub assign_next_adds : (x y : List ℕ) → WhatAdds (bind_assign_next x y)
assign_next_adds x y line place a b r h =
    let v : List LocalDeclaration = visible a b in
    asked_two (own_what place) line UnknownName WrongKind (unknown_of_two v x y) (option_or (no_number v x) (no_number v y)) (to.AssignNext (slot_of v x) (slot_of v y)) b r (own_assign_next place (slot_of v x) (slot_of v y)) h

pub get_adds : (x y : List ℕ) → WhatAdds (bind_get x y)
get_adds x y line place a b r h =
    let v : List LocalDeclaration = visible a b in
    asked_two (own_what place) line UnknownName WrongKind (unknown_of_two v x y) (option_or (no_number v x) (no_input v y)) (to.Get (slot_of v x) (slot_of v y)) b r (own_get place (slot_of v x) (slot_of v y)) h

pub put_adds : (x : List ℕ) (e : Expr) → WhatAdds (bind_put x e)
put_adds x e line place a b r h =
    let v : List LocalDeclaration = visible a b in
    asked_two (own_what place) line UnknownName WrongKind (unknown_in_both v x e) (option_or (no_output v x) (stream_in v e)) (to.Put (slot_of v x) (placed v e)) b r (own_put place (slot_of v x) (placed v e)) h

pub throw_adds : (x : List ℕ) (e : Option Expr) → WhatAdds (bind_throw x e)
throw_adds x e line place a b r h =
    let v : List LocalDeclaration = visible a b in
    let number : ℕ = exception_number a.handled x in
    asked_two (own_what place) line UnknownException WrongKind (unhandled a.handled x) (stream_in_option v e) (to.Throw number (placed_option v e)) b r (own_throw place number (placed_option v e))
    (passed line UnknownName (unknown_in_option v e) _ r h)

pub called_adds : {T : Type 0} (w : Whole) (own : T → List ℕ) (g : RCall → T) (c : Call) (line : ℕ) → ((d : RCall) → own (g d) ≡ []) → Adds own (bind_called g w c line)
called_adds w own g c line nothing a b r h = let p = first_ok (bind_call w c line a b) _ r h in stays own (g p.0) b r (nothing p.0) p.2

pub if_adds : (e : Expr) (f h : Bind (List RStmt)) → Adds declares_in f → Adds declares_in h → WhatAdds (bind_if e f h)
if_adds e f h k l line place a b r is =
    let p = first_ok (bind_test e line a b) _ r is in
    two_add declares_in declares_in (own_what place) (to.If p.0) (bind_block f) (bind_block h)
    (λ n q s i j. both_from n (own_what place (to.If p.0 q s)) (declares_in q) (declares_in s) (own_if place p.0 q s) i j)
    (block_adds declares_in f k) (block_adds declares_in h l) a b r p.2

pub while_adds : (e : Expr) (f : Bind (List RStmt)) → Adds declares_in f → WhatAdds (bind_while e f)
while_adds e f k line place a b r is =
    let p = first_ok (bind_test e line a b) _ r is in
    tree_adds declares_in (own_what place) (to.While p.0) (bind_block f) (λ n s i. same_from n (own_what place (to.While p.0 s)) (declares_in s) (own_while place p.0 s) i) (block_adds declares_in f k) a b r p.2

-- the variable of a handler
variable_longer : (w : Whole) (y : Option (List ℕ)) (b : Before) → length b.slots ≤ length (variable_declared w.names y b).slots
variable_longer w None b = omega arith
variable_longer w (Some y) b = omega (arith, length-append b.slots (Value Int32 ∷ []))

variable_from : (n : ℕ) (y : Option (List ℕ)) (b : Before) → n ≤ length b.slots → AllFrom n (some_slot (variable_slot y b))
variable_from n None b h = tt
variable_from n (Some y) b h = (h, tt)

handler_adds : (w : Whole) (y : Option (List ℕ)) (h : Bind (List RStmt)) → Adds declares_in h → Adds declares_in (bind_handler w y h)
handler_adds w y h k a b r is =
    let longer = variable_longer w y b in
    let n = k a (variable_declared w.names y b) r is in
    record { longer = omega (arith, longer, n.longer); behind = from_less _ _ (declares_in r.tree) longer n.behind }

pub try_adds : (w : Whole) (x : List ℕ) (y : Option (List ℕ)) (f h : Bind (List RStmt)) → Adds declares_in f → Adds declares_in h → (place : ℕ) → Adds (own_what place) (bind_try w x y f h)
try_adds w x y f h k l place a b r is =
    let p = first_ok (bind_block f (with_handled x a b) (tried w x b)) _ r is in
    let q = first_ok (bind_block (bind_handler w y h) a p.0.before) _ r p.2 in
    let m = block_adds declares_in f k (with_handled x a b) (tried w x b) p.0 p.1 in
    let n = block_adds declares_in (bind_handler w y h) (handler_adds w y h l) a p.0.before q.0 q.1 in
    let number : ℕ = a.throws + length b.tries in
    let slot : Option ℕ = variable_slot y p.0.before in
    at_answer (own_what place) b q.0.before (to.Try p.0.tree number slot q.0.tree) r q.2 (omega (arith, m.longer, n.longer))
    (both_from (length b.slots) (own_what place (to.Try p.0.tree number slot q.0.tree)) (declares_in p.0.tree) (some_slot slot ++ declares_in q.0.tree) (own_try place p.0.tree number slot q.0.tree)
    m.behind
    (both_from (length b.slots) (some_slot slot ++ declares_in q.0.tree) (some_slot slot) (declares_in q.0.tree) refl (variable_from (length b.slots) y p.0.before m.longer)
    (from_less _ _ (declares_in q.0.tree) m.longer n.behind)))

parts_add : (test : Option Expr) (f g h : Bind (List RStmt)) → Adds declares_in f → Adds declares_in g → Adds declares_in h → (place : ℕ) → Adds (own_what place) (bind_parts test f g h)
parts_add test f g h j k l place a b r is =
    let p = first_ok (f a b) _ r is in
    let q = first_ok (g a p.0.before) _ r p.2 in
    let s = first_ok (bind_block h a q.0.before) _ r q.2 in
    let m = j a b p.0 p.1 in
    let n = k a p.0.before q.0 q.1 in
    let o = block_adds declares_in h l a q.0.before s.0 s.1 in
    let tested : Option UExpr = placed_option (visible a p.0.before) test in
    at_answer (own_what place) b s.0.before (to.For p.0.tree tested q.0.tree s.0.tree) r s.2 (omega (arith, m.longer, n.longer, o.longer))
    (both_from (length b.slots) (own_what place (to.For p.0.tree tested q.0.tree s.0.tree)) (declares_in p.0.tree) (declares_in q.0.tree ++ declares_in s.0.tree) (own_for place p.0.tree tested q.0.tree s.0.tree)
    m.behind
    (both_from (length b.slots) (declares_in q.0.tree ++ declares_in s.0.tree) (declares_in q.0.tree) (declares_in s.0.tree) refl
    (from_less _ _ (declares_in q.0.tree) m.longer n.behind) (from_less _ _ (declares_in s.0.tree) (omega (arith, m.longer, n.longer)) o.behind)))

pub for_adds : (declares : ℕ → List LocalDeclaration) (test : Option Expr) (f g h : Bind (List RStmt)) → Adds declares_in f → Adds declares_in g → Adds declares_in h → WhatAdds (bind_for declares test f g h)
for_adds declares test f g h j k l line place a b r is =
    let p = first_ok (bind_first_test declares test line a b) _ r is in
    block_adds (own_what place) (bind_parts test f g h) (parts_add test f g h j k l place) a b r p.2

pub inner_adds : (f : Bind (List RStmt)) → Adds declares_in f → (place : ℕ) → Adds (own_what place) (on_tree to.Block (bind_block f))
inner_adds f k place = tree_adds declares_in (own_what place) to.Block (bind_block f) (λ n s i. same_from n (own_what place (to.Block s)) (declares_in s) (own_block place s) i) (block_adds declares_in f k)

pub fork_adds : (f : Bind (List RBranch)) → Adds none f → (place : ℕ) → Adds (own_what place) (on_tree to.Par f)
fork_adds f k place = tree_adds none (own_what place) to.Par f (λ n s i. same_from n (own_what place (to.Par s)) [] (own_par place s) tt) k
