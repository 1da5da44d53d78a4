-- What a `for` and a `try` mean, by the answers for what stands in them.
use Rattle.std.proofs.Common.{ℕ, ◌≡◌, ◌∙◌, ◌+◌, List, [], ◌∷◌, ◌++◌, length, take, drop, Option, Some, None, Result, Ok, Err, refl, sym, ap, subst, IsErr, IsErrAnd, arith}
use Rattle.std.proofs.lemmas.Grind.{common_steps}
use Rattle.shim_syntax.specs.declared.tree.Sort.{Sort}
use Rattle.shim_syntax.specs.declared.tree.Expr.{Expr}
use Rattle.shim_syntax.specs.declared.tree.Stmt.{Stmt}
use Rattle.shim_syntax.specs.declared.tree.What.{What, What-F, roll-What}
use Rattle.shim_syntax.specs.declared.tree.What.TheVariants as st
use Rattle.shim_scopes.specs.declared.tree.UExpr.{UExpr}
use Rattle.shim_scopes.specs.declared.tree.RStmt.{RStmt}
use Rattle.shim_scopes.specs.declared.tree.RWhat.{RWhat}
use Rattle.shim_scopes.specs.declared.tree.RWhat.TheVariants as rs
use Rattle.shim_scopes.specs.declared.fault.ScopeFault.{ScopeFault}
use Rattle.shim_scopes.specs.declared.fault.ScopeFault.TheVariants.{Refused, NoMemory}
use Rattle.shim_scopes.specs.declared.scope.Handled.{Handled}
use Rattle.shim_scopes.specs.declared.scope.LocalDeclaration.{LocalDeclaration}
use Rattle.shim_scopes.specs.declared.scope.Scope.{Scope}
use Rattle.shim_syntax.specs.Names.{Texts}
use Rattle.shim_scopes.specs.Refusals.{Refusal, and_then}
use Rattle.shim_scopes.specs.Binding.{placed_option}
use Rattle.shim_scopes.specs.Statements.{Whole, Around, Before, BoundTo, Meant, Bind, visible, inside_block, opened, after_block, bind_block, bind_parts, bind_first_test, bind_for, bind_handler, bind_try, with_handled, tried, variable_slot, variable_declared}
use Rattle.shim_scopes.specs.Bodies.{WhatMeans, bind_stmts, declared_first}
use Rattle.shim_scopes.specs.State.{GivesBound, Kept, around_of, before_of, IsBegun, IsTried}
use Rattle.shim_scopes.proofs.MeaningSteps.{what_means, rolled_what}
use Rattle.shim_scopes.proofs.Seams.{seam}

-- a refusal further in is passed on
pub passed_on : {S T : Type 0} (e : ScopeFault) (r : Result T ScopeFault) (b c : Before) (m : Meant S) (n : Meant T)
    → IsErr r × IsErrAnd r (λ y. y ≡ e) → ((x : Refusal) → m ≡ Err x → n ≡ Err x) → GivesBound {T = S} (Err e) b m → GivesBound r c n
passed_on e (Ok v) b c m n w f h = absurd w.1
passed_on {T = T} (Refused l k s) (Err y) b c m n w f h = subst (λ u. GivesBound {T = T} (Err u) c n) (sym w.1) (f _ h)
passed_on {T = T} NoMemory (Err y) b c m n w f h = subst (λ u. GivesBound {T = T} (Err u) c n) (sym w.1) tt

pub for_means : (w : Whole) (first : List Stmt) (test : Option Expr) (step body : List Stmt) (n : ℕ) (a : Around) (b : Before)
    → (what_means w (st.For first test step body)).bind n a b ≡ bind_for (declared_first w first) test (bind_stmts w first) (bind_stmts w step) (bind_stmts w body) n a b
unfolding roll-What denote.Hole.Carrier.roll
for_means w first test step body n a b = ap (λ (m : WhatMeans). m.bind n a b) (rolled_what w (What-F.For first test step body))

pub try_means : (w : Whole) (body : List Stmt) (x : List ℕ) (y : Option (List ℕ)) (handler : List Stmt) (n : ℕ) (a : Around) (b : Before)
    → (what_means w (st.Try body x y handler)).bind n a b ≡ bind_try w x y (bind_stmts w body) (bind_stmts w handler) a b
unfolding roll-What denote.Hole.Carrier.roll
try_means w body x y handler n a b = ap (λ (m : WhatMeans). m.bind n a b) (rolled_what w (What-F.Try body x y handler))

-- the place inside a block, as the scope says it
around_inside : (start : ℕ) (s : Scope) → around_of (length s.visible) s ≡ inside_block (around_of start s) (before_of start s)
around_inside start s =
    let all : take (length s.visible) s.visible ≡ s.visible = grind (arith, common_steps) in
    ap (λ (xs : List LocalDeclaration). record { outer = xs; handled = s.handled; throws = s.throws }) (all ∙ sym (seam start s.visible))

before_inside : (start : ℕ) (s : Scope) → before_of (length s.visible) s ≡ opened (before_of start s)
before_inside start s =
    let none : drop (length s.visible) s.visible ≡ [] = grind (arith, common_steps) in
    ap (λ (xs : List LocalDeclaration). record { own = xs; slots = s.slots; slot_names = s.slot_names; tries = s.tries }) none

pub around_kept : {n : ℕ} {s t : Scope} → Kept n s t → around_of n t ≡ around_of n s
around_kept k = rw (k.outer, k.handled, k.throws) refl

parts_at_first : (test : Option Expr) (f g h : Bind (List RStmt)) (a : Around) (b : Before) (x : Refusal) → f a b ≡ Err x → bind_parts test f g h a b ≡ Err x
parts_at_first test f g h a b x p = rw p refl

parts_at_step : (test : Option Expr) (f g h : Bind (List RStmt)) (a : Around) (b : Before) (r : BoundTo (List RStmt)) (x : Refusal)
    → f a b ≡ Ok r → g a r.before ≡ Err x → bind_parts test f g h a b ≡ Err x
parts_at_step test f g h a b r x p q = rw (p, q) refl

parts_at_body : (test : Option Expr) (f g h : Bind (List RStmt)) (a : Around) (b : Before) (r s : BoundTo (List RStmt)) (x : Refusal)
    → f a b ≡ Ok r → g a r.before ≡ Ok s → bind_block h a s.before ≡ Err x → bind_parts test f g h a b ≡ Err x
parts_at_body test f g h a b r s x p q t = rw (p, q, t) refl

parts_done : (test : Option Expr) (f g h : Bind (List RStmt)) (a : Around) (b : Before) (r s t : BoundTo (List RStmt))
    → f a b ≡ Ok r → g a r.before ≡ Ok s → bind_block h a s.before ≡ Ok t
    → bind_parts test f g h a b ≡ Ok (record { tree = rs.For r.tree (placed_option (visible a r.before) test) s.tree t.tree; before = t.before })
parts_done test f g h a b r s t p q u = rw (p, q, u) refl

for_fails : (declares : ℕ → List LocalDeclaration) (test : Option Expr) (f g h : Bind (List RStmt)) (n : ℕ) (a : Around) (b : Before) (x : Refusal)
    → bind_first_test declares test n a b ≡ Ok tt → bind_parts test f g h (inside_block a b) (opened b) ≡ Err x → bind_for declares test f g h n a b ≡ Err x
for_fails declares test f g h n a b x p q =
    ap (λ z. and_then z (λ (t : Unit {0}). bind_block (bind_parts test f g h) a b)) p
    ∙ ap (λ z. and_then z (λ (r : BoundTo RWhat). Ok (record { tree = r.tree; before = after_block b r.before }))) q

for_done : (declares : ℕ → List LocalDeclaration) (test : Option Expr) (f g h : Bind (List RStmt)) (n : ℕ) (a : Around) (b : Before) (r : BoundTo RWhat)
    → bind_first_test declares test n a b ≡ Ok tt → bind_parts test f g h (inside_block a b) (opened b) ≡ Ok r
    → bind_for declares test f g h n a b ≡ Ok (record { tree = r.tree; before = after_block b r.before })
for_done declares test f g h n a b r p q =
    ap (λ z. and_then z (λ (t : Unit {0}). bind_block (bind_parts test f g h) a b)) p
    ∙ ap (λ z. and_then z (λ (r : BoundTo RWhat). Ok (record { tree = r.tree; before = after_block b r.before }))) q

inside : (start n : ℕ) (s : Scope) → n ≡ length s.visible → around_of n s ≡ inside_block (around_of start s) (before_of start s)
inside start n s e = ap (λ i. around_of i s) e ∙ around_inside start s

begins : (start n : ℕ) (s : Scope) → n ≡ length s.visible → before_of n s ≡ opened (before_of start s)
begins start n s e = ap (λ i. before_of i s) e ∙ before_inside start s

pub kept_both : {n : ℕ} {s t u : Scope} → Kept n s t → Kept n t u → Kept n s u
kept_both k l = record { outer = l.outer ∙ k.outer; long = l.long; handled = l.handled ∙ k.handled; throws = l.throws ∙ k.throws }

-- what was in scope before a block is in scope after it
kept_cut : {n : ℕ} {s t : Scope} → n ≡ length s.visible → Kept n s t → take n t.visible ≡ s.visible
kept_cut {n = n} {s = s} e k =
    let all : take (length s.visible) s.visible ≡ s.visible = grind (arith, common_steps) in
    k.outer ∙ ap (λ i. take i s.visible) e ∙ all

abbrev Bodies : Type 0
Bodies = Bind (List RStmt)

-- a `for` whose first statement wasn't taken
pub for_at_first : (w : Whole) (start n line : ℕ) (old s : Scope) (what : What) (first : List Stmt) (test : Option Expr) (step body : List Stmt) (x : Refusal)
    → what ≡ st.For first test step body → s ≡ old → n ≡ length s.visible
    → bind_first_test (declared_first w first) test line (around_of start old) (before_of start old) ≡ Ok tt
    → bind_stmts w first (around_of n s) (before_of n s) ≡ Err x
    → (what_means w what).bind line (around_of start old) (before_of start old) ≡ Err x
for_at_first w start n line old s what first test step body x is same len passed p =
    let a : Around = inside_block (around_of start s) (before_of start s) in
    let b : Before = opened (before_of start s) in
    let p' : bind_stmts w first a b ≡ Err x =
    subst (λ v. bind_stmts w first v b ≡ Err x) (inside start n s len)
    (subst (λ v. bind_stmts w first (around_of n s) v ≡ Err x) (begins start n s len) p) in
    let passed' : bind_first_test (declared_first w first) test line (around_of start s) (before_of start s) ≡ Ok tt =
    subst (λ v. bind_first_test (declared_first w first) test line (around_of start v) (before_of start v) ≡ Ok tt) (sym same) passed in
    ap (λ v. (what_means w v).bind line (around_of start old) (before_of start old)) is
    ∙ subst (λ v. (what_means w (st.For first test step body)).bind line (around_of start v) (before_of start v) ≡ Err x) same
    (for_means w first test step body line (around_of start s) (before_of start s)
    ∙ for_fails (declared_first w first) test (bind_stmts w first) (bind_stmts w step) (bind_stmts w body) line (around_of start s) (before_of start s) x passed'
    (parts_at_first test (bind_stmts w first) (bind_stmts w step) (bind_stmts w body) a b x p'))

-- a `for` whose first statement was taken, and whose step was not
pub for_at_step : (w : Whole) (start n line : ℕ) (old s one : Scope) (what : What) (first : List Stmt) (test : Option Expr) (step body : List Stmt) (f : List RStmt) (x : Refusal)
    → what ≡ st.For first test step body → s ≡ old → n ≡ length s.visible
    → bind_first_test (declared_first w first) test line (around_of start old) (before_of start old) ≡ Ok tt
    → bind_stmts w first (around_of n s) (before_of n s) ≡ Ok (record { tree = f; before = before_of n one }) → Kept n s one
    → bind_stmts w step (around_of n one) (before_of n one) ≡ Err x
    → (what_means w what).bind line (around_of start old) (before_of start old) ≡ Err x
for_at_step w start n line old s one what first test step body f x is same len passed p k q =
    let a : Around = inside_block (around_of start s) (before_of start s) in
    let b : Before = opened (before_of start s) in
    let p' : bind_stmts w first a b ≡ Ok (record { tree = f; before = before_of n one }) =
    subst (λ v. bind_stmts w first v b ≡ Ok (record { tree = f; before = before_of n one })) (inside start n s len)
    (subst (λ v. bind_stmts w first (around_of n s) v ≡ Ok (record { tree = f; before = before_of n one })) (begins start n s len) p) in
    let q' : bind_stmts w step a (before_of n one) ≡ Err x = subst (λ v. bind_stmts w step v (before_of n one) ≡ Err x) (around_kept k ∙ inside start n s len) q in
    let passed' : bind_first_test (declared_first w first) test line (around_of start s) (before_of start s) ≡ Ok tt =
    subst (λ v. bind_first_test (declared_first w first) test line (around_of start v) (before_of start v) ≡ Ok tt) (sym same) passed in
    ap (λ v. (what_means w v).bind line (around_of start old) (before_of start old)) is
    ∙ subst (λ v. (what_means w (st.For first test step body)).bind line (around_of start v) (before_of start v) ≡ Err x) same
    (for_means w first test step body line (around_of start s) (before_of start s)
    ∙ for_fails (declared_first w first) test (bind_stmts w first) (bind_stmts w step) (bind_stmts w body) line (around_of start s) (before_of start s) x passed'
    (parts_at_step test (bind_stmts w first) (bind_stmts w step) (bind_stmts w body) a b (record { tree = f; before = before_of n one }) x p' q'))

-- and whose body was not
pub for_at_body : (w : Whole) (start n line : ℕ) (old s one two : Scope) (what : What) (first : List Stmt) (test : Option Expr) (step body : List Stmt) (f g : List RStmt) (x : Refusal)
    → what ≡ st.For first test step body → s ≡ old → n ≡ length s.visible
    → bind_first_test (declared_first w first) test line (around_of start old) (before_of start old) ≡ Ok tt
    → bind_stmts w first (around_of n s) (before_of n s) ≡ Ok (record { tree = f; before = before_of n one }) → Kept n s one
    → bind_stmts w step (around_of n one) (before_of n one) ≡ Ok (record { tree = g; before = before_of n two }) → Kept n one two
    → bind_block (bind_stmts w body) (around_of n two) (before_of n two) ≡ Err x
    → (what_means w what).bind line (around_of start old) (before_of start old) ≡ Err x
for_at_body w start n line old s one two what first test step body f g x is same len passed p k q l r =
    let a : Around = inside_block (around_of start s) (before_of start s) in
    let b : Before = opened (before_of start s) in
    let in_it : around_of n s ≡ a = inside start n s len in
    let p' : bind_stmts w first a b ≡ Ok (record { tree = f; before = before_of n one }) =
    subst (λ v. bind_stmts w first v b ≡ Ok (record { tree = f; before = before_of n one })) in_it
    (subst (λ v. bind_stmts w first (around_of n s) v ≡ Ok (record { tree = f; before = before_of n one })) (begins start n s len) p) in
    let q' : bind_stmts w step a (before_of n one) ≡ Ok (record { tree = g; before = before_of n two }) =
    subst (λ v. bind_stmts w step v (before_of n one) ≡ Ok (record { tree = g; before = before_of n two })) (around_kept k ∙ in_it) q in
    let r' : bind_block (bind_stmts w body) a (before_of n two) ≡ Err x =
    subst (λ v. bind_block (bind_stmts w body) v (before_of n two) ≡ Err x) (around_kept (kept_both k l) ∙ in_it) r in
    let passed' : bind_first_test (declared_first w first) test line (around_of start s) (before_of start s) ≡ Ok tt =
    subst (λ v. bind_first_test (declared_first w first) test line (around_of start v) (before_of start v) ≡ Ok tt) (sym same) passed in
    ap (λ v. (what_means w v).bind line (around_of start old) (before_of start old)) is
    ∙ subst (λ v. (what_means w (st.For first test step body)).bind line (around_of start v) (before_of start v) ≡ Err x) same
    (for_means w first test step body line (around_of start s) (before_of start s)
    ∙ for_fails (declared_first w first) test (bind_stmts w first) (bind_stmts w step) (bind_stmts w body) line (around_of start s) (before_of start s) x passed'
    (parts_at_body test (bind_stmts w first) (bind_stmts w step) (bind_stmts w body) a b (record { tree = f; before = before_of n one }) (record { tree = g; before = before_of n two }) x p' q' r'))

-- and one that was taken whole, with the scope as it was left
pub for_whole : (w : Whole) (start n line : ℕ) (old s one two three : Scope) (what : What) (first : List Stmt) (test : Option Expr) (step body : List Stmt) (f g h : List RStmt) (made : Option UExpr) (left : List LocalDeclaration)
    → what ≡ st.For first test step body → s ≡ old → n ≡ length s.visible
    → bind_first_test (declared_first w first) test line (around_of start old) (before_of start old) ≡ Ok tt
    → bind_stmts w first (around_of n s) (before_of n s) ≡ Ok (record { tree = f; before = before_of n one }) → Kept n s one
    → made ≡ placed_option one.visible test
    → bind_stmts w step (around_of n one) (before_of n one) ≡ Ok (record { tree = g; before = before_of n two }) → Kept n one two
    → bind_block (bind_stmts w body) (around_of n two) (before_of n two) ≡ Ok (record { tree = h; before = before_of n three }) → Kept n two three
    → left ≡ take n three.visible
    → (what_means w what).bind line (around_of start old) (before_of start old)
    ≡ Ok (record { tree = rs.For f made g h; before = before_of start (record three { visible = left }) })
for_whole w start n line old s one two three what first test step body f g h made left is same len passed p k placed q l r m cut =
    let a : Around = inside_block (around_of start s) (before_of start s) in
    let b : Before = opened (before_of start s) in
    let in_it : around_of n s ≡ a = inside start n s len in
    let p' : bind_stmts w first a b ≡ Ok (record { tree = f; before = before_of n one }) =
    subst (λ v. bind_stmts w first v b ≡ Ok (record { tree = f; before = before_of n one })) in_it
    (subst (λ v. bind_stmts w first (around_of n s) v ≡ Ok (record { tree = f; before = before_of n one })) (begins start n s len) p) in
    let q' : bind_stmts w step a (before_of n one) ≡ Ok (record { tree = g; before = before_of n two }) =
    subst (λ v. bind_stmts w step v (before_of n one) ≡ Ok (record { tree = g; before = before_of n two })) (around_kept k ∙ in_it) q in
    let r' : bind_block (bind_stmts w body) a (before_of n two) ≡ Ok (record { tree = h; before = before_of n three }) =
    subst (λ v. bind_block (bind_stmts w body) v (before_of n two) ≡ Ok (record { tree = h; before = before_of n three })) (around_kept (kept_both k l) ∙ in_it) r in
    let passed' : bind_first_test (declared_first w first) test line (around_of start s) (before_of start s) ≡ Ok tt =
    subst (λ v. bind_first_test (declared_first w first) test line (around_of start v) (before_of start v) ≡ Ok tt) (sym same) passed in
    let seen : visible a (before_of n one) ≡ one.visible =
    ap (λ (v : Around). visible v (before_of n one)) (sym (around_kept k ∙ in_it)) ∙ seam n one.visible in
    let lefts : left ≡ s.visible = cut ∙ kept_cut len (kept_both (kept_both k l) m) in
    ap (λ v. (what_means w v).bind line (around_of start old) (before_of start old)) is
    ∙ subst (λ v. (what_means w (st.For first test step body)).bind line (around_of start v) (before_of start v) ≡ Ok (record { tree = rs.For f made g h; before = before_of start (record three { visible = left }) })) same
    (for_means w first test step body line (around_of start s) (before_of start s)
    ∙ for_done (declared_first w first) test (bind_stmts w first) (bind_stmts w step) (bind_stmts w body) line (around_of start s) (before_of start s) _ passed'
    (parts_done test (bind_stmts w first) (bind_stmts w step) (bind_stmts w body) a b (record { tree = f; before = before_of n one }) (record { tree = g; before = before_of n two }) (record { tree = h; before = before_of n three }) p' q' r')
    ∙ ap (λ (v : Option UExpr). Ok (record { tree = rs.For f v g h; before = after_block (before_of start s) (before_of n three) })) (ap (λ (xs : List LocalDeclaration). placed_option xs test) seen ∙ sym placed)
    ∙ ap (λ (xs : List LocalDeclaration). Ok (record { tree = rs.For f made g h; before = record { own = drop start xs; slots = three.slots; slot_names = three.slot_names; tries = three.tries } })) (sym lefts))

-- what is around the first block of a `try`, and around the second

try_around : (start : ℕ) (w : Whole) (x : List ℕ) (s one : Scope) (made : ℕ) → IsTried w.names x s made one → around_of start one ≡ with_handled x (around_of start s) (before_of start s)
try_around start w x s one made t = ap (λ (v : Scope). around_of start v) t.after

try_before : (start : ℕ) (w : Whole) (x : List ℕ) (s one : Scope) (made : ℕ) → IsTried w.names x s made one → before_of start one ≡ tried w x (before_of start s)
try_before start w x s one made t = ap (λ (v : Scope). before_of start v) t.after

try_behind : (start n : ℕ) (names : Texts) (x : List ℕ) (s one two three : Scope) (made : ℕ) → n ≡ length s.handled → IsTried names x s made one → Kept start one two
    → three ≡ record two { handled = take n two.handled } → around_of start three ≡ around_of start s
try_behind start n names x s one two three made len t k cut =
    let outer : take start two.visible ≡ take start s.visible = k.outer ∙ ap (λ (v : Scope). take start v.visible) t.after in
    let throws : two.throws ≡ s.throws = k.throws ∙ ap (λ (v : Scope). v.throws) t.after in
    let whole : two.handled ≡ s.handled ++ record { name = x; number = s.throws + length s.tries } ∷ [] = k.handled ∙ ap (λ (v : Scope). v.handled) t.after in
    let front : take (length s.handled) (s.handled ++ record { name = x; number = s.throws + length s.tries } ∷ []) ≡ s.handled = grind (arith, common_steps) in
    let handled : take n two.handled ≡ s.handled = ap (λ (hs : List Handled). take n hs) whole ∙ ap (λ i. take i (s.handled ++ record { name = x; number = s.throws + length s.tries } ∷ [])) len ∙ front in
    ap (λ (v : Scope). around_of start v) cut ∙ rw (outer, handled, throws) refl

-- the place inside a handler, after its variable
in_handler : (w : Whole) (start n : ℕ) (s t : Scope) (y : Option (List ℕ)) (slot : Option ℕ) (f : Bodies) (m : Meant (List RStmt))
    → n ≡ length s.visible → IsBegun w.names y (before_of n s) slot (before_of n t) → Kept n s t → f (around_of n t) (before_of n t) ≡ m
    → bind_handler w y f (inside_block (around_of start s) (before_of start s)) (opened (before_of start s)) ≡ m
in_handler w start n s t y slot f m len begun k p =
    let before : before_of n t ≡ variable_declared w.names y (opened (before_of start s)) = begun.after ∙ ap (λ v. variable_declared w.names y v) (begins start n s len) in
    subst (λ v. f v (variable_declared w.names y (opened (before_of start s))) ≡ m) (around_kept k ∙ inside start n s len) (subst (λ v. f (around_of n t) v ≡ m) before p)

-- its slot follows from the slots alone
same_slot : (y : Option (List ℕ)) (b c : Before) → b.slots ≡ c.slots → variable_slot y b ≡ variable_slot y c
same_slot None b c e = refl
same_slot (Some y) b c e = ap (λ (xs : List Sort). Some (length xs)) e

block_fails : (f : Bodies) (a : Around) (b : Before) (e : Refusal) → f (inside_block a b) (opened b) ≡ Err e → bind_block f a b ≡ Err e
block_fails f a b e p = ap (λ z. and_then z (λ (r : BoundTo (List RStmt)). Ok (record { tree = r.tree; before = after_block b r.before }))) p

block_done : (f : Bodies) (a : Around) (b : Before) (r : BoundTo (List RStmt)) → f (inside_block a b) (opened b) ≡ Ok r → bind_block f a b ≡ Ok (record { tree = r.tree; before = after_block b r.before })
block_done f a b r p = ap (λ z. and_then z (λ (r : BoundTo (List RStmt)). Ok (record { tree = r.tree; before = after_block b r.before }))) p

try_at_handler : (w : Whole) (x : List ℕ) (y : Option (List ℕ)) (f g : Bodies) (a : Around) (b : Before) (r : BoundTo (List RStmt)) (e : Refusal)
    → bind_block f (with_handled x a b) (tried w x b) ≡ Ok r → bind_block (bind_handler w y g) a r.before ≡ Err e → bind_try w x y f g a b ≡ Err e
try_at_handler w x y f g a b r e p q = rw (p, q) refl

try_done : (w : Whole) (x : List ℕ) (y : Option (List ℕ)) (f g : Bodies) (a : Around) (b : Before) (r s : BoundTo (List RStmt))
    → bind_block f (with_handled x a b) (tried w x b) ≡ Ok r → bind_block (bind_handler w y g) a r.before ≡ Ok s
    → bind_try w x y f g a b ≡ Ok (record { tree = rs.Try r.tree (a.throws + length b.tries) (variable_slot y r.before) s.tree; before = s.before })
try_done w x y f g a b r s p q = rw (p, q) refl

-- a `try` whose second block wasn't taken
pub try_refused : (w : Whole) (start n inner line : ℕ) (s one two three four : Scope) (what : What) (body : List Stmt) (x : List ℕ) (y : Option (List ℕ)) (handler : List Stmt) (made : ℕ) (slot : Option ℕ)
    (f : List RStmt) (e : Refusal)
    → what ≡ st.Try body x y handler → n ≡ length s.handled → IsTried w.names x s made one
    → bind_block (bind_stmts w body) (around_of start one) (before_of start one) ≡ Ok (record { tree = f; before = before_of start two }) → Kept start one two
    → three ≡ record two { handled = take n two.handled }
    → inner ≡ length three.visible → IsBegun w.names y (before_of inner three) slot (before_of inner four) → Kept inner three four
    → bind_stmts w handler (around_of inner four) (before_of inner four) ≡ Err e
    → (what_means w what).bind line (around_of start s) (before_of start s) ≡ Err e
try_refused w start n inner line s one two three four what body x y handler made slot f e is len t p k cut long begun l q =
    let a : Around = around_of start s in
    let b : Before = before_of start s in
    let p' : bind_block (bind_stmts w body) (with_handled x a b) (tried w x b) ≡ Ok (record { tree = f; before = before_of start two }) =
    subst (λ v. bind_block (bind_stmts w body) v (tried w x b) ≡ Ok (record { tree = f; before = before_of start two })) (try_around start w x s one made t)
    (subst (λ v. bind_block (bind_stmts w body) (around_of start one) v ≡ Ok (record { tree = f; before = before_of start two })) (try_before start w x s one made t) p) in
    let r : bind_block (bind_handler w y (bind_stmts w handler)) (around_of start three) (before_of start three) ≡ Err e =
    block_fails (bind_handler w y (bind_stmts w handler)) (around_of start three) (before_of start three) e
    (in_handler w start inner three four y slot (bind_stmts w handler) (Err e) long begun l q) in
    let q' : bind_block (bind_handler w y (bind_stmts w handler)) a (before_of start two) ≡ Err e =
    subst (λ v. bind_block (bind_handler w y (bind_stmts w handler)) v (before_of start two) ≡ Err e) (try_behind start n w.names x s one two three made len t k cut)
    (subst (λ v. bind_block (bind_handler w y (bind_stmts w handler)) (around_of start three) v ≡ Err e) (ap (λ (v : Scope). before_of start v) cut) r) in
    ap (λ v. (what_means w v).bind line a b) is ∙ try_means w body x y handler line a b
    ∙ try_at_handler w x y (bind_stmts w body) (bind_stmts w handler) a b (record { tree = f; before = before_of start two }) e p' q'

-- and one that was taken whole, with the scope as it was left
pub try_whole : (w : Whole) (start n inner line : ℕ) (s one two three four five : Scope) (what : What) (body : List Stmt) (x : List ℕ) (y : Option (List ℕ)) (handler : List Stmt) (made : ℕ) (slot : Option ℕ)
    (f g : List RStmt) (left : List LocalDeclaration)
    → what ≡ st.Try body x y handler → n ≡ length s.handled → IsTried w.names x s made one
    → bind_block (bind_stmts w body) (around_of start one) (before_of start one) ≡ Ok (record { tree = f; before = before_of start two }) → Kept start one two
    → three ≡ record two { handled = take n two.handled }
    → inner ≡ length three.visible → IsBegun w.names y (before_of inner three) slot (before_of inner four) → Kept inner three four
    → bind_stmts w handler (around_of inner four) (before_of inner four) ≡ Ok (record { tree = g; before = before_of inner five }) → Kept inner four five
    → left ≡ take inner five.visible
    → (what_means w what).bind line (around_of start s) (before_of start s) ≡ Ok (record { tree = rs.Try f made slot g; before = before_of start (record five { visible = left }) })
try_whole w start n inner line s one two three four five what body x y handler made slot f g left is len t p k cut long begun l q m shut =
    let a : Around = around_of start s in
    let b : Before = before_of start s in
    let p' : bind_block (bind_stmts w body) (with_handled x a b) (tried w x b) ≡ Ok (record { tree = f; before = before_of start two }) =
    subst (λ v. bind_block (bind_stmts w body) v (tried w x b) ≡ Ok (record { tree = f; before = before_of start two })) (try_around start w x s one made t)
    (subst (λ v. bind_block (bind_stmts w body) (around_of start one) v ≡ Ok (record { tree = f; before = before_of start two })) (try_before start w x s one made t) p) in
    let lefts : left ≡ three.visible = shut ∙ kept_cut long (kept_both l m) in
    let after : after_block (before_of start three) (before_of inner five) ≡ before_of start (record five { visible = left }) =
    ap (λ (xs : List LocalDeclaration). record { own = drop start xs; slots = five.slots; slot_names = five.slot_names; tries = five.tries }) (sym lefts) in
    let r : bind_block (bind_handler w y (bind_stmts w handler)) (around_of start three) (before_of start three) ≡ Ok (record { tree = g; before = before_of start (record five { visible = left }) }) =
    block_done (bind_handler w y (bind_stmts w handler)) (around_of start three) (before_of start three) (record { tree = g; before = before_of inner five })
    (in_handler w start inner three four y slot (bind_stmts w handler) (Ok (record { tree = g; before = before_of inner five })) long begun l q)
    ∙ ap (λ v. Ok (record { tree = g; before = v })) after in
    let q' : bind_block (bind_handler w y (bind_stmts w handler)) a (before_of start two) ≡ Ok (record { tree = g; before = before_of start (record five { visible = left }) }) =
    subst (λ v. bind_block (bind_handler w y (bind_stmts w handler)) v (before_of start two) ≡ Ok (record { tree = g; before = before_of start (record five { visible = left }) }))
    (try_behind start n w.names x s one two three made len t k cut)
    (subst (λ v. bind_block (bind_handler w y (bind_stmts w handler)) (around_of start three) v ≡ Ok (record { tree = g; before = before_of start (record five { visible = left }) }))
    (ap (λ (v : Scope). before_of start v) cut) r) in
    let same : variable_slot y (before_of start two) ≡ slot = same_slot y (before_of start two) (before_of inner three) (sym (ap (λ (v : Scope). v.slots) cut)) ∙ sym begun.slot in
    ap (λ v. (what_means w v).bind line a b) is ∙ try_means w body x y handler line a b
    ∙ try_done w x y (bind_stmts w body) (bind_stmts w handler) a b (record { tree = f; before = before_of start two }) (record { tree = g; before = before_of start (record five { visible = left }) }) p' q'
    ∙ ap (λ i. Ok (record { tree = rs.Try f i (variable_slot y (before_of start two)) g; before = before_of start (record five { visible = left }) })) (sym t.number)
    ∙ ap (λ v. Ok (record { tree = rs.Try f made v g; before = before_of start (record five { visible = left }) })) same
