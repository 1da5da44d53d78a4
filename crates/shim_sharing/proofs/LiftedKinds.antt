-- What is lifted out of a statement of a compound kind, by what is lifted out of its parts.
use Rattle.std.proofs.Common.{◌≡◌, ◌∙◌, ℕ, ◌+◌, List, ◌++◌, length, Option, sym, ap}
use Rattle.shim_scopes.specs.declared.tree.UExpr.{UExpr}
use Rattle.shim_scopes.specs.declared.tree.RStmt.{RStmt}
use Rattle.shim_scopes.specs.declared.tree.RWhat.TheVariants as is
use Rattle.shim_units.specs.declared.unit.Unit.{Unit as UnitOf}
use Rattle.shim_units.specs.declared.unit.UStmt.{UStmt}
use Rattle.shim_units.specs.declared.unit.UWhat.TheVariants as u
use Rattle.shim_units.specs.declared.slot_map.SlotMap.{SlotMap}
use Rattle.shim_units.specs.Parts.{LiftContext, Part}
use Rattle.shim_units.specs.Moving.{slot_index_of, slot_index_of_option, renumbered, moved_option}
use Rattle.shim_units.specs.PartFold.{part, lift_in}
use Rattle.shim_units.proofs.EachKind.{at_if, at_for, at_try}
use Rattle.shim_sharing.proofs.Lifts.{two_tree, two_units, three_tree, three_units}

pub if_tree : (context : LiftContext) (w : SlotMap) (n : ℕ) (us vs : List UnitOf) (s : RStmt) (e : UExpr) (first other : List RStmt) (test : UExpr) (r q : List UStmt) → s.what ≡ is.If e first other
    → test ≡ renumbered w.slots e → r ≡ (lift_in first context w (n + length us)).tree → vs ≡ us ++ (lift_in first context w (n + length us)).units → q ≡ (lift_in other context w (n + length vs)).tree
    → u.If test r q ≡ ((part s).lift context w (n + length us)).tree.what
if_tree context w n us vs s e first other test r q kind tested made behind next =
    ap (λ t. u.If t r q) tested ∙ two_tree (u.If (renumbered w.slots e)) (lift_in first) (lift_in other) context w n us vs r q made behind next
    ∙ sym (ap (λ (p : Part UStmt). (p.lift context w (n + length us)).tree.what) (at_if s e first other kind))

pub if_units : (context : LiftContext) (w : SlotMap) (n : ℕ) (us vs ws : List UnitOf) (s : RStmt) (e : UExpr) (first other : List RStmt) → s.what ≡ is.If e first other
    → vs ≡ us ++ (lift_in first context w (n + length us)).units → ws ≡ vs ++ (lift_in other context w (n + length vs)).units
    → ws ≡ us ++ ((part s).lift context w (n + length us)).units
if_units context w n us vs ws s e first other kind behind next =
    two_units (u.If (renumbered w.slots e)) (lift_in first) (lift_in other) context w n us vs ws behind next
    ∙ sym (ap (λ (p : Part UStmt). us ++ (p.lift context w (n + length us)).units) (at_if s e first other kind))

pub try_tree : (context : LiftContext) (w : SlotMap) (n : ℕ) (us vs : List UnitOf) (s : RStmt) (body : List RStmt) (x : ℕ) (y : Option ℕ) (handler : List RStmt) (made : ℕ) (slot : Option ℕ) (r q : List UStmt)
    → s.what ≡ is.Try body x y handler
    → r ≡ (lift_in body context w (n + length us)).tree → vs ≡ us ++ (lift_in body context w (n + length us)).units → made ≡ slot_index_of w.exceptions x → slot ≡ slot_index_of_option w.slots y
    → q ≡ (lift_in handler context w (n + length vs)).tree
    → u.Try r made slot q ≡ ((part s).lift context w (n + length us)).tree.what
try_tree context w n us vs s body x y handler made slot r q kind first behind placed indexed next =
    ap (λ t. u.Try r t slot q) placed ∙ ap (λ t. u.Try r (slot_index_of w.exceptions x) t q) indexed
    ∙ two_tree (λ a b. u.Try a (slot_index_of w.exceptions x) (slot_index_of_option w.slots y) b) (lift_in body) (lift_in handler) context w n us vs r q first behind next
    ∙ sym (ap (λ (p : Part UStmt). (p.lift context w (n + length us)).tree.what) (at_try s body x y handler kind))

pub try_units : (context : LiftContext) (w : SlotMap) (n : ℕ) (us vs ws : List UnitOf) (s : RStmt) (body : List RStmt) (x : ℕ) (y : Option ℕ) (handler : List RStmt) → s.what ≡ is.Try body x y handler
    → vs ≡ us ++ (lift_in body context w (n + length us)).units → ws ≡ vs ++ (lift_in handler context w (n + length vs)).units
    → ws ≡ us ++ ((part s).lift context w (n + length us)).units
try_units context w n us vs ws s body x y handler kind behind next =
    two_units (λ a b. u.Try a (slot_index_of w.exceptions x) (slot_index_of_option w.slots y) b) (lift_in body) (lift_in handler) context w n us vs ws behind next
    ∙ sym (ap (λ (p : Part UStmt). us ++ (p.lift context w (n + length us)).units) (at_try s body x y handler kind))

pub for_tree : (context : LiftContext) (w : SlotMap) (n : ℕ) (us vs ws : List UnitOf) (s : RStmt) (first : List RStmt) (test : Option UExpr) (step body : List RStmt) (made : Option UExpr) (p r q : List UStmt) → s.what ≡ is.For first test step body
    → p ≡ (lift_in first context w (n + length us)).tree → vs ≡ us ++ (lift_in first context w (n + length us)).units → made ≡ moved_option w.slots test
    → r ≡ (lift_in step context w (n + length vs)).tree → ws ≡ vs ++ (lift_in step context w (n + length vs)).units → q ≡ (lift_in body context w (n + length ws)).tree
    → u.For p made r q ≡ ((part s).lift context w (n + length us)).tree.what
for_tree context w n us vs ws s first test step body made p r q kind begun behind tested stepped behind' next =
    ap (λ t. u.For p t r q) tested
    ∙ three_tree (λ a b c. u.For a (moved_option w.slots test) b c) (lift_in first) (lift_in step) (lift_in body) context w n us vs ws p r q begun behind stepped behind' next
    ∙ sym (ap (λ (m : Part UStmt). (m.lift context w (n + length us)).tree.what) (at_for s first test step body kind))

pub for_units : (context : LiftContext) (w : SlotMap) (n : ℕ) (us vs ws xs : List UnitOf) (s : RStmt) (first : List RStmt) (test : Option UExpr) (step body : List RStmt) → s.what ≡ is.For first test step body
    → vs ≡ us ++ (lift_in first context w (n + length us)).units → ws ≡ vs ++ (lift_in step context w (n + length vs)).units → xs ≡ ws ++ (lift_in body context w (n + length ws)).units
    → xs ≡ us ++ ((part s).lift context w (n + length us)).units
for_units context w n us vs ws xs s first test step body kind behind behind' next =
    three_units (λ a b c. u.For a (moved_option w.slots test) b c) (lift_in first) (lift_in step) (lift_in body) context w n us vs ws xs behind behind' next
    ∙ sym (ap (λ (m : Part UStmt). us ++ (m.lift context w (n + length us)).units) (at_for s first test step body kind))
