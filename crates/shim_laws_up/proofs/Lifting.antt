-- The name of a function goes into the titles of its units alone.
use Rattle.std.proofs.Common.{ℕ, ◌+◌, ◌≡◌, ◌∙◌, List, [], ◌∷◌, ◌++◌, length, map, refl, sym, ap, subst}
use Rattle.std.proofs.lemmas.List.{map-append, length-map}
use Rattle.shim_scopes.specs.declared.tree.RFunction.{RFunction}
use Rattle.shim_scopes.specs.declared.tree.RStmt.{RStmt}
use Rattle.shim_scopes.specs.declared.form.Form.{Form as Resolved}
use Rattle.shim_units.specs.declared.unit.UStmt.{UStmt}
use Rattle.shim_units.specs.declared.unit.Unit.{Unit as UnitOf}
use Rattle.shim_units.specs.declared.slot_map.SlotMap.{SlotMap}
use Rattle.shim_units.specs.Parts.{LiftContext, Lifted, Lifts, Part, all_tries}
use Rattle.shim_units.specs.Lifting.{lift_all, lift_two, lift_branch, branch_inner, branch_captures, branch_slots, branch_exceptions, branch_unit, made_unit}
use Rattle.shim_units.specs.PartFold.{lift_in, tries_in}
use Rattle.shim_units.specs.Units.{function_slot_map, name_or_mark, lift_functions, lifted}
use Rattle.shim_units.proofs.LiftInduction.{body_holds}
use Rattle.shim_up.specs.Renaming.{Renaming}
use Rattle.shim_laws_up.specs.Around.{form_renamed}
use Rattle.shim_laws_up.specs.Titles.{untitled, AreAlike}

-- the same context for a function of another name
abbrev called : LiftContext → List ℕ → LiftContext
called c x = record c { name = x }

-- the same tree, and units that differ in titles alone
record IsAlike {T : Type 0} (r q : Lifted T) : Type 0 where
  tree : r.tree ≡ q.tree
  units : map untitled r.units ≡ map untitled q.units

abbrev LiftsAlike : {T : Type 0} → Lifts T → Type 0
LiftsAlike f = (c : LiftContext) (x : List ℕ) (w : SlotMap) (n : ℕ) → IsAlike (f c w n) (f (called c x) w n)

-- units that differ in titles alone are as many
same_count : (us vs : List UnitOf) → map untitled us ≡ map untitled vs → length us ≡ length vs
same_count us vs e = sym (length-map us untitled) ∙ ap length e ∙ length-map vs untitled

-- after units that differ in titles alone
at_next : {T : Type 0} (h : Lifts T) → LiftsAlike h → (c : LiftContext) (x : List ℕ) (w : SlotMap) (n : ℕ) (us vs : List UnitOf) → map untitled us ≡ map untitled vs
    → IsAlike (h c w (n + length us)) (h (called c x) w (n + length vs))
at_next h k c x w n us vs e = subst (λ (m : ℕ). IsAlike (h c w (n + length us)) (h (called c x) w (n + m))) (same_count us vs e) (k c x w (n + length us))

both_alike : (us vs xs ys : List UnitOf) → map untitled us ≡ map untitled xs → map untitled vs ≡ map untitled ys → map untitled (us ++ vs) ≡ map untitled (xs ++ ys)
both_alike us vs xs ys p q = map-append untitled us vs ∙ ap (λ l. l ++ map untitled vs) p ∙ ap (λ l. map untitled xs ++ l) q ∙ sym (map-append untitled xs ys)

two_alike : {R S T : Type 0} (g : SlotMap → R → S → T) (f : Lifts R) (h : Lifts S) → LiftsAlike f → LiftsAlike h → LiftsAlike (λ c w n. lift_two (g w) f h c w n)
two_alike g f h p q c x w n =
    let r = p c x w n in
    let s = at_next h q c x w n (f c w n).units (f (called c x) w n).units r.units in
    record {
      tree = ap (λ t. g w t (h c w (n + length (f c w n).units)).tree) r.tree ∙ ap (λ t. g w (f (called c x) w n).tree t) s.tree;
      units = both_alike _ _ _ _ r.units s.units;
    }

tree_alike : {S T : Type 0} (g : SlotMap → S → T) (f : Lifts S) → LiftsAlike f → LiftsAlike (λ c w n. record { tree = g w (f c w n).tree; units = (f c w n).units })
tree_alike g f p c x w n = let r = p c x w n in record { tree = ap (g w) r.tree; units = r.units }

block_branch : (body : List (Part UStmt)) → LiftsAlike (lift_all body) → LiftsAlike (lift_branch body)
block_branch body p c x w n =
    let inner = branch_inner c body w in
    let r = p c x inner (n + 1) in
    record {
      tree = refl;
      units = ap (λ t. untitled (branch_unit c n (branch_captures c body) (branch_slots c body w) (branch_exceptions body w) inner (all_tries body) t) ∷ map untitled (lift_all body c inner (n + 1)).units) r.tree
          ∙ ap (λ us. untitled (branch_unit (called c x) n (branch_captures c body) (branch_slots c body w) (branch_exceptions body w) inner (all_tries body) (lift_all body (called c x) inner (n + 1)).tree) ∷ us) r.units;
    }

body_alike : (body : List RStmt) → LiftsAlike (lift_in body)
body_alike = body_holds (λ T f. LiftsAlike f) (λ T f c x w n. record { tree = refl; units = refl }) (λ S T g f p. tree_alike g f p) (λ R S T g f h p q. two_alike g f h p q) block_branch

-- functions with two_alike lists of names
record FunctionsAlike (names others : List (List ℕ)) (all : List RFunction) (number next last : ℕ) (fs : List RFunction) : Type 0 where
  own : map untitled (lift_functions names all number next fs).own ≡ map untitled (lift_functions others all number last fs).own
  lifted : map untitled (lift_functions names all number next fs).lifted ≡ map untitled (lift_functions others all number last fs).lifted

functions_alike : (names others : List (List ℕ)) (all : List RFunction) (number next last : ℕ) (fs : List RFunction) → next ≡ last → FunctionsAlike names others all number next last fs
functions_alike names others all number next last [] e = record { own = refl; lifted = refl }
functions_alike names others all number next last (f ∷ fs) e =
    let c : LiftContext = record { functions = all; function = f; number = number; name = name_or_mark names f.name; first = next } in
    let d : LiftContext = record { functions = all; function = f; number = number; name = name_or_mark others f.name; first = next } in
    let w = function_slot_map f in
    let r = body_alike f.body c (name_or_mark others f.name) w next in
    let a = lift_in f.body c w next in
    let b = lift_in f.body d w next in
    let own : untitled (made_unit c c.name f.params (length f.throws) w (tries_in f.body) a.tree) ≡ untitled (made_unit d d.name f.params (length f.throws) w (tries_in f.body) b.tree) =
    ap (λ t. untitled (made_unit c c.name f.params (length f.throws) w (tries_in f.body) t)) r.tree in
    let rest = functions_alike names others all (number + 1) (next + length a.units) (next + length b.units) fs (ap (λ (n : ℕ). next + n) (same_count a.units b.units r.units)) in
    subst (λ (m : ℕ). FunctionsAlike names others all number next m (f ∷ fs)) e
    (record {
      own = ap (λ u. u ∷ map untitled (lift_functions names all (number + 1) (next + length a.units) fs).own) own
          ∙ ap (λ us. untitled (made_unit d d.name f.params (length f.throws) w (tries_in f.body) b.tree) ∷ us) rest.own;
      lifted = both_alike a.units _ b.units _ r.units rest.lifted;
    })

-- the units of a form with its names replaced
pub lifted_alike : (f : Renaming) (p : Resolved) → AreAlike f (lifted p) (lifted (form_renamed f p))
lifted_alike f p =
    let r = functions_alike (map f p.names) p.names p.functions 0 (length p.functions) (length p.functions) p.functions refl in
    record { units = both_alike _ _ _ _ r.own r.lifted; names = refl; main = refl; main_throws = refl }
