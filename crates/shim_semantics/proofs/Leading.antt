-- Where a path leads from the process of another.
use Rattle.std.proofs.Common.{◌≡◌, ℕ, ◌≤◌, Bool, true, false, Option, Some, None, List, [], ◌∷◌, length, drop, cond, refl, sym, ap, ◌∙◌, arith}
use Rattle.shim_base.specs.Paths.{Path, same_pair}
use Rattle.shim_local.specs.Process.{Ops}
use Rattle.shim_semantics.specs.Nodes.{Node}
use Rattle.shim_semantics.specs.Acts.{act}
use Rattle.shim_semantics.specs.Places.{after_front, branches, option_branches, route}
use Rattle.shim_semantics.specs.Trees.{act_route}
use Rattle.shim_base.proofs.Facts.{some_same}

-- a route is made of the branches after the front
pub route_rest : (r p : Path) (q : List ℕ) → route r p ≡ Some q → (length r ≤ length p) × (q ≡ branches (drop (length r) p))
route_rest [] p q e = (omega arith, some_same q (branches p) (sym e))
route_rest (x ∷ r) [] q e = absurd cc
route_rest (x ∷ r) (y ∷ p) q e = rest (same_pair x y) (λ f. route_rest r p q f) e
  where
    rest : (b : Bool) → (route r p ≡ Some q → (length r ≤ length p) × (q ≡ branches (drop (length r) p))) → option_branches (cond b (after_front r p) None) ≡ Some q → (length (x ∷ r) ≤ length (y ∷ p)) × (q ≡ branches (drop (length r) p))
    rest true f e = let w = f e in let h = w.0 in (omega arith, w.1)
    rest false f e = absurd cc

route_there : {S : Type 0} (o : Ops S) (n : Node S) (s : Option (List ℕ)) → (act_route o n s ≡ None → ⊥) → (q : List ℕ) × (s ≡ Some q)
route_there o n None h = absurd (h refl)
route_there o n (Some q) h = (q, refl)

-- a path that acts goes on from the root's
pub on_bound : {S : Type 0} (o : Ops S) (n : Node S) (r p : Path) → (act_route o n (route r p) ≡ None → ⊥) → length r ≤ length p
on_bound o n r p h = let w = route_there o n (route r p) h in (route_rest r p w.0 w.1).0

pub on_route : {S : Type 0} (o : Ops S) (n : Node S) (r p : Path) → (act_route o n (route r p) ≡ None → ⊥) → act_route o n (route r p) ≡ act o (branches (drop (length r) p)) n
on_route o n r p h =
    let w = route_there o n (route r p) h in
    ap (act_route o n) w.1 ∙ ap (λ z. act o z n) (route_rest r p w.0 w.1).1
