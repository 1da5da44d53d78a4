-- Where the process of a path lives in a sound tree, as a search by the branches after the root's path finds it.
use Rattle.std.proofs.Common.{◌≡◌, ◌↔◌, ◌≤◌, ◌<◌, ℕ, true, Option, Some, None, List, length, drop, refl, sym, ap, subst, ◌∙◌, arith}
use Rattle.shim_base.specs.Paths.{Path}
use Rattle.shim_local.specs.Process.{Ops}
use Rattle.shim_semantics.specs.Nodes.{Node, Live, Forked, Ended, Dead, state}
use Rattle.shim_semantics.specs.Places.{SoundBelow, StandsAt, at, at_route, branches, route}
use Rattle.shim_semantics.proofs.Leading.{route_rest}
use Rattle.shim_semantics.proofs.Routes.{route_of}
use Rattle.shim_tree.specs.ChildCounts.{live_in}
use Rattle.shim_semantics.proofs.Advances.{process_at}
use Rattle.shim_base.proofs.Facts.{some_same, none_some}

lives : {S : Type 0} (x : Option (Node S)) (l : S) → live_in x ≡ Some l → x ≡ Some (Live l)
lives None l e = none_some l e
lives (Some (Live k)) l e = ap (λ z. Some (Live z)) (some_same k l e)
lives (Some (Forked k ks)) l e = none_some l e
lives (Some (Ended k)) l e = none_some l e
lives (Some (Dead k d)) l e = none_some l e

module _ {S : Type 0} (o : Ops S) (n : Node S) (p : Path) where
  -- the branches after the root's path
  abbrev pub rest : List ℕ
  rest = branches (drop (length (o.path (state n))) p)

  -- who stands there lives after the root's path
  pub stands_behind : (l : S) → StandsAt o n p (Live l) → (length (o.path (state n)) ≤ length p) × (at rest n ≡ Some (Live l))
  stands_behind l w =
      let s = process_at n (route (o.path (state n)) p) l w.there in
      let r = route_rest (o.path (state n)) p s.branches s.is in
      (r.0, ap (λ z. at z n) (sym r.1) ∙ s.there)

  -- and who lives there with this path stands there
  stands_there : SoundBelow o n → (l : S) → at rest n ≡ Some (Live l) → o.path l ≡ p → StandsAt o n p (Live l)
  stands_there sound l e is = record { there = ap (at_route n) (route_of o n (Live l) rest p sound e is) ∙ e; is_its = is }

  -- a path that is shorter than the root's is that of none
  pub none_above : length p < length (o.path (state n)) → (l : S) → (None ≡ Some l) ↔ StandsAt o n p (Live l)
  none_above h l = (λ e. none_some l e, λ w. let long = (stands_behind l w).0 in absurd (omega (arith, h, long)))

  -- nobody lives there
  pub none_lives : None ≡ live_in (at rest n) → (l : S) → (None ≡ Some l) ↔ StandsAt o n p (Live l)
  none_lives h l = (λ e. none_some l e, λ w. none_some l (h ∙ ap live_in (stands_behind l w).1))

  -- this process lives there, and has the path or another one
  module _ (k : S) (found : Some k ≡ live_in (at rest n)) where
    same_there : (l : S) → StandsAt o n p (Live l) → k ≡ l
    same_there l w = some_same k l (found ∙ ap live_in (stands_behind l w).1)

    pub stands_found : SoundBelow o n → o.path k ≡ p → (l : S) → (Some k ≡ Some l) ↔ StandsAt o n p (Live l)
    stands_found sound is l = (
      λ e. subst (λ z. StandsAt o n p (Live z)) (some_same k l e) (stands_there sound k (lives (at rest n) k (sym found)) is),
      λ w. ap Some (same_there l w),
    )

    pub other_found : (o.path k ≡ p → ⊥) → (l : S) → (None ≡ Some l) ↔ StandsAt o n p (Live l)
    other_found other l = (λ e. none_some l e, λ w. absurd (other (ap o.path (same_there l w) ∙ w.is_its)))
