-- Blocked trees are explained.
use Rattle.std.proofs.Common.{◌≡◌, ℕ, Option, Some, None, List, [], ◌∷◌, ◌⊎◌, inl, inr, cond, map, refl, sym, ap, subst, ◌∙◌}
use Rattle.shim_base.specs.Paths.{Path, same_path}
use Rattle.shim_base.proofs.Facts.{some_same, none_some, true_or_false}
use Rattle.shim_base.proofs.SamePaths.{same_path_refl, same_path_is}
use Rattle.shim_local.specs.Process.{Ops}
use Rattle.shim_local.specs.Laws.{LocalLaws}
use Rattle.shim_base.specs.Lists.{IsAmong}
use Rattle.shim_semantics.specs.Nodes.{Node, Live, state}
use Rattle.shim_semantics.specs.Places.{at_route, route, StandsAt}
use Rattle.shim_semantics.specs.Trees.{Tree}
use Rattle.shim_semantics.proofs.HowMany.{clash}
use Rattle.shim_semantics.proofs.Members.{among_map}
use Rattle.shim_waits.specs.declared.explained.Wait.{Wait}
use Rattle.shim_waits.specs.Holding.{lives}
use Rattle.shim_waits.specs.Waits.{wait_of_process, present, waits}
use Rattle.shim_waits.specs.Cycles.{by_of, first_path, IsCycle, cycle_of}
use Rattle.shim_waits.specs.Laws.{IsBlockedTree, BlockedIsExplained}
use Rattle.shim_waits.proofs.Resting.{tree_rests}
use Rattle.shim_waits.proofs.Found.{at_live, goes_lives}
use Rattle.shim_waits.proofs.Ordered.{in_order}
use Rattle.shim_waits.proofs.Given.{holder_given}
use Rattle.shim_waits.proofs.HeldUp.{held_up, each}
use Rattle.shim_waits.proofs.Cycle.{AllWait, has_cycle, one_cycle}

-- the wait of one of the paths
by_among : (ws : List Wait) (p : Path) → IsAmong p (map (λ w. w.path) ws) → (w : Wait) × IsAmong w ws × (w.path ≡ p) × (by_of ws p ≡ Some w.by)
by_among [] p i = absurd i
by_among (w ∷ ws) p i = elim (true_or_false (same_path w.path p)) [
  | inl y ↦ (w, inl refl, same_path_is w.path p y, ap (λ b. cond b (Some w.by) (by_of ws p)) y)
  | inr n ↦ elim i [
    | inl h ↦ clash (same_path w.path p) (ap (λ z. same_path z p) (sym h) ∙ same_path_refl p) n
    | inr h ↦ (let r = by_among ws p h in (r.0, inr r.1, r.2, ap (λ b. cond b (Some w.by) (by_of ws p)) n ∙ r.3))
  ]
]

from_one : (x : Option Wait) (xs : List (Option Wait)) (w : Wait) → IsAmong w (present (x ∷ xs)) → (x ≡ Some w) ⊎ IsAmong w (present xs)
from_one None xs w i = inr i
from_one (Some v) xs w (inl h) = inl (ap Some (sym h))
from_one (Some v) xs w (inr h) = inr h

module _ {S : Type 0} where
  -- each wait is one of somebody
  pub waits_of_all : (f : S → Option Wait) (ls : List S) (w : Wait) → IsAmong w (present (map f ls)) → (l : S) × IsAmong l ls × (f l ≡ Some w)
  waits_of_all f [] w i = absurd i
  waits_of_all f (l ∷ ls) w i = elim (from_one (f l) (map f ls) w i) [
    | inl h ↦ (l, inl refl, h)
    | inr h ↦ (let r = waits_of_all f ls w h in (r.0, inr r.1, r.2))
  ]

module _ {S : Type 0} (o : Ops S) where
  -- who stands so lives in the tree
  pub stands_lives : (root : Node S) (p : Path) (b : S) → StandsAt o root p (Live b) → IsAmong b (lives root)
  stands_lives root p b h = by (route (o.path (state root)) p) h.there
    where
      by : (r : Option (List ℕ)) → at_route root r ≡ Some (Live b) → IsAmong b (lives root)
      by None e = none_some (Live b) e
      by (Some q) e = at_live q root b e

  each_waits : LocalLaws o → (t : Tree S) → IsBlockedTree o t → AllWait (waits o t.root) (map (λ w. w.path) (waits o t.root))
  each_waits law t b p i =
      let r = by_among (waits o t.root) p i in
      let of = waits_of_all (wait_of_process o t.root) (lives t.root) r.0 r.1 in
      let h = held_up o law t of.0 b of.1 in
      let same : h.wait ≡ r.0 = some_same h.wait r.0 (sym h.is ∙ of.2) in
      let lives' : IsAmong h.wait.by (map o.path (lives t.root)) =
      subst (λ z. IsAmong z (map o.path (lives t.root))) h.waits.lives.is_its (among_map o.path h.waits.other (lives t.root) (stands_lives t.root h.wait.by h.waits.other h.waits.lives)) in (
        r.0.by,
        r.3,
        subst (λ z. IsAmong z (map (λ w. w.path) (waits o t.root))) (ap (λ z. z.by) same) (subst (IsAmong h.wait.by) (sym (each o law t b)) lives'),
        λ e. h.other (ap (λ z. z.by) same ∙ (e ∙ (sym r.2 ∙ ap (λ z. z.path) (sym same)))),
      )

  first_of_some : (ws : List Wait) (p : Path) (ps : List Path) → map (λ w. w.path) ws ≡ p ∷ ps → (q : Path) × (first_path ws ≡ Some q) × IsAmong q (map (λ w. w.path) ws)
  first_of_some [] p ps e = absurd cc
  first_of_some (w ∷ ws) p ps e = (w.path, refl, inl refl)

  pub the_cycle : LocalLaws o → (t : Tree S) → IsBlockedTree o t → IsCycle (waits o t.root) (cycle_of (waits o t.root))
  the_cycle law t b =
      let some = goes_lives o t.root (tree_rests o t b.sound.below b.rests) b.root in
      let first = first_of_some (waits o t.root) (o.path some.0) (map o.path some.1) (each o law t b ∙ ap (map o.path) some.2) in
      has_cycle (waits o t.root) (each_waits law t b) first.0 first.2 first.1

  pub blocked_is_explained : LocalLaws o → BlockedIsExplained o
  blocked_is_explained law = record {
    held_up = held_up o law;
    each = each o law;
    in_order = λ t s. in_order o t.root s.below;
    given = holder_given o law;
    cycle = the_cycle law;
    one = λ t c b x. one_cycle (waits o t.root) c (cycle_of (waits o t.root)) x (the_cycle law t b);
  }
