-- Two events of a sound tree, each of one process by itself, may change places.
use Rattle.std.proofs.Common.{◌≡◌, ℕ, Some, refl, sym, ap, subst, ◌∙◌}
use Rattle.std.specs.FinMap as map
use Rattle.shim_base.specs.Paths.{path_order}
use Rattle.shim_local.specs.Process.{Ops}
use Rattle.shim_local.specs.Laws.{LocalLaws}
use Rattle.shim_semantics.specs.Nodes.{state}
use Rattle.shim_semantics.specs.Places.{route}
use Rattle.shim_semantics.specs.Trees.{Tree, Event, Own, Meet, Poison, Close, End, after}
use Rattle.shim_semantics.specs.Laws.{IsSoundTree}
use Rattle.shim_semantics.proofs.Alone.{doer, IsAlone}
use Rattle.shim_semantics.proofs.ReplacedNodes.{put}
use Rattle.shim_laws_schedules.proofs.EventParts.{counted, one_later, later_twice, with_effects, root_path, EventParts, split_event, one_event, join_event}
use Rattle.shim_laws_schedules.proofs.MeetDiamond.{Joined}
use Rattle.shim_laws_schedules.proofs.EachPair.{AloneChangePlaces}
use Rattle.shim_laws_schedules.proofs.Maps.{counts_swap, logs_swap}
use Rattle.shim_laws_schedules.proofs.Pairs.{apart}
use Rattle.shim_laws_schedules.proofs.Putters.{bytes_swap}
use Rattle.shim_base.proofs.Facts.{some_same}

counted_swap : (e f : Event) (m : map.FinMap path_order ℕ) → (doer e ≡ doer f → ⊥) → counted f (counted e m) ≡ counted e (counted f m)
counted_swap (Own p) (Own q) m n = counts_swap p q m n
counted_swap (Own p) (Meet c) m n = refl
counted_swap (Own p) (Poison q c) m n = refl
counted_swap (Own p) (Close q) m n = refl
counted_swap (Own p) (End q) m n = refl
counted_swap (Meet c) f m n = refl
counted_swap (Poison p c) f m n = refl
counted_swap (Close p) f m n = refl
counted_swap (End p) f m n = refl

later_swap : (e f : Event) (n : ℕ) → one_later f (one_later e n) ≡ one_later e (one_later f n)
later_swap (Own p) f n = refl
later_swap (Meet c) f n = later_twice f n
later_swap (Poison p c) f n = later_twice f n
later_swap (Close p) f n = later_twice f n
later_swap (End p) f n = later_twice f n

module _ {S : Type 0} (o : Ops S) where
  joined_alone : LocalLaws o → (t a b : Tree S) (e f : Event) → IsSoundTree o t → IsAlone e → IsAlone f → (e ≡ f → ⊥) → EventParts o e t a → EventParts o f t b → Joined o e f a b
  joined_alone law t a b e f s d g n x y =
      let p = doer e in
      let q = doer f in
      let places : x.place ≡ y.place → ⊥ = λ z. n (one_event o e f t a b d g x y z) in
      let paths : p ≡ q → ⊥ = λ z. places (some_same x.place y.place (sym x.route_is ∙ (ap (route (o.path (state t.root))) z ∙ y.route_is))) in
      let w = apart o x.place y.place t.root x.old y.old x.new.node y.new.node x.new y.new places x.there y.there x.here y.here in
      let a1 : Tree S = with_effects e t (put x.place x.new.node t.root) x.new.effects in
      let b1 : Tree S = with_effects f t (put y.place y.new.node t.root) y.new.effects in
      let u : Tree S = with_effects f a1 (put y.place y.new.node a1.root) y.new.effects in
      let v : Tree S = with_effects e b1 (put x.place x.new.node b1.root) x.new.effects in
      let to_f : route (o.path (state a1.root)) q ≡ Some y.place = ap (λ z. route z q) (root_path o law x.place t.root x.old x.new s.below x.there x.here) ∙ y.route_is in
      let to_e : route (o.path (state b1.root)) p ≡ Some x.place = ap (λ z. route z p) (root_path o law y.place t.root y.old y.new s.below y.there y.here) ∙ x.route_is in
      let then_f : after o f a1 ≡ Some u = join_event o f a1 y.place y.old y.new g to_f w.second y.its y.here in
      let then_e : after o e b1 ≡ Some v = join_event o e b1 x.place x.old x.new d to_e w.first x.its x.here in
      let output = bytes_swap o law x.place y.place t.root x.old y.old x.new y.new t.output s places x.there y.there x.here y.here in
      let logs = logs_swap p q t.logs x.new.effects.logs y.new.effects.logs paths in
      let counts = counted_swap e f t.counts paths in
      let events = later_swap e f t.events in
      let same : u ≡ v = λ i. record { root = w.both i; output = output i; histories = t.histories; logs = logs i; counts = counts i; events = events i } in
      let both : Joined o e f a1 b1 = record { tree = u; first = then_f; second = then_e ∙ ap Some (sym same) } in
      subst (λ z. Joined o e f a z) y.is (subst (λ z. Joined o e f z b1) x.is both)

  pub alone_change_places : LocalLaws o → AloneChangePlaces o
  alone_change_places law e f d g t a b s n h i = let r = joined_alone law t a b e f s d g n (split_event o e t a d h) (split_event o f t b g i) in (r.tree, r.first, r.second)
