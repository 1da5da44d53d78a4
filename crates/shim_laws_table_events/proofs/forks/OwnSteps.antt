-- A live process did a step of its own: it can, and another node is in its place.
use Rattle.std.proofs.Common.{◌≡◌, ◌≢◌, ℕ, Option, Some, None, List, ◌++◌, refl, sym, ap, ◌∙◌}
use Rattle.shim_base.specs.Paths.{Path}
use Rattle.shim_base.proofs.Facts.{some_same}
use Rattle.shim_local.specs.Process.{Ops}
use Rattle.shim_local.specs.Laws.{LocalLaws}
use Rattle.shim_semantics.specs.Nodes.{Live}
use Rattle.shim_semantics.specs.Acts.{Acted, act_here, act_live}
use Rattle.shim_semantics.specs.Places.{at, route}
use Rattle.shim_semantics.specs.Trees.{Tree, Own, Steps, after, own_action_at}
use Rattle.shim_semantics.proofs.Leading.{route_rest}
use Rattle.shim_semantics.proofs.Replaced.{sound_at}
use Rattle.shim_laws_table.specs.NodeStatus.{lives, place}
use Rattle.shim_laws_table.specs.Agrees.{RecordView, Has, Represents}
use Rattle.shim_laws_table.specs.Places.{IsReplaced}
use Rattle.shim_laws_table.proofs.SameTrees.{seen_live}
use Rattle.shim_laws_table.proofs.EventPlaces.{events_show}
use Rattle.shim_laws_table.proofs.CanHappen.{enabled_by_records}

some_of : {A : Type 0} (x : Option A) → x ≢ None → (y : A) × (x ≡ Some y)
some_of None h = absurd (h refl)
some_of (Some y) h = (y, refl)

module _ {S : Type 0} (o : Ops S) (law : LocalLaws o) (rp : Path) (states : List S) (views : List RecordView) (t : Tree S) (x f : ℕ) (l : S) (represents : Represents o rp states views t.root) (has : Has states views x f l lives) where
  pub live_there : at (place o rp l) t.root ≡ Some (Live l)
  live_there = seen_live (at (place o rp l) t.root) l (represents.agrees.shown x f l lives has)

  pub is_sound : o.sound l
  is_sound = sound_at o (place o rp l) t.root (Live l) represents.sound.below live_there

  pub can_step : own_action_at (o.stop l) ≡ Steps → (u : Tree S) × (after o (Own (o.path l)) t ≡ Some u)
  can_step e = some_of (after o (Own (o.path l)) t) (((enabled_by_records o law).steps rp states views t x f l represents has).1 e)

  pub own_replaced : (u : Tree S) (a : Acted S) → after o (Own (o.path l)) t ≡ Some u → act_live o l (o.stop l) ≡ Some a → IsReplaced (place o rp l) (Live l) a.node t.root u.root
  own_replaced u a happens act =
      let h = (events_show o law).alone t u (o.path l) (Own (o.path l)) refl happens in
      let r = route_rest rp (o.path l) h.place (ap (λ z. route z (o.path l)) (sym represents.root_path) ∙ h.leads) in
      let node : h.node ≡ Live l = some_same h.node (Live l) (sym h.replaced.was ∙ (ap (λ z. at z t.root) r.1 ∙ live_there)) in
      let same : h.acted ≡ a = some_same h.acted a (sym h.acts ∙ (ap (act_here o) node ∙ act)) in
      record {
        was = live_there;
        is = ap (λ z. at z u.root) (sym r.1) ∙ (h.replaced.is ∙ ap (λ (z : Acted S). Some z.node) same);
        aside = λ i far. h.replaced.aside i (λ s w. far s (w ∙ ap (λ z. z ++ s) r.1));
      }
