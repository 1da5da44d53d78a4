-- What an event leaves of a tree beside its nodes.
use Rattle.std.proofs.Common.{◌≡◌, ◌+◌, Some, List, refl, sym, ap, ◌∙◌}
use Rattle.std.specs.Prelude.{unwrap_or}
use Rattle.shim_base.specs.Paths.{Path, Channel}
use Rattle.shim_local.specs.Process.{Ops}
use Rattle.shim_semantics.specs.Nodes.{Node, Live, Forked, state, states, all_done, prevailing_death, source, value_of, first_name}
use Rattle.shim_semantics.specs.Acts.{Acted, Effects, act_here, closed}
use Rattle.shim_semantics.specs.Places.{at, route, meets}
use Rattle.shim_semantics.specs.Trees.{Tree, Event, Own, Close, End, after, met, poisons, recorded}
use Rattle.shim_semantics.proofs.Alone.{doer, IsAlone}
use Rattle.shim_semantics.proofs.Routes.{route_of}
use Rattle.shim_semantics.proofs.ReplacedNodes.{put}
use Rattle.shim_laws_schedules.proofs.EventParts.{with_effects, split_event}
use Rattle.shim_laws_schedules.proofs.PoisonDiamond.{with_root, nodes_changed_some}
use Rattle.shim_base.proofs.Facts.{some_same, cond_some}
use Rattle.shim_laws_table.specs.NodeStatus.{lives, forks, place}
use Rattle.shim_laws_table.specs.Agrees.{RecordView, Represents}
use Rattle.shim_laws_table.specs.Changes.{segment, prevailing_among}
use Rattle.shim_laws_table.specs.EventEffects.{EffectsOfEvents}
use Rattle.shim_laws_table.proofs.SameTrees.{seen_live, seen_fork}
use Rattle.shim_laws_table.proofs.Children.{children_are_represented}

module _ {S : Type 0} (o : Ops S) where
  -- the same tree with its own root written out
  effects_root : (e : Event) (t u : Tree S) (n : Node S) (s : Effects) → with_effects e t n s ≡ u → u ≡ with_effects e t u.root s
  effects_root e t u n s h = sym h ∙ ap (λ z. with_effects e t z s) (ap (λ (z : Tree S). z.root) h)

  module _ (rp : Path) (records : List S) (views : List RecordView) (t u : Tree S) (l : S) (m : Node S) (a : Acted S) (s : Represents o rp records views t.root) (there : at (place o rp l) t.root ≡ Some m) (is : state m ≡ l) where
    own_effects : (e : Event) → IsAlone e → doer e ≡ o.path l → after o e t ≡ Some u → ((b : Acted S) → act_here o m ≡ Some b → b ≡ a) → u ≡ with_effects e t u.root a.effects
    own_effects e d its h one =
        let x = split_event o e t u d h in
        let led = route_of o t.root m (place o rp l) (o.path l) s.sound.below there (ap o.path is) in
        let place_is : x.place ≡ place o rp l = some_same x.place (place o rp l) (sym x.route_is ∙ (ap (route (o.path (state t.root))) its ∙ led)) in
        let same : x.old ≡ m = some_same x.old m (sym x.there ∙ (ap (λ z. at z t.root) place_is ∙ there)) in
        let acted : x.new ≡ a = one x.new (ap (act_here o) (sym same) ∙ x.here) in
        effects_root e t u (put x.place x.new.node t.root) x.new.effects x.is ∙ ap (λ (z : Acted S). with_effects e t u.root z.effects) acted

  pub effects_of_events : EffectsOfEvents o
  effects_of_events = record {
    own = λ rp records views t u i f l a s has act h.
        own_effects rp records views t u l (Live l) a s (seen_live (at (place o rp l) t.root) l (s.agrees.shown i f l lives has)) refl (Own (o.path l)) (λ z. cc) refl h (λ b e. some_same b a (sym e ∙ act));
    end = λ rp records views t u i f l a s has act h.
        own_effects rp records views t u l (Live l) a s (seen_live (at (place o rp l) t.root) l (s.agrees.shown i f l lives has)) refl (End (o.path l)) (λ z. cc) refl h (λ b e. some_same b a (sym e ∙ act));
    close = λ rp records views t u i g n l s has h.
        let k = seen_fork (at (place o rp l) t.root) l n (s.agrees.shown i g l (forks n) has) in
        let kids = children_are_represented o rp records views t.root i g n l k.0 s.agrees has k.1 in
        let a : Acted S = closed o l (segment g n records) (prevailing_among (segment g n views)) in
        own_effects rp records views t u l (Forked l k.0) a s k.1 refl (Close (o.path l)) (λ z. cc) refl h
        (λ b e. sym (cond_some (all_done k.0) (closed o l (states k.0) (prevailing_death k.0)) b e).1 ∙ (λ j. closed o l (kids.1 j) (kids.2 j)));
    meet = λ t u c h. same_met t u c (cond_some (meets o c t.root) (met o c (value_of o c (source o c t.root)) t) u h).1;
    poison = λ t u p c h. let x = nodes_changed_some t u (poisons o p c t.root) h in same_changed t u x.0 x.2;
  }
    where
      same_met : (t u : Tree S) (c : Channel) → met o c (value_of o c (source o c t.root)) t ≡ u
          → u ≡ record { root = u.root; output = t.output; histories = recorded t.histories c (unwrap_or (first_name o c t.root) 0) (value_of o c (source o c t.root)); logs = t.logs; counts = t.counts; events = t.events + 1 }
      same_met t u c e = sym e ∙ ap (λ z. let w : Tree S = record { root = z; output = t.output; histories = recorded t.histories c (unwrap_or (first_name o c t.root) 0) (value_of o c (source o c t.root)); logs = t.logs; counts = t.counts; events = t.events + 1 } in w) (ap (λ (z : Tree S). z.root) e)

      same_changed : (t u : Tree S) (n : Node S) → with_root t n ≡ u → u ≡ with_root t u.root
      same_changed t u n e = sym e ∙ ap (with_root t) (ap (λ (z : Tree S). z.root) e)
