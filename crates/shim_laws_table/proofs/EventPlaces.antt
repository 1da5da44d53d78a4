-- Where each event shows.
use Rattle.std.proofs.Common.{◌≡◌, ℕ, ◌-◌, true, Option, Some, None, List, [], ◌∷◌, ◌++◌, refl, sym, ap, subst, ◌∙◌}
use Rattle.shim_base.specs.Paths.{Path, Channel}
use Rattle.shim_local.specs.Process.{Ops}
use Rattle.shim_local.specs.Laws.{LocalLaws}
use Rattle.shim_semantics.specs.Nodes.{Node, death, state, source, value_of, received}
use Rattle.shim_semantics.specs.Poison.{poisoned, poison, poison_route, to_fork, last_branch}
use Rattle.shim_semantics.specs.Places.{at, child_at, route, at_route, led_to, has_path, meets}
use Rattle.shim_semantics.specs.Trees.{Tree, Event, Own, Meet, Poison, Close, End, after, met, poisons}
use Rattle.shim_semantics.specs.Laws.{IsSoundTree}
use Rattle.shim_semantics.proofs.Alone.{doer, IsAlone}
use Rattle.shim_semantics.proofs.ReplacedNodes.{put}
use Rattle.shim_semantics.proofs.PoisonsListed.{fork_and_last, at_child, PoisonsAt, poisons_at}
use Rattle.shim_semantics.proofs.MeetStays.{meeting_stays}
use Rattle.shim_semantics.proofs.PoisonStays.{poison_stays}
use Rattle.shim_laws_schedules.proofs.EventParts.{root_path, split_event, its_path}
use Rattle.shim_laws_schedules.proofs.PoisonDiamond.{nodes_changed_some, HasPoisoned as Poisoned}
use Rattle.shim_base.proofs.Facts.{none_some, chosen, cond_some}
use Rattle.shim_base.proofs.SamePaths.{same_path_is}
use Rattle.shim_laws_table.specs.NodeStatus.{seen}
use Rattle.shim_laws_table.specs.Places.{IsReplaced, IsBy, HasActed, HasPoisoned, seen_killed, EventsShow}
use Rattle.shim_laws_table.proofs.Aside.{there, outside, at_split}
use Rattle.shim_laws_table.proofs.SameTrees.{put_replaces}
use Rattle.shim_laws_table.proofs.Meeting.{seen_received}
use Rattle.shim_laws_table.proofs.Poisoning.{seen_poisoned, child_poisoned}

by_is_alone : (p : Path) (e : Event) → IsBy p e → IsAlone e × (doer e ≡ p)
by_is_alone p (Own r) h = ((λ z. cc), h)
by_is_alone p (Meet c) h = absurd h
by_is_alone p (Poison r c) h = absurd h
by_is_alone p (Close r) h = ((λ z. cc), h)
by_is_alone p (End r) h = ((λ z. cc), h)

module _ {S : Type 0} (o : Ops S) where
  acted : (t u : Tree S) (p : Path) (e : Event) → IsBy p e → after o e t ≡ Some u → HasActed o p t.root u.root
  acted t u p e by h =
      let w = by_is_alone p e by in
      let x = split_event o e t u w.0 h in record {
        place = x.place;
        node = x.old;
        acted = x.new;
        leads = ap (route (o.path (state t.root))) (sym w.1) ∙ x.route_is;
        its = its_path o e t u x ∙ w.1;
        acts = x.here;
        replaced = subst (λ (z : Tree S). IsReplaced x.place x.old x.new.node t.root z.root) x.is (put_replaces x.place x.old x.new.node t.root x.there);
      }

  pub has_met : (t u : Tree S) (c : Channel) → after o (Meet c) t ≡ Some u → u.root ≡ received o c (value_of o c (source o c t.root)) t.root
  has_met t u c h = ap (λ (z : Tree S). z.root) (sym (cond_some (meets o c t.root) (met o c (value_of o c (source o c t.root)) t) u h).1)

  -- what the poison at these branches shows
  module _ (p : Path) (c : Channel) (i : ℕ) (q : List ℕ) (n m k : Node S) (led : route (o.path (state n)) p ≡ Some (i ∷ q)) (is_k : at (i ∷ q) n ≡ Some k) (its : o.path (state k) ≡ p)
      (e : poison o c (last_branch i q) (to_fork i q) n ≡ Some m) where
    abbrev x : PoisonsAt o c (last_branch i q) (to_fork i q) n
    x = poisons_at o c (last_branch i q) (to_fork i q) n m e

    whole : to_fork i q ++ last_branch i q ∷ [] ≡ i ∷ q
    whole = fork_and_last i q

    is_child : at (to_fork i q ++ last_branch i q ∷ []) n ≡ Some k
    is_child = ap (λ z. at z n) whole ∙ is_k

    in_fork : child_at (last_branch i q) [] x.children ≡ Some k
    in_fork = sym (at_child (to_fork i q) (last_branch i q) n x.parent x.children x.there) ∙ is_child

    abbrev dead : Node S
    dead = poisoned o c (death (o.handlers x.parent - 1)) k

    is_put : m ≡ put (to_fork i q ++ last_branch i q ∷ []) dead n
    is_put = child_poisoned o c (last_branch i q) (to_fork i q) n m x.parent x.children k e x.there in_fork

    poison_shows : HasPoisoned o p c n m
    poison_shows = record {
      fork_place = to_fork i q;
      branch = last_branch i q;
      parent = x.parent;
      children = x.children;
      child = k;
      fork = x.there;
      leads = led ∙ ap Some (sym whole);
      there = is_child;
      its = its;
      killed = λ s.
          let r = to_fork i q ++ last_branch i q ∷ [] in
          ap (λ z. seen (at (r ++ s) z)) is_put ∙ (ap seen (at_split r s (put r dead n) dead (there r k dead n is_child))
          ∙ (seen_poisoned o c (death (o.handlers x.parent - 1)) s k ∙ ap (λ z. seen_killed o c (death (o.handlers x.parent - 1)) (seen z)) (sym (at_split r s n k is_child))));
      aside = λ r h. ap (λ z. seen (at r z)) is_put ∙ outside (to_fork i q ++ last_branch i q ∷ []) k dead n is_child r h;
    }

  -- the child of the path was poisoned
  of_path : (p : Path) (x : Option (Node S)) → has_path o p x ≡ true → (k : Node S) × (x ≡ Some k) × (o.path (state k) ≡ p)
  of_path p None h = absurd cc
  of_path p (Some k) h = (k, refl, same_path_is (o.path (state k)) p h)

  poisoned_at_route : (p : Path) (c : Channel) (n m : Node S) (r : Option (List ℕ)) → route (o.path (state n)) p ≡ r → has_path o p (at_route n r) ≡ true → poison_route o c n r ≡ Some m → Poisoned o p c n m
  poisoned_at_route p c n m None e h f = none_some m f
  poisoned_at_route p c n m (Some []) e h f = none_some m f
  poisoned_at_route p c n m (Some (i ∷ q)) e h f =
      let k = of_path p (at (i ∷ q) n) h in
      record { place = i; further = q; child = k.0; route_is = e; there = k.1; path = k.2; is = f }

  pub has_poisoned : (p : Path) (c : Channel) (n m : Node S) → poisons o p c n ≡ Some m → Poisoned o p c n m
  has_poisoned p c n m e =
      let r = route (o.path (state n)) p in
      let w = chosen (has_path o p (led_to o n p)) (poison_route o c n r) m e in
      poisoned_at_route p c n m r refl w.0 w.1

  poison_shown : (t u : Tree S) (p : Path) (c : Channel) → after o (Poison p c) t ≡ Some u → HasPoisoned o p c t.root u.root
  poison_shown t u p c h =
      let x = nodes_changed_some t u (poisons o p c t.root) h in
      let y = has_poisoned p c t.root x.0 x.1 in
      subst (λ (z : Tree S). HasPoisoned o p c t.root z.root) x.2 (poison_shows p c y.place y.further t.root x.0 y.child y.route_is y.there y.path y.is)

  module _ (law : LocalLaws o) where
    alone_path : (t u : Tree S) (e : Event) → IsSoundTree o t → IsAlone e → after o e t ≡ Some u → o.path (state u.root) ≡ o.path (state t.root)
    alone_path t u e s d h =
        let x = split_event o e t u d h in
        ap (λ (z : Tree S). o.path (state z.root)) (sym x.is) ∙ root_path o law x.place t.root x.old x.new s.below x.there x.here

    pub path_stays : (t u : Tree S) (e : Event) → IsSoundTree o t → after o e t ≡ Some u → o.path (state u.root) ≡ o.path (state t.root)
    path_stays t u (Own p) s h = alone_path t u (Own p) s (λ z. cc) h
    path_stays t u (Close p) s h = alone_path t u (Close p) s (λ z. cc) h
    path_stays t u (End p) s h = alone_path t u (End p) s (λ z. cc) h
    path_stays t u (Meet c) s h = ap (λ z. o.path (state z)) (has_met t u c h) ∙ (meeting_stays o law c (value_of o c (source o c t.root)) t.root s.below).follows.path
    path_stays t u (Poison p c) s h =
        let x = nodes_changed_some t u (poisons o p c t.root) h in
        let y = has_poisoned p c t.root x.0 x.1 in
        ap (λ (z : Tree S). o.path (state z.root)) (sym x.2) ∙ (poison_stays o law c (Some (y.place ∷ y.further)) t.root x.0 s.below y.is).follows.path

    pub events_show : EventsShow o
    events_show = record {
      alone = acted;
      meets = λ t u c h p. ap (λ z. seen (at p z)) (has_met t u c h) ∙ seen_received o c (value_of o c (source o c t.root)) p t.root;
      poisons = poison_shown;
      root_path = path_stays;
    }
