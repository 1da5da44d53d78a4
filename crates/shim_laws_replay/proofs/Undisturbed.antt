-- Event by event: what happens elsewhere leaves a process that may be granted, with its place.
use Rattle.std.proofs.Common.{◌≡◌, ◌≢◌, ℕ, true, Option, Some, None, List, [], ◌∷◌, refl, sym, ap, subst, ◌∙◌}
use Rattle.shim_base.specs.Paths.{Path, Channel}
use Rattle.shim_local.specs.Process.{Ops, AtQuiet}
use Rattle.shim_local.specs.Laws.{LocalLaws}
use Rattle.shim_semantics.specs.Nodes.{Node, Live, state, received}
use Rattle.shim_semantics.specs.Acts.{Acted, act_here, act_live, nothing}
use Rattle.shim_semantics.specs.Places.{at, route, at_route, led_to, has_path}
use Rattle.shim_semantics.specs.Poison.{poison_route, to_fork, last_branch}
use Rattle.shim_semantics.specs.Trees.{Tree, Event, Own, Meet, Poison, Close, End, after, poisons, own_action_of, own_action_at, same_own_action}
use Rattle.shim_semantics.specs.Laws.{IsSoundTree}
use Rattle.shim_semantics.proofs.Alone.{doer, does, IsAlone}
use Rattle.shim_semantics.proofs.ReplacedNodes.{put}
use Rattle.shim_semantics.proofs.MeetStays.{meeting_stays}
use Rattle.shim_semantics.proofs.PoisonStays.{poison_stays}
use Rattle.shim_laws_schedules.proofs.Homes.{all_wait_home}
use Rattle.shim_laws_schedules.proofs.Elsewhere.{acts_aside}
use Rattle.shim_laws_schedules.proofs.Meets.{is_unshared_there}
use Rattle.shim_laws_schedules.proofs.EventParts.{root_path, EventParts, split_event, its_path, its_kind}
use Rattle.shim_laws_schedules.proofs.MeetDiamond.{has_met, value_in}
use Rattle.shim_laws_schedules.proofs.PoisonDiamond.{nodes_changed_some}
use Rattle.shim_laws_schedules.proofs.Kills.{root_from_above, act_poison}
use Rattle.shim_laws_schedules.proofs.Pairs.{apart}
use Rattle.shim_base.proofs.Facts.{some_same, none_some, chosen}
use Rattle.shim_laws_replay.specs.Grants.{QuietUndisturbed}

-- the branches of a route that leads to a node
pub record Led {S : Type 0} (root : Node S) (r : Option (List ℕ)) (n : Node S) : Type 0 where
  pub branches : List ℕ
  pub is : r ≡ Some branches
  pub there : at branches root ≡ Some n

pub led_by : {S : Type 0} (root : Node S) (r : Option (List ℕ)) (n : Node S) → at_route root r ≡ Some n → Led root r n
led_by root None n e = none_some n e
led_by root (Some q) n e = record { branches = q; is = refl; there = e }

module _ {S : Type 0} (o : Ops S) where
  -- what its quiet step leaves
  abbrev pub quieted : S → Acted S
  quieted l = record { node = Live (o.quiet l); effects = nothing }

  pub steps_here : (l : S) → o.stop l ≡ AtQuiet → act_here o (Live l) ≡ Some (quieted l)
  steps_here l e = ap (act_live o l) e

  -- at a quiet stop a process does nothing by itself but step
  own_step : (e : Event) (l : S) → IsAlone e → o.path l ≡ doer e → o.stop l ≡ AtQuiet → same_own_action (does e) (own_action_of o (Live l)) ≡ true → e ≡ Own (o.path l)
  own_step (Own p) l d is stop k = ap Own (sym is)
  own_step (Meet c) l d is stop k = absurd (d refl)
  own_step (Poison p c) l d is stop k = absurd (d refl)
  own_step (Close p) l d is stop k = absurd (let same = ap (λ s. same_own_action (does (Close p)) (own_action_at s)) stop in cc (sym same ∙ k))
  own_step (End p) l d is stop k = absurd (let same = ap (λ s. same_own_action (does (End p)) (own_action_at s)) stop in cc (sym same ∙ k))

  -- the node is found by its path again, where the path of the root stays
  pub again : (root new : Node S) (p : Path) (q : List ℕ) (n : Node S) → o.path (state new) ≡ o.path (state root) → route (o.path (state root)) p ≡ Some q → at q new ≡ Some n → led_to o new p ≡ Some n
  again root new p q n same r e = ap (λ z. at_route new (route z p)) same ∙ (ap (at_route new) r ∙ e)

  module _ (law : LocalLaws o) (t : Tree S) (l : S) (s : IsSoundTree o t) (stop : o.stop l ≡ AtQuiet) (w : Led t.root (route (o.path (state t.root)) (o.path l)) (Live l)) where
    -- an event of one process by itself, which is another one
    alone : (e : Event) (u : Tree S) → IsAlone e → e ≢ Own (o.path l) → EventParts o e t u → led_to o u.root (o.path l) ≡ Some (Live l)
    alone e u d other x =
        let same : x.place ≡ w.branches → x.old ≡ Live l = λ z. some_same x.old (Live l) (sym x.there ∙ (ap (λ y. at y t.root) z ∙ w.there)) in
        let places : x.place ≡ w.branches → ⊥ = λ z. other (own_step e l d (sym (ap (λ y. o.path (state y)) (same z)) ∙ its_path o e t u x) stop (sym (ap (λ y. same_own_action (does e) (own_action_of o y)) (same z)) ∙ its_kind o e t u x)) in
        let a = apart o x.place w.branches t.root x.old (Live l) x.new.node (quieted l).node x.new (quieted l) places x.there w.there x.here (steps_here l stop) in
        let root = root_path o law x.place t.root x.old x.new s.below x.there x.here in
        subst (λ (z : Tree S). led_to o z.root (o.path l) ≡ Some (Live l)) x.is (again t.root (put x.place x.new.node t.root) (o.path l) w.branches (Live l) root w.is a.second)

    -- a rendezvous, whose channel has nothing to do with the process
    meets : (c : Channel) (u : Tree S) → after o (Meet c) t ≡ Some u → led_to o u.root (o.path l) ≡ Some (Live l)
    meets c u h =
        let x = has_met o law c t u s h in
        let v = value_in o c t.root in
        let home = all_wait_home o c t.root s.below (s.own c) x.does_wait x.sharer_is_there in
        let aside = acts_aside o law c w.branches t.root (Live l) (quieted l) s.below x.does_wait home w.there (steps_here l stop) in
        let there = is_unshared_there o law c v w.branches t.root (Live l) s.below w.there aside.before in
        let root = (meeting_stays o law c v t.root s.below).follows.path in
        subst (λ (z : Tree S). led_to o z.root (o.path l) ≡ Some (Live l)) x.is (again t.root (received o c v t.root) (o.path l) w.branches (Live l) root w.is there)

    -- a poison, which kills no one who can act
    poisoned : (c : Channel) (m : Node S) (r : Option (List ℕ)) → poison_route o c t.root r ≡ Some m → led_to o m (o.path l) ≡ Some (Live l)
    poisoned c m None e = none_some m e
    poisoned c m (Some []) e = none_some m e
    poisoned c m (Some (i ∷ q)) e =
        let x = act_poison o law c (last_branch i q) (to_fork i q) w.branches t.root m (Live l) (quieted l) s.below (root_from_above o c (state t.root) (s.own c)) e w.there (steps_here l stop) in
        again t.root m (o.path l) w.branches (Live l) (poison_stays o law c (Some (i ∷ q)) t.root m s.below e).follows.path w.is x.there

    by_event : (e : Event) (u : Tree S) → after o e t ≡ Some u → e ≢ Own (o.path l) → led_to o u.root (o.path l) ≡ Some (Live l)
    by_event (Own p) u h n = alone (Own p) u (λ z. cc) n (split_event o (Own p) t u (λ z. cc) h)
    by_event (Close p) u h n = alone (Close p) u (λ z. cc) n (split_event o (Close p) t u (λ z. cc) h)
    by_event (End p) u h n = alone (End p) u (λ z. cc) n (split_event o (End p) t u (λ z. cc) h)
    by_event (Meet c) u h n = meets c u h
    by_event (Poison p c) u h n =
        let x = nodes_changed_some t u (poisons o p c t.root) h in
        let r = route (o.path (state t.root)) p in
        let y = (chosen (has_path o p (led_to o t.root p)) (poison_route o c t.root r) x.0 x.1).1 in
        subst (λ (z : Tree S). led_to o z.root (o.path l) ≡ Some (Live l)) x.2 (poisoned c x.0 r y)

  pub quiet_undisturbed : LocalLaws o → QuietUndisturbed o
  quiet_undisturbed law t u e l s h n q = record {
    in_tree = record { there = by_event law t l s q.stop (led_by t.root (route (o.path (state t.root)) (o.path l)) (Live l) q.in_tree.there) e u h n; is_its = refl };
    stop = q.stop;
  }
