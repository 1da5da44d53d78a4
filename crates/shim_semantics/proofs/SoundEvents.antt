-- Each event keeps a tree sound, and so does each run.
use Rattle.std.proofs.Common.{◌≡◌, ◌<◌, ◌≤◌, ℕ, ℤ, pos, Option, Some, None, List, [], ◌∷◌, refl, subst, arith}
use Rattle.shim_base.specs.Paths.{Path, Channel}
use Rattle.shim_local.specs.Process.{Ops, StopView, AtQuiet, AtNext, AtPut, AtFork, AtFinish, AtThrow, AtTrap}
use Rattle.shim_local.specs.Laws.{LocalLaws, by_put}
use Rattle.shim_semantics.specs.Nodes.{Node, Live, Forked, Ended, Dead, death_with, state, states, all_done, prevailing_death, source, value_of, received}
use Rattle.shim_semantics.specs.Acts.{Acted, act, act_here, act_live, closed}
use Rattle.shim_semantics.specs.Poison.{poison_route}
use Rattle.shim_semantics.specs.Places.{led_to, route, has_path, meets, SoundBelow}
use Rattle.shim_semantics.specs.Trees.{Tree, Event, Own, Meet, Poison, Close, End, OwnAction, Steps, Ends, Closes, is_its, act_route, acts, count_own, count_event, change_nodes, poisons, met, after}
use Rattle.shim_semantics.specs.Sound.{IsSound}
use Rattle.shim_semantics.specs.Laws.{IsSoundTree, KeepsSound, RunsStaySound}
use Rattle.shim_semantics.specs.Systems.{on_some, run}
use Rattle.shim_semantics.proofs.ReplacedNodes.{acts_there}
use Rattle.shim_semantics.proofs.HowMany.{one_at_most}
use Rattle.shim_semantics.proofs.Follows.{Keeps, stays_keeps, own_keeps, same_stays}
use Rattle.shim_semantics.proofs.Replaced.{sound_at, stays_sound, replaced}
use Rattle.shim_semantics.proofs.QuietKeeps.{quiet_keeps}
use Rattle.shim_semantics.proofs.CallStays.{call_stays}
use Rattle.shim_semantics.proofs.ThrowStays.{death_stays, throwing_keeps}
use Rattle.shim_semantics.proofs.ForkKeeps.{fork_keeps}
use Rattle.shim_semantics.proofs.CloseStays.{closed_keeps}
use Rattle.shim_semantics.proofs.MeetStays.{meeting_stays}
use Rattle.shim_semantics.proofs.PoisonStays.{poison_stays}
use Rattle.shim_base.proofs.Facts.{some_same, none_some, chosen, cond_some}

trap_below : (b : ℕ) → 1 ≤ b → 0 < b
trap_below b h = omega arith

pub went_on : {T : Type 0} (f : T → Option T) (r : Option T) (u : T) → on_some f r ≡ Some u → (w : T) × (r ≡ Some w) × (f w ≡ Some u)
went_on f None u e = none_some u e
went_on f (Some w) u e = (w, refl, e)

module _ {S : Type 0} (o : Ops S) where
  live_keeps : LocalLaws o → (l : S) (v : StopView) (a : Acted S) → o.sound l → o.stop l ≡ v → act_live o l v ≡ Some a → Keeps o (Live l) a.node
  live_keeps law l AtQuiet a s at e = subst (λ z. Keeps o (Live l) z.node) (some_same _ a e) (own_keeps o (Live l) _ (quiet_keeps o law l s at))
  live_keeps law l AtPut a s at e = subst (λ z. Keeps o (Live l) z.node) (some_same _ a e) (stays_keeps o (Live l) (Live (o.put l)) (call_stays o law l (o.put l) s (by_put at refl)))
  live_keeps law l AtFork a s at e = subst (λ z. Keeps o (Live l) z.node) (some_same _ a e) (fork_keeps o law l s at (o.fork l) refl)
  live_keeps law l AtFinish a s at e = subst (λ z. Keeps o (Live l) z.node) (some_same _ a e) (stays_keeps o (Live l) (Ended l) (same_stays o (Live l) (Ended l) s refl refl))
  live_keeps law l (AtNext c) a s at e = none_some a e
  live_keeps law l (AtThrow label) a s at e = subst (λ z. Keeps o (Live l) z.node) (some_same _ a e) (own_keeps o (Live l) _ (throwing_keeps o law l label (o.number l) s at))
  live_keeps law l (AtTrap kind line) a s at e = subst (λ z. Keeps o (Live l) z.node) (some_same _ a e) (stays_keeps o (Live l) (Dead l (death_with 0 (pos 0))) (death_stays o l (death_with 0 (pos 0)) s (trap_below (o.base l) (law.base_least l s))))

  -- what the process of a node does by itself
  pub here_keeps : LocalLaws o → (m : Node S) (a : Acted S) → SoundBelow o m → act_here o m ≡ Some a → Keeps o m a.node
  here_keeps law (Live l) a s e = live_keeps law l (o.stop l) a s refl e
  here_keeps law (Forked l ks) a s e =
      subst (λ z. Keeps o (Forked l ks) z.node) (cond_some (all_done ks) (closed o l (states ks) (prevailing_death ks)) a e).1
      (own_keeps o (Forked l ks) _ (closed_keeps o law l ks (prevailing_death ks) refl s))
  here_keeps law (Ended l) a s e = none_some a e
  here_keeps law (Dead l x) a s e = none_some a e

  act_sound : LocalLaws o → (q : List ℕ) (n : Node S) (a : Acted S) → IsSound o n → act o q n ≡ Some a → IsSound o a.node
  act_sound law q n a s e =
      let r = acts_there o q n a e in
      let k = here_keeps law r.old r.new (sound_at o q n r.old s.below r.there) r.here in
      subst (λ z. IsSound o z.node) r.is (replaced o law q n r.old r.new.node s r.there k)

  pub route_sound : LocalLaws o → (r : Option (List ℕ)) (n : Node S) (a : Acted S) → IsSound o n → act_route o n r ≡ Some a → IsSound o a.node
  route_sound law None n a s e = none_some a e
  route_sound law (Some q) n a s e = act_sound law q n a s e

  acts_sound : LocalLaws o → (k : OwnAction) (p : Path) (n : Node S) (a : Acted S) → IsSound o n → acts o k p n ≡ Some a → IsSound o a.node
  acts_sound law k p n a s e =
      route_sound law (route (o.path (state n)) p) n a s (chosen (is_its o k p (led_to o n p)) (act_route o n (route (o.path (state n)) p)) a e).1

  own_sound : (p : Path) (t u : Tree S) (x : Option (Acted S)) → ((a : Acted S) → x ≡ Some a → IsSound o a.node) → count_own p t x ≡ Some u → IsSound o u.root
  own_sound p t u None h e = none_some u e
  own_sound p t u (Some a) h e = subst (λ z. IsSound o z.root) (some_same _ u e) (h a refl)

  other_sound : (p : Path) (t u : Tree S) (x : Option (Acted S)) → ((a : Acted S) → x ≡ Some a → IsSound o a.node) → count_event p t x ≡ Some u → IsSound o u.root
  other_sound p t u None h e = none_some u e
  other_sound p t u (Some a) h e = subst (λ z. IsSound o z.root) (some_same _ u e) (h a refl)

  nodes_changed_sound : (t u : Tree S) (x : Option (Node S)) → ((n : Node S) → x ≡ Some n → IsSound o n) → change_nodes t x ≡ Some u → IsSound o u.root
  nodes_changed_sound t u None h e = none_some u e
  nodes_changed_sound t u (Some n) h e = subst (λ z. IsSound o z.root) (some_same _ u e) (h n refl)

  pub poisons_sound : LocalLaws o → (p : Path) (c : Channel) (n m : Node S) → IsSound o n → poisons o p c n ≡ Some m → IsSound o m
  poisons_sound law p c n m s e =
      stays_sound o n m s (poison_stays o law c (route (o.path (state n)) p) n m s.below (chosen (has_path o p (led_to o n p)) (poison_route o c n (route (o.path (state n)) p)) m e).1)

  pub meeting_sound : LocalLaws o → (c : Channel) (v : ℤ) (n : Node S) → IsSound o n → IsSound o (received o c v n)
  meeting_sound law c v n s = stays_sound o n (received o c v n) s (meeting_stays o law c v n s.below)

  event_sound : LocalLaws o → (t : Tree S) → IsSoundTree o t → (e : Event) (u : Tree S) → after o e t ≡ Some u → IsSoundTree o u
  event_sound law t s (Own p) u h = own_sound p t u (acts o Steps p t.root) (λ a. acts_sound law Steps p t.root a s) h
  event_sound law t s (Close p) u h = other_sound p t u (acts o Closes p t.root) (λ a. acts_sound law Closes p t.root a s) h
  event_sound law t s (End p) u h = other_sound p t u (acts o Ends p t.root) (λ a. acts_sound law Ends p t.root a s) h
  event_sound law t s (Poison p c) u h = nodes_changed_sound t u (poisons o p c t.root) (λ n. poisons_sound law p c t.root n s) h
  event_sound law t s (Meet c) u h =
      subst (λ z. IsSound o z.root) (cond_some (meets o c t.root) (met o c (value_of o c (source o c t.root)) t) u h).1
      (meeting_sound law c (value_of o c (source o c t.root)) t.root s)

  pub events_keep_sound : LocalLaws o → KeepsSound o
  events_keep_sound law = record {
    starts = λ l s own. record { below = s; own = own; carrying = λ c. one_at_most (λ k. o.carries k c) l; one_holder = one_at_most o.holds_output l };
    kept = event_sound law;
  }

  pub runs_stay_sound : LocalLaws o → RunsStaySound o
  runs_stay_sound law t u [] s e = subst (IsSoundTree o) (some_same t u e) s
  runs_stay_sound law t u (f ∷ es) s e =
      let r = went_on (run (after o) es) (after o f t) u e in
      runs_stay_sound law r.0 u es (event_sound law t s f r.0 r.1) r.2
