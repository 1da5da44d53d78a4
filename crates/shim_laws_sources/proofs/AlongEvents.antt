-- A relation of nodes that holds of what each process does holds of each event and of each run.
use Rattle.std.proofs.Common.{◌≡◌, ℕ, zero, suc, ◌+◌, ◌-◌, ℤ, pos, true, false, Option, Some, None, List, [], ◌∷◌, ◌++◌, refl, subst}
use Rattle.shim_base.specs.Paths.{Path, Channel}
use Rattle.shim_local.specs.Process.{Ops, StopView, ForkedView, Parted, Trapped, AtQuiet, AtNext, AtPut, AtFork, AtFinish, AtThrow, AtTrap}
use Rattle.shim_local.specs.Laws.{LocalLaws, AllOf, by_join}
use Rattle.shim_semantics.specs.Nodes.{Node, Nodes, Live, Forked, Ended, Dead, death, death_with, Death, no_node, node_and, state, states, all_done, prevailing_death, source, value_of, is_next, received, all_received}
use Rattle.shim_semantics.specs.Acts.{Acted, act, act_here, act_live, closed, parted}
use Rattle.shim_semantics.specs.Poison.{poisoned, all_poisoned, one_poisoned, can_poison, poison_node, poison, poison_child, poison_route, to_fork, last_branch}
use Rattle.shim_semantics.specs.Places.{led_to, route, has_path, meets, SoundBelow, SoundChildren}
use Rattle.shim_semantics.specs.Sound.{IsSound}
use Rattle.shim_semantics.specs.Systems.{run}
use Rattle.shim_semantics.specs.Trees.{Tree, Event, Own, Meet, Poison, Close, End, OwnAction, Steps, Ends, Closes, is_its, act_route, acts, count_own, count_event, change_nodes, poisons, met, after}
use Rattle.shim_semantics.proofs.ReplacedNodes.{acts_there}
use Rattle.shim_semantics.proofs.Replaced.{sound_at, states_sound}
use Rattle.shim_semantics.proofs.SoundEvents.{events_keep_sound, went_on}
use Rattle.shim_laws_sources.proofs.Along.{behind, Relates, one_further, put_related, thrown_related, throwing_related}
use Rattle.shim_base.proofs.Facts.{some_same, none_some, chosen, cond_some, choose}
use Rattle.shim_semantics.proofs.PoisonStays.{before_some, above_some, after_some}

module _ {S : Type 0} (o : Ops S) (R : Node S → Node S → Type 0) where
  -- what one process does by itself

  forked_related : Relates o R → (l : S) (r : ForkedView S) → o.sound l → o.stop l ≡ AtFork → o.fork l ≡ r → R (Live l) (parted r)
  forked_related g l (Parted p ks) s at e = g.forks l p ks s (at, e)
  forked_related g l (Trapped m) s at e = g.traps l m s at e

  live_related : Relates o R → (l : S) (v : StopView) (a : Acted S) → o.sound l → o.stop l ≡ v → act_live o l v ≡ Some a → R (Live l) a.node
  live_related g l AtQuiet a s at e = subst (λ z. R (Live l) z.node) (some_same _ a e) (g.quiet l s at)
  live_related g l AtPut a s at e = subst (λ z. R (Live l) z.node) (some_same _ a e) (g.puts l s at)
  live_related g l AtFork a s at e = subst (λ z. R (Live l) z.node) (some_same _ a e) (forked_related g l (o.fork l) s at refl)
  live_related g l AtFinish a s at e = subst (λ z. R (Live l) z.node) (some_same _ a e) (g.ends l)
  live_related g l (AtNext c) a s at e = none_some a e
  live_related g l (AtThrow label) a s at e = subst (λ z. R (Live l) z.node) (some_same _ a e) (throwing_related o R g l label (o.number l) s)
  live_related g l (AtTrap kind line) a s at e = subst (λ z. R (Live l) z.node) (some_same _ a e) (g.dies l (death_with 0 (pos 0)))

  closed_related : LocalLaws o → Relates o R → (l : S) (ks : Nodes S) (r : Option Death) → SoundBelow o (Forked l ks) → all_done ks ≡ true → R (Forked l ks) (closed o l (states ks) r).node
  closed_related law g l ks None s done = g.joins l ks true s.sound (states_sound o l s.number 0 ks s.children) s.born done
  closed_related law g l ks (Some x) s done =
      let all : AllOf o.sound (states ks) = states_sound o l s.number 0 ks s.children in
      let j : S = o.join l (states ks) false in
      let sound : o.sound (o.join l (states ks) false) = law.moved_sound l j s.sound (by_join (states ks) false all s.born refl) in
      g.both (Forked l ks) (Live j) (closed o l (states ks) (Some x)).node (g.joins l ks false s.sound all s.born done) (thrown_related o R g j x sound)

  here_related : LocalLaws o → Relates o R → (m : Node S) (a : Acted S) → SoundBelow o m → act_here o m ≡ Some a → R m a.node
  here_related law g (Live l) a s e = live_related g l (o.stop l) a s refl e
  here_related law g (Forked l ks) a s e =
      let w = cond_some (all_done ks) (closed o l (states ks) (prevailing_death ks)) a e in
      subst (λ z. R (Forked l ks) z.node) w.1 (closed_related law g l ks (prevailing_death ks) s w.0)
  here_related law g (Ended l) a s e = none_some a e
  here_related law g (Dead l x) a s e = none_some a e

  act_related : LocalLaws o → Relates o R → (q : List ℕ) (n : Node S) (a : Acted S) → SoundBelow o n → act o q n ≡ Some a → R n a.node
  act_related law g q n a s e =
      let w = acts_there o q n a e in
      subst (λ z. R n z.node) w.is (put_related o R g q n w.old w.new.node w.there (here_related law g w.old w.new (sound_at o q n w.old s w.there) w.here))

  route_related : LocalLaws o → Relates o R → (r : Option (List ℕ)) (n : Node S) (a : Acted S) → SoundBelow o n → act_route o n r ≡ Some a → R n a.node
  route_related law g None n a s e = none_some a e
  route_related law g (Some q) n a s e = act_related law g q n a s e

  acts_related : LocalLaws o → Relates o R → (k : OwnAction) (p : Path) (n : Node S) (a : Acted S) → SoundBelow o n → acts o k p n ≡ Some a → R n a.node
  acts_related law g k p n a s e =
      route_related law g (route (o.path (state n)) p) n a s (chosen (is_its o k p (led_to o n p)) (act_route o n (route (o.path (state n)) p)) a e).1

  -- a poison

  mutual
    poisoned_related : Relates o R → (c : Channel) (x : Death) (n : Node S) → R n (poisoned o c x n)
    poisoned_related g c x (Live l) = choose (λ (z : Node S). R (Live l) z) (o.shares l c) (Dead l x) (Live l) (g.dies l x) (g.same (Live l))
    poisoned_related g c x (Ended l) = g.same (Ended l)
    poisoned_related g c x (Dead l y) = g.same (Dead l y)
    poisoned_related g c x (Forked l ks) = all_poisoned_related g c x l [] ks

    all_poisoned_related : Relates o R → (c : Channel) (x : Death) (l : S) (ns : List (Node S)) (ks : Nodes S) → R (Forked l (behind ns ks)) (Forked l (behind ns (all_poisoned o c x ks)))
    all_poisoned_related g c x l ns no_node = g.same (Forked l (behind ns no_node))
    all_poisoned_related g c x l ns (node_and k ks) =
        let m : Node S = poisoned o c x k in
        g.both (Forked l (behind ns (node_and k ks))) (Forked l (behind ns (node_and m ks))) (Forked l (behind ns (node_and m (all_poisoned o c x ks))))
        (g.within l ns k m ks (poisoned_related g c x k))
        (one_further o R l ns m ks (all_poisoned o c x ks) (all_poisoned_related g c x l (ns ++ m ∷ []) ks))

  one_poisoned_related : Relates o R → (c : Channel) (x : Death) (i : ℕ) (l : S) (ns : List (Node S)) (ks : Nodes S) → R (Forked l (behind ns ks)) (Forked l (behind ns (one_poisoned o c x i ks)))
  one_poisoned_related g c x i l ns no_node = g.same (Forked l (behind ns no_node))
  one_poisoned_related g c x zero l ns (node_and k ks) = g.within l ns k (poisoned o c x k) ks (poisoned_related g c x k)
  one_poisoned_related g c x (suc i) l ns (node_and k ks) = one_further o R l ns k ks (one_poisoned o c x i ks) (one_poisoned_related g c x i l (ns ++ k ∷ []) ks)

  poison_here_related : Relates o R → (c : Channel) (i : ℕ) (n m : Node S) → poison_node o c i n ≡ Some m → R n m
  poison_here_related g c i (Live l) m e = none_some m e
  poison_here_related g c i (Ended l) m e = none_some m e
  poison_here_related g c i (Dead l x) m e = none_some m e
  poison_here_related g c i (Forked l ks) m e =
      subst (λ z. R (Forked l ks) z) (cond_some (can_poison o l c i ks) (Forked l (one_poisoned o c (death (o.handlers l - 1)) i ks)) m e).1 (one_poisoned_related g c (death (o.handlers l - 1)) i l [] ks)

  mutual
    poison_related : Relates o R → (c : Channel) (i : ℕ) (q : List ℕ) (n m : Node S) → poison o c i q n ≡ Some m → R n m
    poison_related g c i [] n m e = poison_here_related g c i n m e
    poison_related g c i (b ∷ q) (Live l) m e = none_some m e
    poison_related g c i (b ∷ q) (Ended l) m e = none_some m e
    poison_related g c i (b ∷ q) (Dead l x) m e = none_some m e
    poison_related g c i (b ∷ q) (Forked l ks) m e =
        let w = above_some l (poison_child o c i b q ks) m e in
        subst (λ z. R (Forked l ks) z) w.2 (poison_in_related g c i b q l [] ks w.0 w.1)

    poison_in_related : Relates o R → (c : Channel) (i b : ℕ) (q : List ℕ) (l : S) (ns : List (Node S)) (ks js : Nodes S) → poison_child o c i b q ks ≡ Some js → R (Forked l (behind ns ks)) (Forked l (behind ns js))
    poison_in_related g c i b q l ns no_node js e = none_some js e
    poison_in_related g c i zero q l ns (node_and k ks) js e =
        let w = before_some ks (poison o c i q k) js e in
        subst (λ z. R (Forked l (behind ns (node_and k ks))) (Forked l (behind ns z))) w.2 (g.within l ns k w.0 ks (poison_related g c i q k w.0 w.1))
    poison_in_related g c i (suc b) q l ns (node_and k ks) js e =
        let w = after_some k (poison_child o c i b q ks) js e in
        subst (λ z. R (Forked l (behind ns (node_and k ks))) (Forked l (behind ns z))) w.2 (one_further o R l ns k ks w.0 (poison_in_related g c i b q l (ns ++ k ∷ []) ks w.0 w.1))

  poison_route_related : Relates o R → (c : Channel) (r : Option (List ℕ)) (n m : Node S) → poison_route o c n r ≡ Some m → R n m
  poison_route_related g c None n m e = none_some m e
  poison_route_related g c (Some []) n m e = none_some m e
  poison_route_related g c (Some (i ∷ q)) n m e = poison_related g c (last_branch i q) (to_fork i q) n m e

  poisons_related : Relates o R → (p : Path) (c : Channel) (n m : Node S) → poisons o p c n ≡ Some m → R n m
  poisons_related g p c n m e = poison_route_related g c (route (o.path (state n)) p) n m (chosen (has_path o p (led_to o n p)) (poison_route o c n (route (o.path (state n)) p)) m e).1

  -- a rendezvous

  mutual
    received_related : Relates o R → (c : Channel) (v : ℤ) (n : Node S) → SoundBelow o n → R n (received o c v n)
    received_related g c v (Live l) s = choose (λ (z : S). R (Live l) (Live z)) (is_next (o.stop l) c) (o.receive l v) l (g.receives l v s) (g.same (Live l))
    received_related g c v (Ended l) s = g.same (Ended l)
    received_related g c v (Dead l x) s = g.same (Dead l x)
    received_related g c v (Forked l ks) s = all_received_related g c v l s.number 0 [] ks s.children

    all_received_related : Relates o R → (c : Channel) (v : ℤ) (l : S) (f j : ℕ) (ns : List (Node S)) (ks : Nodes S) → SoundChildren o l f j ks → R (Forked l (behind ns ks)) (Forked l (behind ns (all_received o c v ks)))
    all_received_related g c v l f j ns no_node s = g.same (Forked l (behind ns no_node))
    all_received_related g c v l f j ns (node_and k ks) s =
        let m : Node S = received o c v k in
        g.both (Forked l (behind ns (node_and k ks))) (Forked l (behind ns (node_and m ks))) (Forked l (behind ns (node_and m (all_received o c v ks))))
        (g.within l ns k m ks (received_related g c v k s.1))
        (one_further o R l ns m ks (all_received o c v ks) (all_received_related g c v l f (j + 1) (ns ++ m ∷ []) ks s.2))

  -- each event

  own_related : (p : Path) (t u : Tree S) (x : Option (Acted S)) → ((a : Acted S) → x ≡ Some a → R t.root a.node) → count_own p t x ≡ Some u → R t.root u.root
  own_related p t u None h e = none_some u e
  own_related p t u (Some a) h e = subst (λ z. R t.root z.root) (some_same _ u e) (h a refl)

  other_related : (p : Path) (t u : Tree S) (x : Option (Acted S)) → ((a : Acted S) → x ≡ Some a → R t.root a.node) → count_event p t x ≡ Some u → R t.root u.root
  other_related p t u None h e = none_some u e
  other_related p t u (Some a) h e = subst (λ z. R t.root z.root) (some_same _ u e) (h a refl)

  nodes_changed_related : (t u : Tree S) (x : Option (Node S)) → ((n : Node S) → x ≡ Some n → R t.root n) → change_nodes t x ≡ Some u → R t.root u.root
  nodes_changed_related t u None h e = none_some u e
  nodes_changed_related t u (Some n) h e = subst (λ z. R t.root z.root) (some_same _ u e) (h n refl)

  pub event_related : LocalLaws o → Relates o R → (t u : Tree S) (e : Event) → SoundBelow o t.root → after o e t ≡ Some u → R t.root u.root
  event_related law g t u (Own p) s h = own_related p t u (acts o Steps p t.root) (λ a. acts_related law g Steps p t.root a s) h
  event_related law g t u (Close p) s h = other_related p t u (acts o Closes p t.root) (λ a. acts_related law g Closes p t.root a s) h
  event_related law g t u (End p) s h = other_related p t u (acts o Ends p t.root) (λ a. acts_related law g Ends p t.root a s) h
  event_related law g t u (Poison p c) s h = nodes_changed_related t u (poisons o p c t.root) (λ n. poisons_related g p c t.root n) h
  event_related law g t u (Meet c) s h =
      subst (λ z. R t.root z.root) (cond_some (meets o c t.root) (met o c (value_of o c (source o c t.root)) t) u h).1
      (received_related g c (value_of o c (source o c t.root)) t.root s)

  -- each run from a sound tree
  pub run_related : LocalLaws o → Relates o R → (es : List Event) (t u : Tree S) → IsSound o t.root → run (after o) es t ≡ Some u → R t.root u.root
  run_related law g [] t u s e = subst (λ z. R t.root z.root) (some_same t u e) (g.same t.root)
  run_related law g (f ∷ es) t u s e =
      let w = went_on (run (after o) es) (after o f t) u e in
      g.both t.root w.0.root u.root (event_related law g t w.0 f s.below w.1) (run_related law g es w.0 u ((events_keep_sound o law).kept t s f w.0 w.1) w.2)
