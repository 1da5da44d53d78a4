-- Who there is after an event, and that each has its count.
use Rattle.std.proofs.Common.{◌≡◌, ℕ, ℤ, zero, suc, ◌+◌, Bool, true, false, Option, Some, None, List, [], ◌∷◌, cond, refl, sym, ap, subst}
use Rattle.std.specs.Prelude.{ltb}
use Rattle.std.specs.FinMap.{FinMap}
use Rattle.shim_base.specs.Paths.{Path, Channel, path_order}
use Rattle.shim_local.specs.Process.{Ops, StopView, ForkedView, AtQuiet, AtNext, AtPut, AtFork, AtFinish, AtThrow, AtTrap, Parted, Trapped}
use Rattle.shim_local.specs.Laws.{LocalLaws, AllOf}
use Rattle.shim_semantics.specs.Nodes.{Node, Nodes, Live, Forked, Ended, Dead, Death, death_with, handed, no_node, node_and, state, states, everyone, everyone_of, all_live, all_done, prevailing_death, received, all_received}
use Rattle.shim_semantics.specs.Acts.{throwing, Acted, nothing, catch_logged, act_here, act_live, parted, thrown, closed}
use Rattle.shim_semantics.specs.Poison.{poison_route}
use Rattle.shim_semantics.specs.Places.{at, child_at, route, at_route, led_to, has_path, SoundBelow, SoundChildren}
use Rattle.shim_semantics.specs.Trees.{act_route, poisons}
use Rattle.shim_tree.specs.Acting.{acted_on}
use Rattle.shim_tree.specs.Advancing.{AllHaveCounts}
use Rattle.shim_run_log.specs.Reserved.{HasCount}
use Rattle.shim_tree.specs.ChildCounts.{live_in, forked_children, born_by, ChildCountsReserved}
use Rattle.shim_semantics.proofs.ReplacedNodes.{put, put_child, acts_there}
use Rattle.shim_tree.proofs.Placed.{all_left, all_right, all_both}
use Rattle.shim_semantics.proofs.Replaced.{sound_at}
use Rattle.shim_semantics.proofs.MeetStays.{meeting_stays}
use Rattle.shim_semantics.proofs.PoisonStays.{route_alike}
use Rattle.shim_semantics.proofs.SoundEvents.{here_keeps}
use Rattle.shim_base.proofs.Facts.{some_same, none_some, chosen, cond_some}
use Rattle.shim_base.proofs.SamePaths.{same_path_is}

-- those of whom all live
everyone_live : {S : Type 0} (ks : List S) → everyone_of (all_live ks) ≡ ks
everyone_live [] = refl
everyone_live (k ∷ ks) = ap (λ z. k ∷ z) (everyone_live ks)

module _ {S : Type 0} (o : Ops S) where
  -- the children that the process of a node would have by its next step
  abbrev children_to_come : Node S → List S
  children_to_come (Live l) = born_by (o.stop l) (o.fork l)
  children_to_come (Forked l ks) = []
  children_to_come (Ended l) = []
  children_to_come (Dead l x) = []

  thrown_alone : (l : S) (x : Death) → everyone (thrown o l x).node ≡ state (thrown o l x).node ∷ []
  thrown_alone l x = at_base (ltb x.label (o.base l))
    where
      at_base : (b : Bool) → everyone (cond {A = Acted S} b (record { node = Dead l x; effects = nothing }) (record { node = Live (o.unwind l x.label (handed x.given)); effects = catch_logged (o.handler l x.label) })).node
          ≡ state (cond {A = Acted S} b (record { node = Dead l x; effects = nothing }) (record { node = Live (o.unwind l x.label (handed x.given)); effects = catch_logged (o.handler l x.label) })).node ∷ []
      at_base true = refl
      at_base false = refl

  throwing_alone : (l : S) (x : ℕ) (r : Option ℤ) → everyone (throwing o l x r).node ≡ state (throwing o l x r).node ∷ []
  throwing_alone l x None = refl
  throwing_alone l x (Some v) = thrown_alone l (death_with x v)

  closed_alone : (l : S) (ks : List S) (x : Option Death) → everyone (closed o l ks x).node ≡ state (closed o l ks x).node ∷ []
  closed_alone l ks None = refl
  closed_alone l ks (Some x) = thrown_alone (o.join l ks false) x

  parted_all : (r : ForkedView S) → everyone (parted r) ≡ state (parted r) ∷ forked_children r
  parted_all (Parted l ks) = ap (λ z. l ∷ z) (everyone_live ks)
  parted_all (Trapped l) = refl

  live_all : (l : S) (v : StopView) (a : Acted S) → act_live o l v ≡ Some a → everyone a.node ≡ state a.node ∷ born_by v (o.fork l)
  live_all l AtQuiet a e = subst (λ z. everyone z.node ≡ state z.node ∷ []) (some_same _ a e) refl
  live_all l AtPut a e = subst (λ z. everyone z.node ≡ state z.node ∷ []) (some_same _ a e) refl
  live_all l AtFork a e = subst (λ z. everyone z.node ≡ state z.node ∷ forked_children (o.fork l)) (some_same _ a e) (parted_all (o.fork l))
  live_all l AtFinish a e = subst (λ z. everyone z.node ≡ state z.node ∷ []) (some_same _ a e) refl
  live_all l (AtNext c) a e = none_some a e
  live_all l (AtThrow label) a e = subst (λ z. everyone z.node ≡ state z.node ∷ []) (some_same _ a e) (throwing_alone l label (o.number l))
  live_all l (AtTrap kind line) a e = subst (λ z. everyone z.node ≡ state z.node ∷ []) (some_same _ a e) refl

  -- the process itself, and the children that its step made
  acted_all : (n : Node S) (a : Acted S) → act_here o n ≡ Some a → everyone a.node ≡ state a.node ∷ children_to_come n
  acted_all (Live l) a e = live_all l (o.stop l) a e
  acted_all (Forked l ks) a e = subst (λ z. everyone z.node ≡ state z.node ∷ []) (cond_some (all_done ks) (closed o l (states ks) (prevailing_death ks)) a e).1 (closed_alone l (states ks) (prevailing_death ks))
  acted_all (Ended l) a e = none_some a e
  acted_all (Dead l x) a e = none_some a e

  module _ (m : FinMap path_order ℕ) where
    abbrev Placed : S → Type 0
    Placed l = HasCount m (o.path l)

    state_placed : (n : Node S) → AllHaveCounts o m n → HasCount m (o.path (state n))
    state_placed (Live l) h = h.0
    state_placed (Forked l ks) h = h.0
    state_placed (Ended l) h = h.0
    state_placed (Dead l x) h = h.0

    child_counts_reserved : (n : Node S) → ChildCountsReserved o m (live_in (Some n)) → AllOf Placed (children_to_come n)
    child_counts_reserved (Live l) h = h
    child_counts_reserved (Forked l ks) h = tt
    child_counts_reserved (Ended l) h = tt
    child_counts_reserved (Dead l x) h = tt

    -- what the process of a node leaves
    here_placed : LocalLaws o → (n : Node S) (a : Acted S) → SoundBelow o n → act_here o n ≡ Some a → ChildCountsReserved o m (live_in (Some n)) → AllHaveCounts o m n → AllHaveCounts o m a.node
    here_placed law n a s e born h =
        subst (AllOf Placed) (sym (acted_all n a e))
        (subst (HasCount m) (sym (here_keeps o law n a s e).follows.path) (state_placed n h), child_counts_reserved n born)

    mutual
      -- where each of a tree has its place, so has each of a node in it
      placed_at : (q : List ℕ) (n k : Node S) → at q n ≡ Some k → AllHaveCounts o m n → AllHaveCounts o m k
      placed_at [] n k e h = subst (AllHaveCounts o m) (some_same n k e) h
      placed_at (i ∷ q) (Live l) k e h = none_some k e
      placed_at (i ∷ q) (Ended l) k e h = none_some k e
      placed_at (i ∷ q) (Dead l x) k e h = none_some k e
      placed_at (i ∷ q) (Forked l ks) k e h = placed_in i q ks k e h.1

      placed_in : (i : ℕ) (q : List ℕ) (ks : Nodes S) (k : Node S) → child_at i q ks ≡ Some k → AllOf Placed (everyone_of ks) → AllHaveCounts o m k
      placed_in i q no_node k e h = none_some k e
      placed_in zero q (node_and j ks) k e h = placed_at q j k e (all_left Placed (everyone j) (everyone_of ks) h)
      placed_in (suc i) q (node_and j ks) k e h = placed_in i q ks k e (all_right Placed (everyone j) (everyone_of ks) h)

    mutual
      -- and each after a node is replaced by one where each has its place
      placed_put : (q : List ℕ) (n k : Node S) → AllHaveCounts o m k → AllHaveCounts o m n → AllHaveCounts o m (put q k n)
      placed_put [] n k w h = w
      placed_put (i ∷ q) (Live l) k w h = h
      placed_put (i ∷ q) (Ended l) k w h = h
      placed_put (i ∷ q) (Dead l x) k w h = h
      placed_put (i ∷ q) (Forked l ks) k w h = (h.0, placed_put_in i q ks k w h.1)

      placed_put_in : (i : ℕ) (q : List ℕ) (ks : Nodes S) (k : Node S) → AllHaveCounts o m k → AllOf Placed (everyone_of ks) → AllOf Placed (everyone_of (put_child i q k ks))
      placed_put_in i q no_node k w h = h
      placed_put_in zero q (node_and j ks) k w h =
          all_both Placed (everyone (put q k j)) (everyone_of ks) (placed_put q j k w (all_left Placed (everyone j) (everyone_of ks) h)) (all_right Placed (everyone j) (everyone_of ks) h)
      placed_put_in (suc i) q (node_and j ks) k w h =
          all_both Placed (everyone j) (everyone_of (put_child i q k ks)) (all_left Placed (everyone j) (everyone_of ks) h) (placed_put_in i q ks k w (all_right Placed (everyone j) (everyone_of ks) h))

    -- what a process does by itself leaves each with its place, where its children had theirs before
    pub acted_placed : LocalLaws o → (p : Path) (n : Node S) (a : Acted S) → SoundBelow o n → acted_on o p n ≡ Some a → ChildCountsReserved o m (live_in (led_to o n p)) → AllHaveCounts o m n → AllHaveCounts o m a.node
    acted_placed law p n a s e born h = at_branches (route (o.path (state n)) p) e born
      where
        at_branches : (r : Option (List ℕ)) → act_route o n r ≡ Some a → ChildCountsReserved o m (live_in (at_route n r)) → AllHaveCounts o m a.node
        at_branches None e born = none_some a e
        at_branches (Some q) e born =
            let r = acts_there o q n a e in
            let old = placed_at q n r.old r.there h in
            subst (λ z. AllHaveCounts o m z.node) r.is
            (placed_put q n r.new.node (here_placed law r.old r.new (sound_at o q n r.old s r.there) r.here (subst (λ z. ChildCountsReserved o m (live_in z)) r.there born) old) h)

    -- the process to whose node a path leads has its place
    pub place_of_path : (p : Path) (n : Node S) → has_path o p (led_to o n p) ≡ true → AllHaveCounts o m n → HasCount m p
    place_of_path p n e h = at_branches (route (o.path (state n)) p) e
      where
        at_node : (q : List ℕ) (x : Option (Node S)) → at q n ≡ x → has_path o p x ≡ true → HasCount m p
        at_node q None f e = absurd cc
        at_node q (Some k) f e = subst (HasCount m) (same_path_is (o.path (state k)) p e) (state_placed k (placed_at q n k f h))

        at_branches : (r : Option (List ℕ)) → has_path o p (at_route n r) ≡ true → HasCount m p
        at_branches None e = absurd cc
        at_branches (Some q) e = at_node q (at q n) refl e

    mutual
      -- a rendezvous changes no path
      pub meeting_placed : LocalLaws o → (c : Channel) (v : ℤ) (n : Node S) → SoundBelow o n → AllHaveCounts o m n → AllHaveCounts o m (received o c v n)
      meeting_placed law c v (Live l) s h = (subst (HasCount m) (sym (meeting_stays o law c v (Live l) s).follows.path) h.0, tt)
      meeting_placed law c v (Ended l) s h = h
      meeting_placed law c v (Dead l x) s h = h
      meeting_placed law c v (Forked l ks) s h = (h.0, meeting_placed_in law c v l s.number 0 ks s.children h.1)

      meeting_placed_in : LocalLaws o → (c : Channel) (v : ℤ) (l : S) (f j : ℕ) (ks : Nodes S) → SoundChildren o l f j ks → AllOf Placed (everyone_of ks) → AllOf Placed (everyone_of (all_received o c v ks))
      meeting_placed_in law c v l f j no_node s h = h
      meeting_placed_in law c v l f j (node_and k ks) s h =
          all_both Placed (everyone (received o c v k)) (everyone_of (all_received o c v ks))
          (meeting_placed law c v k s.1 (all_left Placed (everyone k) (everyone_of ks) h)) (meeting_placed_in law c v l f (j + 1) ks s.2 (all_right Placed (everyone k) (everyone_of ks) h))

    -- nor does a poison
    pub poison_placed : LocalLaws o → (p : Path) (c : Channel) (n k : Node S) → SoundBelow o n → poisons o p c n ≡ Some k → AllHaveCounts o m n → AllHaveCounts o m k
    poison_placed law p c n k s e h =
        let w = chosen (has_path o p (led_to o n p)) (poison_route o c n (route (o.path (state n)) p)) k e in
        subst (AllOf Placed) (sym (route_alike o law c (route (o.path (state n)) p) n k s w.1).all) h
