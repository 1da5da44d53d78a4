-- A poison may change places with each other event.
use Rattle.std.proofs.Common.{◌≡◌, ℕ, ℤ, ◌+◌, true, Option, Some, None, List, [], ◌∷◌, ◌++◌, cond, refl, sym, ap, subst, ◌∙◌}
use Rattle.shim_base.specs.Paths.{Path, Channel, same_path}
use Rattle.shim_local.specs.Process.{Ops}
use Rattle.shim_local.specs.Laws.{LocalLaws}
use Rattle.shim_semantics.specs.Nodes.{Node, state, received}
use Rattle.shim_semantics.specs.Acts.{Effects}
use Rattle.shim_semantics.specs.Poison.{is_ready_child, is_doomed, to_fork, last_branch, poison, poison_route}
use Rattle.shim_semantics.specs.Places.{at, route, at_route, led_to, has_path, SoundBelow}
use Rattle.shim_semantics.specs.Laws.{IsSoundTree}
use Rattle.shim_semantics.specs.Trees.{Tree, Event, Own, Meet, Poison, Close, End, with_logs, change_nodes, poisons, after}
use Rattle.shim_semantics.proofs.Alone.{doer, IsAlone}
use Rattle.shim_semantics.proofs.ReplacedNodes.{put}
use Rattle.shim_semantics.proofs.PoisonsListed.{fork_and_last, at_child, ready_child, poisons_at}
use Rattle.shim_semantics.proofs.Replaced.{sound_at}
use Rattle.shim_semantics.proofs.MeetStays.{meeting_stays}
use Rattle.shim_semantics.proofs.PoisonStays.{poison_stays}
use Rattle.shim_semantics.proofs.SoundEvents.{here_keeps, events_keep_sound}
use Rattle.shim_laws_schedules.specs.Waiting.{all_wait, has_sharer}
use Rattle.shim_laws_schedules.specs.ChangingPlaces.{PoisonsChangePlaces}
use Rattle.shim_laws_schedules.proofs.EventParts.{counted, later_twice, with_effects, root_path, EventParts, split_event, join_event}
use Rattle.shim_laws_schedules.proofs.Meets.{received_at}
use Rattle.shim_laws_schedules.proofs.MeetDiamond.{meeting, has_met, met_as, value_in, name_in, meets_alike, Joined}
use Rattle.shim_laws_schedules.proofs.Kills.{root_from_above, act_poison}
use Rattle.shim_laws_schedules.proofs.PoisonMeets.{all_wait_unpoisoned, meet_poison}
use Rattle.shim_laws_schedules.proofs.PoisonTwice.{poison_poison}
use Rattle.shim_laws_schedules.proofs.Steady.{act_path, poison_state}
use Rattle.shim_base.proofs.Facts.{some_same, none_some, first_holds, chosen}
use Rattle.shim_base.proofs.SamePaths.{same_path_refl, same_path_is}

-- the tree after an event that changed the processes alone
abbrev pub with_root : {S : Type 0} → Tree S → Node S → Tree S
with_root t n = record { root = n; output = t.output; histories = t.histories; logs = t.logs; counts = t.counts; events = t.events + 1 }

pub nodes_changed_some : {S : Type 0} (t a : Tree S) (x : Option (Node S)) → change_nodes t x ≡ Some a → (m : Node S) × (x ≡ Some m) × (with_root t m ≡ a)
nodes_changed_some t a None e = none_some a e
nodes_changed_some t a (Some m) e = (m, refl, some_same (with_root t m) a e)

module _ {S : Type 0} (o : Ops S) where
  -- ---- a poison, taken apart and put together again

  -- the child of this path was poisoned
  pub record HasPoisoned (p : Path) (c : Channel) (n m : Node S) : Type 0 where
    pub place : ℕ
    pub further : List ℕ
    pub child : Node S
    pub route_is : route (o.path (state n)) p ≡ Some (place ∷ further)
    pub there : at (place ∷ further) n ≡ Some child
    pub path : o.path (state child) ≡ p
    pub is : poison o c (last_branch place further) (to_fork place further) n ≡ Some m

  of_path : (p : Path) (x : Option (Node S)) → has_path o p x ≡ true → (k : Node S) × (x ≡ Some k) × (o.path (state k) ≡ p)
  of_path p None h = absurd cc
  of_path p (Some k) h = (k, refl, same_path_is (o.path (state k)) p h)

  poisoned_at_route : (p : Path) (c : Channel) (n m : Node S) (r : Option (List ℕ)) → route (o.path (state n)) p ≡ r → has_path o p (at_route n r) ≡ true → poison_route o c n r ≡ Some m → HasPoisoned p c n m
  poisoned_at_route p c n m None e h f = none_some m f
  poisoned_at_route p c n m (Some []) e h f = none_some m f
  poisoned_at_route p c n m (Some (i ∷ q)) e h f =
      let k = of_path p (at (i ∷ q) n) h in
      record { place = i; further = q; child = k.0; route_is = e; there = k.1; path = k.2; is = f }

  has_poisoned : (p : Path) (c : Channel) (n m : Node S) → poisons o p c n ≡ Some m → HasPoisoned p c n m
  has_poisoned p c n m e =
      let r = route (o.path (state n)) p in
      let w = chosen (has_path o p (led_to o n p)) (poison_route o c n r) m e in
      poisoned_at_route p c n m r refl w.0 w.1

  poisons_there : (p : Path) (c : Channel) (i : ℕ) (q : List ℕ) (n m k : Node S) → route (o.path (state n)) p ≡ Some (i ∷ q) → at (i ∷ q) n ≡ Some k → o.path (state k) ≡ p → poison o c (last_branch i q) (to_fork i q) n ≡ Some m → poisons o p c n ≡ Some m
  poisons_there p c i q n m k e f h g =
      let its : has_path o p (led_to o n p) ≡ true = ap (λ z. has_path o p (at_route n z)) e ∙ (ap (has_path o p) f ∙ (ap (λ z. same_path z p) h ∙ same_path_refl p)) in
      ap (λ b. cond b (poison_route o c n (route (o.path (state n)) p)) None) its ∙ (ap (poison_route o c n) e ∙ g)

  -- where a poison happens there is the child
  child_there : (c : Channel) (i : ℕ) (q : List ℕ) (n m : Node S) → poison o c (last_branch i q) (to_fork i q) n ≡ Some m → (k : Node S) × (at (i ∷ q) n ≡ Some k)
  child_there c i q n m e =
      let x = poisons_at o c (last_branch i q) (to_fork i q) n m e in
      let k = ready_child o c (last_branch i q) (last_branch i q) x.children (first_holds (is_ready_child o c (last_branch i q) x.children) (is_doomed o (o.handlers x.parent) c (last_branch i q) x.children) x.can) in
      (k.0, ap (λ z. at z n) (sym (fork_and_last i q)) ∙ (at_child (to_fork i q) (last_branch i q) n x.parent x.children x.there ∙ k.1))

  poison_path : LocalLaws o → (c : Channel) (i : ℕ) (q : List ℕ) (n m : Node S) → SoundBelow o n → poison o c (last_branch i q) (to_fork i q) n ≡ Some m → o.path (state m) ≡ o.path (state n)
  poison_path law c i q n m s e = (poison_stays o law c (Some (i ∷ q)) n m s e).follows.path

  -- ---- with an event of one process

  -- the same trees, as the two orders make them
  with_effects_change_nodes : (e : Event) (t : Tree S) (n m k : Node S) (s : Effects) → with_effects e (with_root t m) k s ≡ with_root (with_effects e t n s) k
  with_effects_change_nodes e t n m k s = λ i. record {
    root = k;
    output = t.output ++ s.bytes;
    histories = t.histories;
    logs = with_logs t.logs (doer e) s.logs;
    counts = counted e t.counts;
    events = later_twice e t.events i;
  }

  poison_split : LocalLaws o → (p : Path) (c : Channel) (e : Event) (t b : Tree S) (m : Node S) → IsSoundTree o t → IsAlone e → HasPoisoned p c t.root m → EventParts o e t b → Joined o (Poison p c) e (with_root t m) b
  poison_split law p c e t b m s d x y =
      let place = y.place in
      let new : Node S = y.new.node in
      let last = last_branch x.place x.further in
      let fork = to_fork x.place x.further in
      let w = act_poison o law c last fork place t.root m y.old y.new s.below (root_from_above o c (state t.root) (s.own c)) x.is y.there y.here in
      let kept = here_keeps o law y.old y.new (sound_at o place t.root y.old s.below y.there) y.here in
      let changed : Tree S = with_effects e t (put place new t.root) y.new.effects in
      let first : after o e (with_root t m) ≡ Some (with_effects e (with_root t m) (put place new m) y.new.effects) =
      join_event o e (with_root t m) place y.old y.new d (ap (λ z. route z (doer e)) (poison_path law c x.place x.further t.root m s.below x.is) ∙ y.route_is) w.there y.its y.here in
      let k = child_there c x.place x.further (put place new t.root) (put place new m) w.poisons in
      let child_path = act_path o place (x.place ∷ x.further) t.root y.old x.child k.0 y.new y.there y.here kept.follows.path x.there k.1 in
      let again : poisons o p c (put place new t.root) ≡ Some (put place new m) =
      poisons_there p c x.place x.further (put place new t.root) (put place new m) k.0 (ap (λ z. route z p) (root_path o law place t.root y.old y.new s.below y.there y.here) ∙ x.route_is) k.1 (child_path ∙ x.path) w.poisons in
      let second : after o (Poison p c) changed ≡ Some (with_root changed (put place new m)) = ap (change_nodes changed) again in
      let same = with_effects_change_nodes e t (put place new t.root) m (put place new m) y.new.effects in
      subst (Joined o (Poison p c) e (with_root t m)) y.is (record { tree = with_root changed (put place new m); first = first ∙ ap Some same; second = second })

  poison_alone : LocalLaws o → (p : Path) (c : Channel) (e : Event) (t a b : Tree S) → IsSoundTree o t → IsAlone e → after o (Poison p c) t ≡ Some a → after o e t ≡ Some b → Joined o (Poison p c) e a b
  poison_alone law p c e t a b s d h f =
      let x = nodes_changed_some t a (poisons o p c t.root) h in
      subst (λ z. Joined o (Poison p c) e z b) x.2 (poison_split law p c e t b x.0 s d (has_poisoned p c t.root x.0 x.1) (split_event o e t b d f))

  -- ---- with a rendezvous

  poison_met : LocalLaws o → (p : Path) (c d : Channel) (t : Tree S) (m : Node S) → IsSoundTree o t → HasPoisoned p c t.root m → all_wait o d t.root ≡ true → has_sharer o d t.root ≡ true → after o (Poison p c) t ≡ Some (with_root t m) → Joined o (Poison p c) (Meet d) (with_root t m) (meeting o d t)
  poison_met law p c d t m s x h g e =
      let v : ℤ = value_in o d t.root in
      let last = last_branch x.place x.further in
      let fork = to_fork x.place x.further in
      let apart : d ≡ c → ⊥ = λ z. all_wait_unpoisoned o c last fork t.root m (ap (λ y. all_wait o y t.root) (sym z) ∙ h) x.is in
      let w = meet_poison o law c d v last fork t.root m s.below (root_from_above o c (state t.root) (s.own c)) apart h x.is in
      let sound : IsSoundTree o (with_root t m) = (events_keep_sound o law).kept t s (Poison p c) (with_root t m) e in
      let first : after o (Meet d) (with_root t m) ≡ Some (met_as o d v (name_in o d t.root) (with_root t m)) = meets_alike o d t.root (with_root t m) sound h g w.alike in
      let root_path = (meeting_stays o law d v t.root s.below).follows.path in
      let child_path = (meeting_stays o law d v x.child (sound_at o (x.place ∷ x.further) t.root x.child s.below x.there)).follows.path in
      let again : poisons o p c (received o d v t.root) ≡ Some (received o d v m) =
      poisons_there p c x.place x.further (received o d v t.root) (received o d v m) (received o d v x.child) (ap (λ z. route z p) root_path ∙ x.route_is)
      (received_at o d v (x.place ∷ x.further) t.root x.child x.there) (child_path ∙ x.path) w.poisons in
      let second : after o (Poison p c) (meeting o d t) ≡ Some (with_root (meeting o d t) (received o d v m)) = ap (change_nodes (meeting o d t)) again in
      record { tree = met_as o d v (name_in o d t.root) (with_root t m); first = first; second = second }

  poison_meeting : LocalLaws o → (p : Path) (c d : Channel) (t a b : Tree S) → IsSoundTree o t → after o (Poison p c) t ≡ Some a → after o (Meet d) t ≡ Some b → Joined o (Poison p c) (Meet d) a b
  poison_meeting law p c d t a b s h f =
      let x = nodes_changed_some t a (poisons o p c t.root) h in
      let y = has_met o law d t b s f in
      subst (Joined o (Poison p c) (Meet d) a) y.is
      (subst (λ z. Joined o (Poison p c) (Meet d) z (meeting o d t)) x.2 (poison_met law p c d t x.0 s (has_poisoned p c t.root x.0 x.1) y.does_wait y.sharer_is_there (h ∙ ap Some (sym x.2))))

  -- ---- with another poison

  -- what is poisoned stays where it was after another poison
  poison_again : LocalLaws o → (p : Path) (c d : Channel) (e : ℕ) (q : List ℕ) (n m k u : Node S) → SoundBelow o n → (x : HasPoisoned p c n m) → poison o d (last_branch e q) (to_fork e q) n ≡ Some k → poison o c (last_branch x.place x.further) (to_fork x.place x.further) k ≡ Some u → poisons o p c k ≡ Some u
  poison_again law p c d e q n m k u s x f g =
      let j = poison_state o d (last_branch e q) (to_fork e q) (x.place ∷ x.further) n k x.child f x.there in
      poisons_there p c x.place x.further k u j.0 (ap (λ z. route z p) (poison_path law d e q n k s f) ∙ x.route_is) j.1 (ap o.path j.2 ∙ x.path) g

  -- two poisons of one place on one channel are one
  one_poison : (p q : Path) (c d : Channel) (n m k : Node S) (x : HasPoisoned p c n m) (y : HasPoisoned q d n k) → (Poison p c ≡ Poison q d → ⊥) → c ≡ d → last_branch x.place x.further ≡ last_branch y.place y.further → to_fork x.place x.further ≡ to_fork y.place y.further → ⊥
  one_poison p q c d n m k x y a e f g =
      let both : to_fork x.place x.further ++ last_branch x.place x.further ∷ [] ≡ to_fork y.place y.further ++ last_branch y.place y.further ∷ [] = λ i. g i ++ f i ∷ [] in
      let same : x.place ∷ x.further ≡ y.place ∷ y.further = sym (fork_and_last x.place x.further) ∙ (both ∙ fork_and_last y.place y.further) in
      let child : x.child ≡ y.child = some_same x.child y.child (sym x.there ∙ (ap (λ z. at z n) same ∙ y.there)) in
      let path : p ≡ q = sym x.path ∙ (ap (λ z. o.path (state z)) child ∙ y.path) in
      a (λ i. Poison (path i) (e i))

  poisons_poisoned : LocalLaws o → (p q : Path) (c d : Channel) (t : Tree S) (m k : Node S) → IsSoundTree o t → (Poison p c ≡ Poison q d → ⊥) → HasPoisoned p c t.root m → HasPoisoned q d t.root k → Joined o (Poison p c) (Poison q d) (with_root t m) (with_root t k)
  poisons_poisoned law p q c d t m k s a x y =
      let i = last_branch x.place x.further in
      let e = last_branch y.place y.further in
      let w = poison_poison o law c i (to_fork x.place x.further) d e (to_fork y.place y.further) t.root m k s.below (root_from_above o c (state t.root) (s.own c)) (root_from_above o d (state t.root) (s.own d)) (one_poison p q c d t.root m k x y a) x.is y.is in
      let first : poisons o q d m ≡ Some w.node = poison_again law q d c x.place x.further t.root k m w.node s.below y x.is w.first in
      let second : poisons o p c k ≡ Some w.node = poison_again law p c d y.place y.further t.root m k w.node s.below x y.is w.second in
      record { tree = with_root (with_root t m) w.node; first = ap (change_nodes (with_root t m)) first; second = ap (change_nodes (with_root t k)) second }

  two_poisons : LocalLaws o → (p q : Path) (c d : Channel) (t a b : Tree S) → IsSoundTree o t → (Poison p c ≡ Poison q d → ⊥) → after o (Poison p c) t ≡ Some a → after o (Poison q d) t ≡ Some b → Joined o (Poison p c) (Poison q d) a b
  two_poisons law p q c d t a b s n h f =
      let x = nodes_changed_some t a (poisons o p c t.root) h in
      let y = nodes_changed_some t b (poisons o q d t.root) f in
      subst (Joined o (Poison p c) (Poison q d) a) y.2
      (subst (λ z. Joined o (Poison p c) (Poison q d) z (with_root t y.0)) x.2 (poisons_poisoned law p q c d t x.0 y.0 s n (has_poisoned p c t.root x.0 x.1) (has_poisoned q d t.root y.0 y.1)))

  -- ---- with each event

  pub poisons_change_places : LocalLaws o → PoisonsChangePlaces o
  poisons_change_places law p c (Own q) t a b s n f g = let j = poison_alone law p c (Own q) t a b s (λ z. cc) f g in (j.tree, j.first, j.second)
  poisons_change_places law p c (Close q) t a b s n f g = let j = poison_alone law p c (Close q) t a b s (λ z. cc) f g in (j.tree, j.first, j.second)
  poisons_change_places law p c (End q) t a b s n f g = let j = poison_alone law p c (End q) t a b s (λ z. cc) f g in (j.tree, j.first, j.second)
  poisons_change_places law p c (Meet d) t a b s n f g = let j = poison_meeting law p c d t a b s f g in (j.tree, j.first, j.second)
  poisons_change_places law p c (Poison q d) t a b s n f g = let j = two_poisons law p q c d t a b s n f g in (j.tree, j.first, j.second)
