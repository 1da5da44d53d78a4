-- The walk of a sound tree lists no event twice: what a node lists is of its own path, and what is listed among its children is of the path of one of them, or of one that goes on from there.
use Rattle.std.proofs.Common.{◌≡◌, ◌≤◌, ◌⊎◌, ℕ, ◌+◌, true, false, [], ◌∷◌, ◌++◌, inl, inr, cond, map, filter, refl, sym, ap, ◌∙◌, arith}
use Rattle.shim_base.specs.Paths.{Path, Channel, same_path}
use Rattle.shim_local.specs.Process.{Ops, StopView, AtQuiet, AtNext, AtPut, AtFork, AtFinish, AtThrow, AtTrap}
use Rattle.shim_semantics.specs.Nodes.{Node, Nodes, Live, Forked, Ended, Dead, no_node, node_and, state, all_done}
use Rattle.shim_base.specs.Lists.{IsAmong}
use Rattle.shim_semantics.specs.Places.{SoundBelow, SoundChildren, IsChild}
use Rattle.shim_semantics.specs.Trees.{Event, Own, Meet, Poison, Close, End}
use Rattle.shim_semantics.specs.Walks.{waited, all_waited, in_order, own_events, meets_here, here, poisons_here, poisons_of, walk, walk_all}
use Rattle.shim_semantics.proofs.Alone.{doer, among_close, listed_acts}
use Rattle.shim_semantics.proofs.ForkKeeps.{le_next}
use Rattle.shim_semantics.proofs.HowMany.{clash, no_less}
use Rattle.shim_semantics.proofs.Members.{among_either, among_mapped}
use Rattle.shim_semantics.proofs.Waited.{listed_meets, no_poison_here}
use Rattle.shim_base.proofs.Facts.{first_holds}
use Rattle.shim_base.proofs.SamePaths.{same_path_is}
use Rattle.shim_laws_schedules.specs.ChangingPlaces.{is_poison}
use Rattle.shim_laws_schedules.specs.ListedOnce.{ListsOnce}
use Rattle.shim_laws_schedules.proofs.Distinct.{AreDistinct, distinct_append, distinct_map, distinct_cond, order_distinct, stand_once}
use Rattle.shim_laws_schedules.proofs.Homes.{no_further, same_branch, child_further}

same_meeting : (c d : Channel) → Meet c ≡ Meet d → c ≡ d
same_meeting c d e = cc

same_poison : (p : Path) (c d : Channel) → Poison p c ≡ Poison p d → c ≡ d
same_poison p c d e = cc

no_meeting_closes : (p : Path) (c : Channel) → Close p ≡ Meet c → ⊥
no_meeting_closes p c e = cc

own_distinct : (p : Path) (s : StopView) → AreDistinct (own_events p s)
own_distinct p AtQuiet = ((λ h. h), tt)
own_distinct p AtPut = ((λ h. h), tt)
own_distinct p AtFork = ((λ h. h), tt)
own_distinct p AtFinish = ((λ h. h), tt)
own_distinct p (AtNext c) = distinct_cond (same_path c.channel.home p) (Meet c.channel)
own_distinct p (AtThrow label) = ((λ h. h), tt)
own_distinct p (AtTrap kind line) = ((λ h. h), tt)

-- The event is of the process of this path and isn't its poison, or of one below it.
abbrev IsWithin : Event → Path → Type 0
IsWithin e p = ((doer e ≡ p) × (is_poison e ≡ false)) ⊎ ((x : ℕ × ℕ) × (r : Path) × (doer e ≡ p ++ x ∷ r))

-- It is of a child of the fork of number f, from the place j on, or of one below such a child.
abbrev IsAmongChildren : Event → Path → ℕ → ℕ → Type 0
IsAmongChildren e p f j = (i : ℕ) × (r : Path) × (j ≤ i) × (doer e ≡ p ++ (f, i) ∷ r)

not_behind : (i j : ℕ) → j ≡ i → j + 1 ≤ i → ⊥
not_behind i j e h = omega arith

-- what is of one child isn't of those after it
behind_apart : (e : Event) (p : Path) (f j : ℕ) (r : Path) → doer e ≡ p ++ (f, j) ∷ r → IsAmongChildren e p f (j + 1) → ⊥
behind_apart e p f j r h w = not_behind w.0 j (same_branch p f j w.0 r w.1 (sym h ∙ w.3)) w.2

module _ {S : Type 0} (o : Ops S) where
  -- ---- of whom an event is that is listed

  here_is : (e : Event) (n : Node S) → IsAmong e (here o n) → (doer e ≡ o.path (state n)) × (is_poison e ≡ false)
  here_is (Own p) n h = (sym (same_path_is (o.path (state n)) p (first_holds _ _ (listed_acts o (Own p) n (λ z. cc) h).1)), refl)
  here_is (Meet c) n h = (same_path_is c.home (o.path (state n)) (first_holds _ _ (listed_meets o c n h)), refl)
  here_is (Poison p c) n h = absurd (no_poison_here o p c n h)
  here_is (Close p) n h = (sym (same_path_is (o.path (state n)) p (first_holds _ _ (listed_acts o (Close p) n (λ z. cc) h).1)), refl)
  here_is (End p) n h = (sym (same_path_is (o.path (state n)) p (first_holds _ _ (listed_acts o (End p) n (λ z. cc) h).1)), refl)

  poisons_are : (e : Event) (l : S) (all : Nodes S) (j : ℕ) (k : Node S) → IsAmong e (poisons_of o l all j k) → (doer e ≡ o.path (state k)) × (is_poison e ≡ true)
  poisons_are e l all j k h =
      let w = among_mapped (Poison (o.path (state k))) e (in_order (filter (poisons_here o l all j k) (waited o k))) h in
      (ap doer w.1, ap is_poison w.1)

  -- what is within a child, from its parent's path
  from_parent : (e : Event) (l k : S) (f j : ℕ) → IsChild o l f j k → IsWithin e (o.path k) → (r : Path) × (doer e ≡ o.path l ++ (f, j) ∷ r)
  from_parent e l k f j s (inl h) = ([], h.0 ∙ s.path)
  from_parent e l k f j s (inr h) = (h.0 ∷ h.1, h.2 ∙ child_further o l k f j (h.0 ∷ h.1) s)

  mutual
    walk_is : (e : Event) (n : Node S) → SoundBelow o n → IsAmong e (walk o n) → IsWithin e (o.path (state n))
    walk_is e (Live l) s h = inl (here_is e (Live l) h)
    walk_is e (Ended l) s h = absurd h
    walk_is e (Dead l x) s h = absurd h
    walk_is e (Forked l ks) s h = elim (among_either e (here o (Forked l ks)) (walk_all o l ks 0 ks) h) [
      | inl z ↦ inl (here_is e (Forked l ks) z)
      | inr z ↦ let w = walk_all_is e l ks s.number 0 ks s.children z in inr ((s.number, w.0), w.1, w.3)
    ]

    walk_all_is : (e : Event) (l : S) (all : Nodes S) (f j : ℕ) (ks : Nodes S) → SoundChildren o l f j ks → IsAmong e (walk_all o l all j ks) → IsAmongChildren e (o.path l) f j
    walk_all_is e l all f j no_node s h = absurd h
    walk_all_is e l all f j (node_and k ks) s h = elim (among_either e (poisons_of o l all j k) (walk o k ++ walk_all o l all (j + 1) ks) h) [
      | inl z ↦ (j, [], no_less j, (poisons_are e l all j k z).0 ∙ s.0.path)
      | inr z ↦ elim (among_either e (walk o k) (walk_all o l all (j + 1) ks) z) [
        | inl y ↦ let w = from_parent e l (state k) f j s.0 (walk_is e k s.1 y) in (j, w.0, no_less j, w.1)
        | inr y ↦ let w = walk_all_is e l all f (j + 1) ks s.2 y in (w.0, w.1, le_next j w.0 w.2, w.3)
      ]
    ]

  -- ---- so nothing is listed twice

  here_distinct : (n : Node S) → AreDistinct (here o n)
  here_distinct (Live l) = own_distinct (o.path l) (o.stop l)
  here_distinct (Ended l) = tt
  here_distinct (Dead l x) = tt
  here_distinct (Forked l ks) =
      let cs = filter (meets_here o (Forked l ks)) (all_waited o ks) in
      distinct_append (cond (all_done ks) (Close (o.path l) ∷ []) []) (map Meet (in_order cs)) (distinct_cond (all_done ks) (Close (o.path l)))
      (distinct_map Meet same_meeting (in_order cs) (order_distinct cs))
      (λ e i k. let w = among_mapped Meet e (in_order cs) k in no_meeting_closes (o.path l) w.0 (sym (among_close e (o.path l) (all_done ks) i).1 ∙ w.1))

  poisons_distinct : (l : S) (all : Nodes S) (j : ℕ) (k : Node S) → AreDistinct (poisons_of o l all j k)
  poisons_distinct l all j k =
      let cs = filter (poisons_here o l all j k) (waited o k) in
      distinct_map (Poison (o.path (state k))) (same_poison (o.path (state k))) (in_order cs) (order_distinct cs)

  -- the walk of a child lists none of its poisons
  not_own_poison : (e : Event) (p : Path) → doer e ≡ p → is_poison e ≡ true → IsWithin e p → ⊥
  not_own_poison e p h y (inl w) = clash (is_poison e) y w.1
  not_own_poison e p h y (inr w) = no_further p w.0 w.1 (sym h ∙ w.2)

  mutual
    pub walk_distinct : (n : Node S) → SoundBelow o n → AreDistinct (walk o n)
    walk_distinct (Live l) s = here_distinct (Live l)
    walk_distinct (Ended l) s = tt
    walk_distinct (Dead l x) s = tt
    walk_distinct (Forked l ks) s = distinct_append (here o (Forked l ks)) (walk_all o l ks 0 ks) (here_distinct (Forked l ks)) (walk_all_distinct l ks s.number 0 ks s.children)
        (λ e i k. let w = walk_all_is e l ks s.number 0 ks s.children k in no_further (o.path l) (s.number, w.0) w.1 (sym (here_is e (Forked l ks) i).0 ∙ w.3))

    walk_all_distinct : (l : S) (all : Nodes S) (f j : ℕ) (ks : Nodes S) → SoundChildren o l f j ks → AreDistinct (walk_all o l all j ks)
    walk_all_distinct l all f j no_node s = tt
    walk_all_distinct l all f j (node_and k ks) s =
        let rest = walk_all o l all (j + 1) ks in
        distinct_append (poisons_of o l all j k) (walk o k ++ rest) (poisons_distinct l all j k)
        (distinct_append (walk o k) rest (walk_distinct k s.1) (walk_all_distinct l all f (j + 1) ks s.2)
        (λ e i h. let w = from_parent e l (state k) f j s.0 (walk_is e k s.1 i) in behind_apart e (o.path l) f j w.0 w.1 (walk_all_is e l all f (j + 1) ks s.2 h)))
        (λ e i h.
        let p = poisons_are e l all j k i in
        elim (among_either e (walk o k) rest h) [
          | inl z ↦ not_own_poison e (o.path (state k)) p.0 p.1 (walk_is e k s.1 z)
          | inr z ↦ behind_apart e (o.path l) f j [] (p.0 ∙ s.0.path) (walk_all_is e l all f (j + 1) ks s.2 z)
        ])

  pub lists_once : ListsOnce o
  lists_once t s = stand_once (walk o t.root) (walk_distinct t.root s)
