-- How the records of a sound tree hang together: who has which parent, and how far up a channel is counted.
use Rattle.shim_semantics.specs.Sound.{IsSound}
use Rattle.std.proofs.Common.{◌≡◌, ◌≢◌, ◌⊎◌, ℕ, zero, suc, ◌+◌, ◌<◌, Bool, true, false, Option, Some, None, List, [], ◌∷◌, ◌++◌, length, inl, inr, refl, sym, ap, subst, ◌∙◌, arith}
use Rattle.std.proofs.lemmas.List.{append_assoc, append-nil, length-append}
use Rattle.std.specs.FinMap as map
use Rattle.shim_base.specs.Paths.{Path, Channel, same_path}
use Rattle.shim_local.specs.Process.{Ops}
use Rattle.shim_local.specs.Laws.{LocalLaws, AnyOf, IsGiven}
use Rattle.shim_semantics.specs.Nodes.{Node, Nodes, Live, Forked, Ended, Dead, no_node, node_and, state, states}
use Rattle.shim_semantics.specs.Places.{at, child_at, branches, SoundBelow, SoundChildren}
use Rattle.shim_semantics.specs.Trees.{Tree}
use Rattle.shim_semantics.proofs.GivenChannels.{children_share_given}
use Rattle.shim_semantics.proofs.Replaced.{sound_at}
use Rattle.shim_semantics.proofs.Routes.{at_path}
use Rattle.shim_base.proofs.Facts.{some_same, none_some}
use Rattle.shim_base.proofs.SamePaths.{same_path_is, same_path_refl}
use Rattle.shim_laws_table.specs.NodeStatus.{ProcessStatus, forks, place, how_many_nodes}
use Rattle.shim_laws_table.specs.Agrees.{RecordView, Has, Represents}
use Rattle.shim_laws_table.specs.Counts.{Tally}
use Rattle.shim_laws_table.specs.Tallied.{is_above, HaveCounts}
use Rattle.shim_laws_table.specs.Updating.{AreLinked}
use Rattle.shim_laws_table.proofs.SameTrees.{seen_some, seen_fork, child_counted}
use Rattle.shim_laws_table.proofs.OneTree.{covered}
use Rattle.shim_laws_table.proofs.PlacesAbove.{way_from, fork_above}

-- branches are none, or some and a last one
pub ends_of : (p : List ℕ) → (p ≡ []) ⊎ ((r : List ℕ) × (b : ℕ) × (p ≡ r ++ b ∷ []))
ends_of [] = inl refl
ends_of (x ∷ p) = elim (ends_of p) [
  | inl e ↦ inr ([], x, ap (λ z. x ∷ z) e)
  | inr e ↦ inr (x ∷ e.0, e.1, ap (λ z. x ∷ z) e.2)
]

same_lengths : (p : Path) → length (branches p) ≡ length p
same_lengths [] = refl
same_lengths (x ∷ p) = ap suc (same_lengths p)

shorter : (a b d e q m t v w : ℕ) → a ≡ d + e → b ≡ d + q → e ≡ q + suc v → m ≡ a + t → b ≡ m + w → ⊥
shorter a b d e q m t v w e1 e2 e3 e4 e5 = omega (arith, e1, e2, e3, e4, e5)

module _ {S : Type 0} (o : Ops S) where
  mutual
    -- who shares a channel is at its home or below
    pub home_above : (c : Channel) (q : List ℕ) (n m : Node S) → SoundBelow o n → (o.shares (state n) c ≡ true → (r : Path) × (o.path (state n) ≡ c.home ++ r)) → at q n ≡ Some m → o.shares (state m) c ≡ true → (r : Path) × (o.path (state m) ≡ c.home ++ r)
    home_above c [] n m s own e h = let same = some_same n m e in let w = own (ap (λ z. o.shares (state z) c) same ∙ h) in (w.0, ap (λ z. o.path (state z)) (sym same) ∙ w.1)
    home_above c (i ∷ q) (Live l) m s own e h = none_some m e
    home_above c (i ∷ q) (Ended l) m s own e h = none_some m e
    home_above c (i ∷ q) (Dead l x) m s own e h = none_some m e
    home_above c (i ∷ q) (Forked l ks) m s own e h = home_above_in c l s.number 0 i q ks m s.children own e h

    home_above_in : (c : Channel) (l : S) (f j i : ℕ) (q : List ℕ) (ks : Nodes S) (m : Node S) → SoundChildren o l f j ks → (o.shares l c ≡ true → (r : Path) × (o.path l ≡ c.home ++ r)) → child_at i q ks ≡ Some m → o.shares (state m) c ≡ true → (r : Path) × (o.path (state m) ≡ c.home ++ r)
    home_above_in c l f j i q no_node m s own e h = none_some m e
    home_above_in c l f j zero q (node_and k ks) m s own e h = home_above c q k m s.1 (λ y. elim (s.0.shares c y) [
      | inl z ↦ let w = own z in (w.0 ++ (f, j) ∷ [], s.0.path ∙ (ap (λ z. z ++ (f, j) ∷ []) w.1 ∙ append_assoc c.home w.0 ((f, j) ∷ [])))
      | inr z ↦ ([], sym z ∙ sym (append-nil c.home))
    ]) e h
    home_above_in c l f j (suc i) q (node_and k ks) m s own e h = home_above_in c l f (j + 1) i q ks m s.2 own e h

  -- a child, and what it shares
  child_shares : (l : S) (f j i : ℕ) (ks : Nodes S) (k : Node S) (c : Channel) → SoundChildren o l f j ks → child_at i [] ks ≡ Some k → o.shares (state k) c ≡ true → c.home ≢ o.path (state k) → o.shares l c ≡ true
  child_shares l f j i no_node k c s e h n = none_some k e
  child_shares l f j zero (node_and h ks) k c s e y n =
      let same = some_same h k e in
      elim (s.0.shares c (ap (λ z. o.shares (state z) c) same ∙ y)) [ inl z ↦ z | inr z ↦ absurd (n (z ∙ ap (λ z. o.path (state z)) same)) ]
  child_shares l f j (suc i) (node_and h ks) k c s e y n = child_shares l f (j + 1) i ks k c s.2 e y n

  pub given_child : (i : ℕ) (ks : Nodes S) (k : Node S) (c : Channel) → child_at i [] ks ≡ Some k → IsGiven o (state k) c → AnyOf (λ z. IsGiven o z c) (states ks)
  given_child i no_node k c e h = none_some k e
  given_child zero (node_and j ks) k c e h = inl (subst (λ z. IsGiven o (state z) c) (sym (some_same j k e)) h)
  given_child (suc i) (node_and j ks) k c e h = inr (given_child i ks k c e h)

  -- the tree of a root, without output and logs
  abbrev pub tree_of : Node S → Tree S
  tree_of n = record { root = n; output = []; histories = map.empty; logs = map.empty; counts = map.empty; events = 0 }

  -- a child shares a channel of another process exactly where it was given that
  pub given_place : LocalLaws o → (root : Node S) (q : List ℕ) (b : ℕ) (k : Node S) (c : Channel) → IsSound o root → at (q ++ b ∷ []) root ≡ Some k → c.home ≢ o.path (state k) → o.shares (state k) c ≡ true → IsGiven o (state k) c
  given_place law root [] b k c s e far shares = (children_share_given o law (tree_of root) s b [] k c e far).0 shares
  given_place law root (i ∷ q) b k c s e far shares = (children_share_given o law (tree_of root) s i (q ++ b ∷ []) k c e far).0 shares

  module _ (rp : Path) (records : List S) (views : List RecordView) (root : Node S) (s : Represents o rp records views root) where
    -- the node of a record
    pub record Node_of (i f : ℕ) (l : S) (k : ProcessStatus) : Type 0 where
      pub node : Node S
      pub there : at (place o rp l) root ≡ Some node
      pub state_is : state node ≡ l

    pub node_of : (i f : ℕ) (l : S) (k : ProcessStatus) → Has records views i f l k → Node_of i f l k
    node_of i f l k has = let w = seen_some (at (place o rp l) root) l k (s.agrees.shown i f l k has) in record { node = w.0; there = w.1; state_is = w.2 }

    -- its path is as long as the root's and its place
    long : (i f : ℕ) (l : S) (k : ProcessStatus) → Has records views i f l k → length (o.path l) ≡ length rp + length (place o rp l)
    long i f l k has =
        let w = node_of i f l k has in
        let p = at_path o root w.node (place o rp l) s.sound.below w.there in
        ap (λ z. length (o.path z)) (sym w.state_is) ∙ (ap length p.1 ∙ (length-append (o.path (state root)) p.0 ∙ ((λ j. length (o.path (state root)) + sym (same_lengths p.0) j) ∙ (λ j. length (s.root_path j) + length (p.2 j)))))

    -- no fork above a process shares a channel that was declared there or below
    pub none_above : (c : Channel) (x f i g n : ℕ) (l u : S) (k : ProcessStatus) (r : Path) → Has records views x f l k → c.home ≡ o.path l ++ r → Has records views i g u (forks n) → is_above (place o rp u) (place o rp l) ≡ true → o.shares u c ≡ true → ⊥
    none_above c x f i g n l u k r has home fork above shared =
        let w = node_of i g u (forks n) fork in
        let h = home_above c (place o rp u) root w.node s.sound.below (λ y. ([], sym (s.sound.own c y) ∙ sym (append-nil c.home))) w.there (ap (λ z. o.shares z c) w.state_is ∙ shared) in
        let way = way_from (place o rp u) (place o rp l) above in
        shorter (length (o.path l)) (length (o.path u)) (length rp) (length (place o rp l)) (length (place o rp u)) (length c.home) (length r) (length way.rest) (length h.0)
        (long x f l k has) (long i g u (forks n) fork) (ap length way.is ∙ length-append (place o rp u) (way.branch ∷ way.rest))
        (ap length home ∙ length-append (o.path l) r) (ap length (ap o.path (sym w.state_is) ∙ h.1) ∙ length-append c.home h.0)

    -- ---- parents

    -- what is known of a record that has a parent
    pub record HasParent (x f : ℕ) (l : S) (k : ProcessStatus) : Type 0 where
      pub number : ℕ
      pub first : ℕ
      pub many : ℕ
      pub parent : S
      pub branch : ℕ
      pub has : Has records views number first parent (forks many)
      pub is : place o rp l ≡ place o rp parent ++ branch ∷ []
      pub within : branch < many
      pub mine : x ≡ first + branch

    below_of : (x f : ℕ) (l : S) (k : ProcessStatus) → Has records views x f l k → (r : List ℕ) (b : ℕ) → place o rp l ≡ r ++ b ∷ [] → HasParent x f l k
    below_of x f l k has r b e =
        let w = node_of x f l k has in
        let v = fork_above r b [] root w.node (ap (λ z. at z root) (sym e) ∙ w.there) in
        let c = covered o rp records views s.rooted root s.agrees r (Forked v.state v.children) v.there in
        let is : c.status_is ≡ forks (how_many_nodes v.children) = ap (λ z. z.1) (some_same (c.state_is, c.status_is) (v.state, forks (how_many_nodes v.children)) c.is_seen) in
        let fork = subst (Has records views c.number c.first c.state_is) is c.has in
        let less = child_counted b [] v.children w.node v.child in
        let z = s.agrees.below c.number c.first (how_many_nodes v.children) c.state_is fork b less in
        let place_is : place o rp l ≡ place o rp c.state_is ++ b ∷ [] = e ∙ ap (λ z. z ++ b ∷ []) (sym c.is_there) in
        record {
          number = c.number;
          first = c.first;
          many = how_many_nodes v.children;
          parent = c.state_is;
          branch = b;
          has = fork;
          is = place_is;
          within = less;
          mine = s.agrees.apart x (c.first + b) f z.0 l z.1 k z.2 has z.3 (place_is ∙ sym z.4);
        }

    module _ (up : ℕ → Option ℕ) (linked : AreLinked records views up) where
      -- a record has the parent that it knows
      pub tied : (x f j : ℕ) (l : S) (k : ProcessStatus) → Has records views x f l k → up x ≡ Some j → (b : HasParent x f l k) × (b.number ≡ j)
      tied x f j l k has e = elim (ends_of (place o rp l)) [
        | inl w ↦
            let is_root : x ≡ 0 = s.agrees.apart x 0 f s.rooted.first l s.rooted.state k s.rooted.status has s.rooted.has (w ∙ sym s.rooted.at_root) in
            none_some j (sym linked.top ∙ (ap up (sym is_root) ∙ e))
        | inr w ↦
            let y = below_of x f l k has w.0 w.1 w.2 in
            (y, some_same y.number j (sym (linked.parents y.number y.first y.many y.parent y.has y.branch y.within) ∙ (ap up (sym y.mine) ∙ e)))
      ]

      -- and one that knows none is the root's
      pub topmost : (x f : ℕ) (l : S) (k : ProcessStatus) → Has records views x f l k → up x ≡ None → place o rp l ≡ []
      topmost x f l k has e = elim (ends_of (place o rp l)) [
        | inl w ↦ w
        | inr w ↦
            let y = below_of x f l k has w.0 w.1 w.2 in
            none_some y.number (sym e ∙ (ap up y.mine ∙ linked.parents y.number y.first y.many y.parent y.has y.branch y.within))
      ]

    -- ---- who counts a channel

    module _ (c : Channel) (counts : ℕ → Option Tally) (have : HaveCounts o rp records views c counts root) where
      -- a fork that has counts for a channel shares it
      pub counts_share : (i f n : ℕ) (l : S) (y : Tally) → Has records views i f l (forks n) → counts i ≡ Some y → o.shares l c ≡ true
      counts_share i f n l y has e =
          let w = seen_fork (at (place o rp l) root) l n (s.agrees.shown i f l (forks n) has) in
          ((have i f n l l w.0 has w.1).0 (λ z. none_some y (sym z ∙ e))).0

      -- where a child shares a channel for which its fork has no counts, it has declared it
      pub declared : LocalLaws o → (x f : ℕ) (l : S) (k : ProcessStatus) → Has records views x f l k → o.shares l c ≡ true → (b : HasParent x f l k) → counts b.number ≡ None → c.home ≡ o.path l
      declared law x f l k has shared b without = on (same_path c.home (o.path l)) refl
        where
          on : (t : Bool) → same_path c.home (o.path l) ≡ t → c.home ≡ o.path l
          on true e = same_path_is c.home (o.path l) e
          on false e =
              let n : c.home ≢ o.path l = λ z. other (sym (ap (same_path c.home) (sym z) ∙ same_path_refl c.home) ∙ e) in
              let w = seen_fork (at (place o rp b.parent) root) b.parent b.many (s.agrees.shown b.number b.first b.parent (forks b.many) b.has) in
              let v = node_of x f l k has in
              let h = fork_above (place o rp b.parent) b.branch [] root v.node (ap (λ z. at z root) (sym b.is) ∙ v.there) in
              let same : Forked h.state h.children ≡ Forked b.parent w.0 = some_same (Forked h.state h.children) (Forked b.parent w.0) (sym h.there ∙ w.1) in
              let child : child_at b.branch [] w.0 ≡ Some v.node = ap (child_at b.branch []) (sym (kids same)) ∙ h.child in
              let sound = sound_at o (place o rp b.parent) root (Forked b.parent w.0) s.sound.below w.1 in
              let far : c.home ≢ o.path (state v.node) = λ z. n (z ∙ ap o.path v.state_is) in
              let shares : o.shares (state v.node) c ≡ true = ap (λ z. o.shares z c) v.state_is ∙ shared in
              let parent = child_shares b.parent sound.number 0 b.branch w.0 v.node c sound.children child shares far in
              let given : IsGiven o (state v.node) c = given_below law v.node far shares (place o rp l) v.there (place o rp b.parent) b.branch b.is in
              absurd ((have b.number b.first b.many b.parent b.parent w.0 b.has w.1).1 (parent, given_child b.branch w.0 v.node c child given) without)
            where
              other : true ≡ false → ⊥
              other z = cc

              kids : {l m : S} {ks js : Nodes S} → Forked l ks ≡ Forked m js → ks ≡ js
              kids z = cc

              given_below : LocalLaws o → (m : Node S) → c.home ≢ o.path (state m) → o.shares (state m) c ≡ true → (p : List ℕ) → at p root ≡ Some m → (r : List ℕ) (b : ℕ) → p ≡ r ++ b ∷ [] → IsGiven o (state m) c
              given_below law m far shares p there [] b e = (children_share_given o law (tree_of root) s.sound b [] m c (ap (λ z. at z root) (sym e) ∙ there) far).0 shares
              given_below law m far shares p there (i ∷ r) b e = (children_share_given o law (tree_of root) s.sound i (r ++ b ∷ []) m c (ap (λ z. at z root) (sym e) ∙ there) far).0 shares
