-- The branches that lead to a node are those of its path, and what it does there.
use Rattle.std.proofs.Common.{◌≡◌, ℕ, zero, suc, ◌+◌, Some, List, [], ◌∷◌, ◌++◌, refl, sym, ap, ◌∙◌, arith}
use Rattle.std.proofs.lemmas.List.{append-nil}
use Rattle.shim_base.specs.Paths.{Path}
use Rattle.shim_local.specs.Process.{Ops}
use Rattle.shim_semantics.specs.Nodes.{Node, Nodes, Live, Forked, Ended, Dead, no_node, node_and, state}
use Rattle.shim_semantics.specs.Acts.{Effects, Acted, act, act_child, act_here, within, in_front, in_later}
use Rattle.shim_semantics.specs.Places.{at, child_at, branches, option_branches, route, SoundBelow, SoundChildren}
use Rattle.shim_semantics.proofs.Options.{within_some, in_front_some, behind_some}
use Rattle.shim_semantics.proofs.Sameness.{after_front_of, further}
use Rattle.shim_base.proofs.Facts.{some_same, none_some}

module _ {S : Type 0} (o : Ops S) where
  mutual
    pub at_path : (n m : Node S) (q : List ℕ) → SoundBelow o n → at q n ≡ Some m → (r : Path) × (o.path (state m) ≡ o.path (state n) ++ r) × (branches r ≡ q)
    at_path n m [] s e = ([], ap (λ z. o.path (state z)) (sym (some_same n m e)) ∙ sym (append-nil (o.path (state n))), refl)
    at_path (Live l) m (i ∷ q) s e = none_some m e
    at_path (Ended l) m (i ∷ q) s e = none_some m e
    at_path (Dead l x) m (i ∷ q) s e = none_some m e
    at_path (Forked l ks) m (i ∷ q) s e =
        let h = at_path_in l s.number 0 ks m i q s.children e in
        let w : 0 + i ≡ i = omega arith in
        ((s.number, 0 + i) ∷ h.0, h.1, ap (λ z. z ∷ branches h.0) w ∙ ap (λ z. i ∷ z) h.2)

    at_path_in : (l : S) (f j : ℕ) (ks : Nodes S) (m : Node S) (i : ℕ) (q : List ℕ) → SoundChildren o l f j ks → child_at i q ks ≡ Some m → (r : Path) × (o.path (state m) ≡ o.path l ++ (f, j + i) ∷ r) × (branches r ≡ q)
    at_path_in l f j no_node m i q s e = none_some m e
    at_path_in l f j (node_and k ks) m zero q s e =
        let h = at_path k m q s.1 e in
        let w : j ≡ j + zero = omega arith in
        (h.0, h.1 ∙ (further (o.path l) (f, j) (o.path (state k)) h.0 s.0.path ∙ ap (λ z. o.path l ++ (f, z) ∷ h.0) w), h.2)
    at_path_in l f j (node_and k ks) m (suc i) q s e =
        let h = at_path_in l f (j + 1) ks m i q s.2 e in
        let w : j + 1 + i ≡ j + suc i = omega arith in
        (h.0, h.1 ∙ ap (λ z. o.path l ++ (f, z) ∷ h.0) w, h.2)

  -- the route to the path of a node is the branches that lead there
  pub route_of : (n m : Node S) (q : List ℕ) (p : Path) → SoundBelow o n → at q n ≡ Some m → o.path (state m) ≡ p → route (o.path (state n)) p ≡ Some q
  route_of n m q p s e h =
      let y = at_path n m q s e in
      ap (λ z. route (o.path (state n)) z) (sym h ∙ y.1) ∙ (ap option_branches (after_front_of (o.path (state n)) y.0) ∙ ap Some y.2)

  -- an event at these branches is one that the node there does
  pub record ActsAt (q : List ℕ) (n : Node S) : Type 0 where
    pub node : Node S
    pub acted : Acted S
    pub there : at q n ≡ Some node
    pub acts : act_here o node ≡ Some acted

  record ActsIn (i : ℕ) (q : List ℕ) (ks : Nodes S) : Type 0 where
    pub node : Node S
    pub acted : Acted S
    pub there : child_at i q ks ≡ Some node
    pub acts : act_here o node ≡ Some acted

  mutual
    pub acts_at : (q : List ℕ) (n : Node S) (a : Acted S) → act o q n ≡ Some a → ActsAt q n
    acts_at [] n a e = record { node = n; acted = a; there = refl; acts = e }
    acts_at (i ∷ q) (Live l) a e = none_some a e
    acts_at (i ∷ q) (Ended l) a e = none_some a e
    acts_at (i ∷ q) (Dead l x) a e = none_some a e
    acts_at (i ∷ q) (Forked l ks) a e =
        let x = within_some l (act_child o i q ks) a e in
        let r = acts_in i q ks x.0 x.1 in
        record { node = r.node; acted = r.acted; there = r.there; acts = r.acts }

    acts_in : (i : ℕ) (q : List ℕ) (ks : Nodes S) (r : Nodes S × Effects) → act_child o i q ks ≡ Some r → ActsIn i q ks
    acts_in i q no_node r e = none_some r e
    acts_in zero q (node_and k ks) r e =
        let x = in_front_some ks (act o q k) r e in
        let y = acts_at q k x.0 x.1 in
        record { node = y.node; acted = y.acted; there = y.there; acts = y.acts }
    acts_in (suc i) q (node_and k ks) r e =
        let x = behind_some k (act_child o i q ks) r e in
        let y = acts_in i q ks x.0 x.1 in
        record { node = y.node; acted = y.acted; there = y.there; acts = y.acts }

  mutual
    -- and what the node there does is one
    pub act_of : (q : List ℕ) (n m : Node S) (a : Acted S) → at q n ≡ Some m → act_here o m ≡ Some a → (b : Acted S) × (act o q n ≡ Some b)
    act_of [] n m a e h = (a, ap (act_here o) (some_same n m e) ∙ h)
    act_of (i ∷ q) (Live l) m a e h = none_some m e
    act_of (i ∷ q) (Ended l) m a e h = none_some m e
    act_of (i ∷ q) (Dead l x) m a e h = none_some m e
    act_of (i ∷ q) (Forked l ks) m a e h = let w = act_in_of i q ks m a e h in (_, ap (within l) w.1)

    act_in_of : (i : ℕ) (q : List ℕ) (ks : Nodes S) (m : Node S) (a : Acted S) → child_at i q ks ≡ Some m → act_here o m ≡ Some a → (r : Nodes S × Effects) × (act_child o i q ks ≡ Some r)
    act_in_of i q no_node m a e h = none_some m e
    act_in_of zero q (node_and k ks) m a e h = let w = act_of q k m a e h in (_, ap (in_front ks) w.1)
    act_in_of (suc i) q (node_and k ks) m a e h = let w = act_in_of i q ks m a e h in (_, ap (in_later k) w.1)
