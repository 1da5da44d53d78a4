-- A node in a tree, with another in its place: what is seen there, and what isn't seen elsewhere.
use Rattle.std.proofs.Common.{◌≡◌, ℕ, zero, suc, true, Some, None, List, [], ◌∷◌, ◌++◌, refl, ap}
use Rattle.shim_semantics.specs.Nodes.{Node, Nodes, Live, Forked, Ended, Dead, no_node, node_and}
use Rattle.shim_semantics.specs.Places.{at, child_at}
use Rattle.shim_semantics.proofs.ReplacedNodes.{put, put_child}
use Rattle.shim_base.proofs.Facts.{some_same, none_some}
use Rattle.shim_laws_table.specs.NodeStatus.{seen, forks, how_many_nodes, is_leaf, IsAside}
use Rattle.shim_laws_table.specs.Places.{SameAside}

mutual
  pub there : {S : Type 0} (q : List ℕ) (m a n : Node S) → at q n ≡ Some m → at q (put q a n) ≡ Some a
  there [] m a n e = refl
  there (i ∷ q) m a (Live l) e = none_some m e
  there (i ∷ q) m a (Ended l) e = none_some m e
  there (i ∷ q) m a (Dead l x) e = none_some m e
  there (i ∷ q) m a (Forked l ks) e = there_in i q m a ks e

  there_in : {S : Type 0} (i : ℕ) (q : List ℕ) (m a : Node S) (ks : Nodes S) → child_at i q ks ≡ Some m → child_at i q (put_child i q a ks) ≡ Some a
  there_in i q m a no_node e = none_some m e
  there_in zero q m a (node_and k ks) e = there q m a k e
  there_in (suc i) q m a (node_and k ks) e = there_in i q m a ks e

pub as_many : {S : Type 0} (i : ℕ) (q : List ℕ) (a : Node S) (ks : Nodes S) → how_many_nodes (put_child i q a ks) ≡ how_many_nodes ks
as_many i q a no_node = refl
as_many zero q a (node_and k ks) = refl
as_many (suc i) q a (node_and k ks) = ap suc (as_many i q a ks)

pub none_below : {S : Type 0} (i : ℕ) (q : List ℕ) (m : Node S) → is_leaf m ≡ true → at (i ∷ q) m ≡ None
none_below i q (Live l) e = refl
none_below i q (Ended l) e = refl
none_below i q (Dead l x) e = refl
none_below i q (Forked l ks) e = absurd cc

mutual
  -- of another node at a place nothing is seen but from there on
  pub outside : {S : Type 0} (q : List ℕ) (m a n : Node S) → at q n ≡ Some m → SameAside q n (put q a n)
  outside [] m a n e p h = absurd (h p refl)
  outside (i ∷ q) m a (Live l) e p h = none_some m e
  outside (i ∷ q) m a (Ended l) e p h = none_some m e
  outside (i ∷ q) m a (Dead l x) e p h = none_some m e
  outside (i ∷ q) m a (Forked l ks) e [] h = ap (λ z. Some (l, forks z)) (as_many i q a ks)
  outside (i ∷ q) m a (Forked l ks) e (j ∷ p) h = outside_in i j q p m a ks e (λ w s z. h s (λ t. w t ∷ z t))

  outside_in : {S : Type 0} (i j : ℕ) (q p : List ℕ) (m a : Node S) (ks : Nodes S) → child_at i q ks ≡ Some m → (j ≡ i → IsAside p q) → seen (child_at j p (put_child i q a ks)) ≡ seen (child_at j p ks)
  outside_in i j q p m a no_node e h = none_some m e
  outside_in zero zero q p m a (node_and k ks) e h = outside q m a k e p (h refl)
  outside_in zero (suc j) q p m a (node_and k ks) e h = refl
  outside_in (suc i) zero q p m a (node_and k ks) e h = refl
  outside_in (suc i) (suc j) q p m a (node_and k ks) e h = outside_in i j q p m a ks e (λ w. h (ap suc w))

-- branches one after another
mutual
  pub at_split : {S : Type 0} (r s : List ℕ) (n m : Node S) → at r n ≡ Some m → at (r ++ s) n ≡ at s m
  at_split [] s n m e = ap (at s) (some_same n m e)
  at_split (i ∷ r) s (Live l) m e = none_some m e
  at_split (i ∷ r) s (Ended l) m e = none_some m e
  at_split (i ∷ r) s (Dead l x) m e = none_some m e
  at_split (i ∷ r) s (Forked l ks) m e = at_split_in i r s ks m e

  at_split_in : {S : Type 0} (i : ℕ) (r s : List ℕ) (ks : Nodes S) (m : Node S) → child_at i r ks ≡ Some m → child_at i (r ++ s) ks ≡ at s m
  at_split_in i r s no_node m e = none_some m e
  at_split_in zero r s (node_and k ks) m e = at_split r s k m e
  at_split_in (suc i) r s (node_and k ks) m e = at_split_in i r s ks m e
