-- Where the forks stand in a tree in which a node was replaced.
use Rattle.std.proofs.Common.{◌≡◌, ℕ, zero, suc, Some, List, [], ◌∷◌, refl, sym, ap, ◌∙◌}
use Rattle.shim_semantics.specs.Nodes.{Node, Nodes, Live, Forked, Ended, Dead, no_node, node_and}
use Rattle.shim_semantics.specs.Places.{at, child_at}
use Rattle.shim_semantics.proofs.ReplacedNodes.{put, put_child}
use Rattle.shim_base.proofs.Facts.{some_same, none_some}

-- A fork of a tree in which a node was replaced by another: it stood there before, or above what was replaced, or is in what replaced it.
pub data Whence {S : Type 0} (n m a : Node S) (q : List ℕ) (l : S) (ks : Nodes S) : Type 0 where
  same : at q n ≡ Some (Forked l ks) → Whence n m a q l ks
  above : (js : Nodes S) (i : ℕ) (r : List ℕ) → at q n ≡ Some (Forked l js) → child_at i r js ≡ Some m → ks ≡ put_child i r a js → Whence n m a q l ks
  within : (r : List ℕ) → at r a ≡ Some (Forked l ks) → Whence n m a q l ks

-- the same of a fork of some children
data WhenceIn {S : Type 0} (ns : Nodes S) (m a : Node S) (j : ℕ) (q : List ℕ) (l : S) (ks : Nodes S) : Type 0 where
  same_in : child_at j q ns ≡ Some (Forked l ks) → WhenceIn ns m a j q l ks
  above_in : (js : Nodes S) (i : ℕ) (r : List ℕ) → child_at j q ns ≡ Some (Forked l js) → child_at i r js ≡ Some m → ks ≡ put_child i r a js → WhenceIn ns m a j q l ks
  within_in : (r : List ℕ) → at r a ≡ Some (Forked l ks) → WhenceIn ns m a j q l ks

-- the fork of a state with these children is the one with those
pub same_fork : {S : Type 0} (k l : S) (js ks : Nodes S) → Some (Forked k js) ≡ Some (Forked l ks) → (k ≡ l) × (js ≡ ks)
same_fork k l js ks e = let w = some_same (Forked k js) (Forked l ks) e in (cc, cc)

module _ {S : Type 0} where
  -- the node itself is the fork
  top : (k l : S) (js ks us : Nodes S) (m a : Node S) (i : ℕ) (r : List ℕ) → child_at i r js ≡ Some m → us ≡ put_child i r a js → Some (Forked k us) ≡ Some (Forked l ks) → Whence (Forked k js) m a [] l ks
  top k l js ks us m a i r e f h =
      let w = same_fork k l us ks h in
      above js i r (ap (λ z. Some (Forked z js)) w.0) e (sym w.1 ∙ f)

  into : (k : S) (js : Nodes S) (m a : Node S) (j : ℕ) (q : List ℕ) (l : S) (ks : Nodes S) → WhenceIn js m a j q l ks → Whence (Forked k js) m a (j ∷ q) l ks
  into k js m a j q l ks (same_in e) = same e
  into k js m a j q l ks (above_in us i r e f g) = above us i r e f g
  into k js m a j q l ks (within_in r e) = within r e

  first_in : (k : Node S) (ns : Nodes S) (m a : Node S) (q : List ℕ) (l : S) (ks : Nodes S) → Whence k m a q l ks → WhenceIn (node_and k ns) m a zero q l ks
  first_in k ns m a q l ks (same e) = same_in e
  first_in k ns m a q l ks (above us i r e f g) = above_in us i r e f g
  first_in k ns m a q l ks (within r e) = within_in r e

  rest_in : (k : Node S) (ns : Nodes S) (m a : Node S) (j : ℕ) (q : List ℕ) (l : S) (ks : Nodes S) → WhenceIn ns m a j q l ks → WhenceIn (node_and k ns) m a (suc j) q l ks
  rest_in k ns m a j q l ks (same_in e) = same_in e
  rest_in k ns m a j q l ks (above_in us i r e f g) = above_in us i r e f g
  rest_in k ns m a j q l ks (within_in r e) = within_in r e

  mutual
    pub whence : (p q : List ℕ) (n m a : Node S) (l : S) (ks : Nodes S) → at p n ≡ Some m → at q (put p a n) ≡ Some (Forked l ks) → Whence n m a q l ks
    whence [] q n m a l ks e h = within q h
    whence (i ∷ p) q (Live k) m a l ks e h = none_some m e
    whence (i ∷ p) q (Ended k) m a l ks e h = none_some m e
    whence (i ∷ p) q (Dead k x) m a l ks e h = none_some m e
    whence (i ∷ p) [] (Forked k js) m a l ks e h = top k l js ks (put_child i p a js) m a i p e refl h
    whence (i ∷ p) (j ∷ q) (Forked k js) m a l ks e h = into k js m a j q l ks (whence_in i p j q js m a l ks e h)

    whence_in : (i : ℕ) (p : List ℕ) (j : ℕ) (q : List ℕ) (ns : Nodes S) (m a : Node S) (l : S) (ks : Nodes S) → child_at i p ns ≡ Some m → child_at j q (put_child i p a ns) ≡ Some (Forked l ks) → WhenceIn ns m a j q l ks
    whence_in i p j q no_node m a l ks e h = none_some m e
    whence_in zero p zero q (node_and k ns) m a l ks e h = first_in k ns m a q l ks (whence p q k m a l ks e h)
    whence_in zero p (suc j) q (node_and k ns) m a l ks e h = same_in h
    whence_in (suc i) p zero q (node_and k ns) m a l ks e h = same_in h
    whence_in (suc i) p (suc j) q (node_and k ns) m a l ks e h = rest_in k ns m a j q l ks (whence_in i p j q ns m a l ks e h)
