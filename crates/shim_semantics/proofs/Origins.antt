-- Where an event of a walk comes from: a node below lists it by itself, or it is the poison of a child.
use Rattle.std.proofs.Common.{◌≡◌, ℕ, zero, suc, ◌+◌, Some, List, [], ◌∷◌, ◌++◌, inl, inr, refl, sym, subst, arith}
use Rattle.shim_local.specs.Process.{Ops}
use Rattle.shim_semantics.specs.Nodes.{Node, Nodes, Live, Forked, Ended, Dead, no_node, node_and}
use Rattle.shim_base.specs.Lists.{IsAmong}
use Rattle.shim_semantics.specs.Places.{at, child_at}
use Rattle.shim_semantics.specs.Trees.{Event}
use Rattle.shim_semantics.specs.Walks.{here, poisons_of, walk, walk_all}
use Rattle.shim_semantics.proofs.Members.{among_left, among_right, among_either}
use Rattle.shim_base.proofs.Facts.{some_same, none_some}

module _ {S : Type 0} (o : Ops S) where
  among_here : (e : Event) (n : Node S) → IsAmong e (here o n) → IsAmong e (walk o n)
  among_here e (Live l) h = h
  among_here e (Ended l) h = h
  among_here e (Dead l x) h = h
  among_here e (Forked l ks) h = among_left e (here o (Forked l ks)) (walk_all o l ks 0 ks) h

  -- three parts make the walk of the children from a place on: what is among one of them is among it
  among_first : (e : Event) (l : S) (all : Nodes S) (j : ℕ) (k : Node S) (ks : Nodes S) → IsAmong e (walk o k) → IsAmong e (walk_all o l all j (node_and k ks))
  among_first e l all j k ks h =
      among_right e (poisons_of o l all j k) (walk o k ++ walk_all o l all (j + 1) ks) (among_left e (walk o k) (walk_all o l all (j + 1) ks) h)

  among_rest : (e : Event) (l : S) (all : Nodes S) (j : ℕ) (k : Node S) (ks : Nodes S) → IsAmong e (walk_all o l all (j + 1) ks) → IsAmong e (walk_all o l all j (node_and k ks))
  among_rest e l all j k ks h =
      among_right e (poisons_of o l all j k) (walk o k ++ walk_all o l all (j + 1) ks) (among_right e (walk o k) (walk_all o l all (j + 1) ks) h)

  mutual
    -- the walk of a node below is part of the walk
    walk_at : (e : Event) (q : List ℕ) (n m : Node S) → at q n ≡ Some m → IsAmong e (walk o m) → IsAmong e (walk o n)
    walk_at e [] n m a h = subst (λ z. IsAmong e (walk o z)) (sym (some_same n m a)) h
    walk_at e (i ∷ q) (Live l) m a h = none_some m a
    walk_at e (i ∷ q) (Ended l) m a h = none_some m a
    walk_at e (i ∷ q) (Dead l x) m a h = none_some m a
    walk_at e (i ∷ q) (Forked l ks) m a h = among_right e (here o (Forked l ks)) (walk_all o l ks 0 ks) (walk_at_in e l ks 0 i q ks m a h)

    walk_at_in : (e : Event) (l : S) (all : Nodes S) (j i : ℕ) (q : List ℕ) (ks : Nodes S) (m : Node S) → child_at i q ks ≡ Some m → IsAmong e (walk o m) → IsAmong e (walk_all o l all j ks)
    walk_at_in e l all j i q no_node m a h = none_some m a
    walk_at_in e l all j zero q (node_and k ks) m a h = among_first e l all j k ks (walk_at e q k m a h)
    walk_at_in e l all j (suc i) q (node_and k ks) m a h = among_rest e l all j k ks (walk_at_in e l all (j + 1) i q ks m a h)

  -- and so are the poisons of a child
  poisons_among : (e : Event) (l : S) (all : Nodes S) (j i : ℕ) (ks : Nodes S) (k : Node S) → child_at i [] ks ≡ Some k → IsAmong e (poisons_of o l all (j + i) k) → IsAmong e (walk_all o l all j ks)
  poisons_among e l all j i no_node m a h = none_some m a
  poisons_among e l all j zero (node_and k ks) m a h =
      let w : j + zero ≡ j = omega arith in
      among_left e (poisons_of o l all j k) (walk o k ++ walk_all o l all (j + 1) ks)
      (subst (λ z. IsAmong e (poisons_of o l all z k)) w (subst (λ z. IsAmong e (poisons_of o l all (j + zero) z)) (sym (some_same k m a)) h))
  poisons_among e l all j (suc i) (node_and k ks) m a h =
      let w : j + suc i ≡ j + 1 + i = omega arith in
      among_rest e l all j k ks (poisons_among e l all (j + 1) i ks m a (subst (λ z. IsAmong e (poisons_of o l all z m)) w h))

  pub data Origin (e : Event) (n : Node S) : Type 0 where
    by_node : (q : List ℕ) (m : Node S) → at q n ≡ Some m → IsAmong e (here o m) → Origin e n
    by_poison : (q : List ℕ) (l : S) (ks : Nodes S) (i : ℕ) (k : Node S) → at q n ≡ Some (Forked l ks) → child_at i [] ks ≡ Some k → IsAmong e (poisons_of o l ks i k) → Origin e n

  -- the same among the children of l from the place j on
  data OriginIn (e : Event) (l : S) (all : Nodes S) (j : ℕ) (ns : Nodes S) : Type 0 where
    of_child : (i : ℕ) (k : Node S) → child_at i [] ns ≡ Some k → IsAmong e (poisons_of o l all (j + i) k) → OriginIn e l all j ns
    in_node : (i : ℕ) (q : List ℕ) (m : Node S) → child_at i q ns ≡ Some m → IsAmong e (here o m) → OriginIn e l all j ns
    in_poison : (d : ℕ) (q : List ℕ) (m : S) (ks : Nodes S) (i : ℕ) (k : Node S) → child_at d q ns ≡ Some (Forked m ks) → child_at i [] ks ≡ Some k → IsAmong e (poisons_of o m ks i k) → OriginIn e l all j ns

  -- what has such an origin is among the walk
  pub listed : (e : Event) (n : Node S) → Origin e n → IsAmong e (walk o n)
  listed e n (by_node q m a h) = walk_at e q n m a (among_here e m h)
  listed e n (by_poison q l ks i k a b h) =
      let w : i ≡ 0 + i = omega arith in
      walk_at e q n (Forked l ks) a (among_right e (here o (Forked l ks)) (walk_all o l ks 0 ks) (poisons_among e l ks 0 i ks k b (subst (λ z. IsAmong e (poisons_of o l ks z k)) w h)))

  at_first : (e : Event) (l : S) (all : Nodes S) (j : ℕ) (k : Node S) (ks : Nodes S) → Origin e k → OriginIn e l all j (node_and k ks)
  at_first e l all j k ks (by_node q m a h) = in_node zero q m a h
  at_first e l all j k ks (by_poison q m ns i c a b h) = in_poison zero q m ns i c a b h

  at_rest : (e : Event) (l : S) (all : Nodes S) (j : ℕ) (k : Node S) (ks : Nodes S) → OriginIn e l all (j + 1) ks → OriginIn e l all j (node_and k ks)
  at_rest e l all j k ks (of_child i c a h) = let w : j + 1 + i ≡ j + suc i = omega arith in of_child (suc i) c a (subst (λ z. IsAmong e (poisons_of o l all z c)) w h)
  at_rest e l all j k ks (in_node i q m a h) = in_node (suc i) q m a h
  at_rest e l all j k ks (in_poison d q m ns i c a b h) = in_poison (suc d) q m ns i c a b h

  at_fork : (e : Event) (l : S) (ks : Nodes S) → OriginIn e l ks 0 ks → Origin e (Forked l ks)
  at_fork e l ks (of_child i k a h) = let w : 0 + i ≡ i = omega arith in by_poison [] l ks i k refl a (subst (λ z. IsAmong e (poisons_of o l ks z k)) w h)
  at_fork e l ks (in_node i q m a h) = by_node (i ∷ q) m a h
  at_fork e l ks (in_poison d q m ns i k a b h) = by_poison (d ∷ q) m ns i k a b h

  mutual
    -- and whatever is among the walk has one
    pub origin : (e : Event) (n : Node S) → IsAmong e (walk o n) → Origin e n
    origin e (Live l) h = by_node [] (Live l) refl h
    origin e (Ended l) h = absurd h
    origin e (Dead l x) h = absurd h
    origin e (Forked l ks) h = elim (among_either e (here o (Forked l ks)) (walk_all o l ks 0 ks) h) [
      | inl z ↦ by_node [] (Forked l ks) refl z
      | inr z ↦ at_fork e l ks (origin_in e l ks 0 ks z)
    ]

    origin_in : (e : Event) (l : S) (all : Nodes S) (j : ℕ) (ks : Nodes S) → IsAmong e (walk_all o l all j ks) → OriginIn e l all j ks
    origin_in e l all j no_node h = absurd h
    origin_in e l all j (node_and k ks) h = elim (among_either e (poisons_of o l all j k) (walk o k ++ walk_all o l all (j + 1) ks) h) [
      | inl z ↦ (let w : j ≡ j + zero = omega arith in of_child zero k refl (subst (λ y. IsAmong e (poisons_of o l all y k)) w z))
      | inr z ↦ elim (among_either e (walk o k) (walk_all o l all (j + 1) ks) z) [
        | inl y ↦ at_first e l all j k ks (origin e k y)
        | inr y ↦ at_rest e l all j k ks (origin_in e l all (j + 1) ks y)
      ]
    ]
