-- The fork and the child at which a poison happens, and that it happens there.
use Rattle.std.proofs.Common.{◌≡◌, ℕ, zero, suc, ◌-◌, true, Option, Some, None, List, [], ◌∷◌, ◌++◌, cond, refl, ap, ◌∙◌}
use Rattle.shim_base.specs.Paths.{Channel}
use Rattle.shim_local.specs.Process.{Ops}
use Rattle.shim_semantics.specs.Nodes.{Node, Nodes, Live, Forked, Ended, Dead, death, no_node, node_and, ready}
use Rattle.shim_semantics.specs.Places.{at, child_at}
use Rattle.shim_semantics.specs.Poison.{is_ready_child, one_poisoned, can_poison, poison_node, poison, poison_child, above, before_rest, after_one, to_fork, last_branch, poison_route}
use Rattle.shim_base.proofs.Facts.{some_same, none_some, chosen}

-- the branches to a child are those to its fork, and its place there
last_is : (j : ℕ) (q : List ℕ) (i : ℕ) → last_branch j (q ++ i ∷ []) ≡ i
last_is j [] i = refl
last_is j (d ∷ q) i = last_is d q i

fork_is : (j : ℕ) (q : List ℕ) (i : ℕ) → to_fork j (q ++ i ∷ []) ≡ j ∷ q
fork_is j [] i = refl
fork_is j (d ∷ q) i = ap (λ z. j ∷ z) (fork_is d q i)

pub fork_and_last : (i : ℕ) (q : List ℕ) → to_fork i q ++ last_branch i q ∷ [] ≡ i ∷ q
fork_and_last i [] = refl
fork_and_last i (j ∷ q) = ap (λ z. i ∷ z) (fork_and_last j q)

module _ {S : Type 0} where
  mutual
    -- one branch further from a fork stands its child
    pub at_child : (q : List ℕ) (i : ℕ) (n : Node S) (l : S) (ks : Nodes S) → at q n ≡ Some (Forked l ks) → at (q ++ i ∷ []) n ≡ child_at i [] ks
    at_child [] i n l ks e = ap (at (i ∷ [])) (some_same n (Forked l ks) e)
    at_child (j ∷ q) i (Live l) m ks e = none_some (Forked m ks) e
    at_child (j ∷ q) i (Ended l) m ks e = none_some (Forked m ks) e
    at_child (j ∷ q) i (Dead l x) m ks e = none_some (Forked m ks) e
    at_child (j ∷ q) i (Forked l ns) m ks e = at_child_in j q i ns m ks e

    at_child_in : (j : ℕ) (q : List ℕ) (i : ℕ) (ns : Nodes S) (l : S) (ks : Nodes S) → child_at j q ns ≡ Some (Forked l ks) → child_at j (q ++ i ∷ []) ns ≡ child_at i [] ks
    at_child_in j q i no_node l ks e = none_some (Forked l ks) e
    at_child_in zero q i (node_and k ns) l ks e = at_child q i k l ks e
    at_child_in (suc j) q i (node_and k ns) l ks e = at_child_in j q i ns l ks e

  above_some : (l : S) (x : Option (Nodes S)) (m : Node S) → above l x ≡ Some m → (ks : Nodes S) × (x ≡ Some ks)
  above_some l None m e = none_some m e
  above_some l (Some ks) m e = (ks, refl)

  before_some : (ks : Nodes S) (x : Option (Node S)) (r : Nodes S) → before_rest ks x ≡ Some r → (k : Node S) × (x ≡ Some k)
  before_some ks None r e = none_some r e
  before_some ks (Some k) r e = (k, refl)

  after_some : (k : Node S) (x : Option (Nodes S)) (r : Nodes S) → after_one k x ≡ Some r → (ks : Nodes S) × (x ≡ Some ks)
  after_some k None r e = none_some r e
  after_some k (Some ks) r e = (ks, refl)

module _ {S : Type 0} (o : Ops S) (c : Channel) (i : ℕ) where
  -- the child in this place is there and ready just where the test says so
  pub ready_child : (j : ℕ) (ks : Nodes S) → is_ready_child o c j ks ≡ true → (k : Node S) × (child_at j [] ks ≡ Some k) × (ready o c k ≡ true)
  ready_child j no_node e = absurd cc
  ready_child zero (node_and k ks) e = (k, refl, e)
  ready_child (suc j) (node_and k ks) e = ready_child j ks e

  pub child_ready : (j : ℕ) (ks : Nodes S) (k : Node S) → child_at j [] ks ≡ Some k → ready o c k ≡ true → is_ready_child o c j ks ≡ true
  child_ready j no_node k e h = none_some k e
  child_ready zero (node_and k ks) m e h = ap (ready o c) (some_same k m e) ∙ h
  child_ready (suc j) (node_and k ks) m e h = child_ready j ks m e h

  -- the route to a child poisons it at its fork
  pub route_poisons : (n : Node S) (q : List ℕ) → poison_route o c n (Some (q ++ i ∷ [])) ≡ poison o c i q n
  route_poisons n [] = refl
  route_poisons n (j ∷ q) = λ t. poison o c (last_is j q i t) (fork_is j q i t) n

  -- a poison at these branches is one of a child of the fork there
  pub record PoisonsAt (q : List ℕ) (n : Node S) : Type 0 where
    pub parent : S
    pub children : Nodes S
    pub there : at q n ≡ Some (Forked parent children)
    pub can : can_poison o parent c i children ≡ true

  record PoisonsIn (b : ℕ) (q : List ℕ) (ns : Nodes S) : Type 0 where
    pub parent : S
    pub children : Nodes S
    pub there : child_at b q ns ≡ Some (Forked parent children)
    pub can : can_poison o parent c i children ≡ true

  mutual
    pub poisons_at : (q : List ℕ) (n m : Node S) → poison o c i q n ≡ Some m → PoisonsAt q n
    poisons_at [] (Live l) m e = none_some m e
    poisons_at [] (Ended l) m e = none_some m e
    poisons_at [] (Dead l x) m e = none_some m e
    poisons_at [] (Forked l ks) m e = record { parent = l; children = ks; there = refl; can = (chosen (can_poison o l c i ks) _ m e).0 }
    poisons_at (b ∷ q) (Live l) m e = none_some m e
    poisons_at (b ∷ q) (Ended l) m e = none_some m e
    poisons_at (b ∷ q) (Dead l x) m e = none_some m e
    poisons_at (b ∷ q) (Forked l ks) m e =
        let x = above_some l (poison_child o c i b q ks) m e in
        let r = poisons_in b q ks x.0 x.1 in
        record { parent = r.parent; children = r.children; there = r.there; can = r.can }

    poisons_in : (b : ℕ) (q : List ℕ) (ns ms : Nodes S) → poison_child o c i b q ns ≡ Some ms → PoisonsIn b q ns
    poisons_in b q no_node ms e = none_some ms e
    poisons_in zero q (node_and k ns) ms e =
        let x = before_some ns (poison o c i q k) ms e in
        let r = poisons_at q k x.0 x.1 in
        record { parent = r.parent; children = r.children; there = r.there; can = r.can }
    poisons_in (suc b) q (node_and k ns) ms e =
        let x = after_some k (poison_child o c i b q ns) ms e in
        let r = poisons_in b q ns x.0 x.1 in
        record { parent = r.parent; children = r.children; there = r.there; can = r.can }

  mutual
    -- and where the fork there can poison its child, there is one
    pub poison_of : (q : List ℕ) (n : Node S) (l : S) (ks : Nodes S) → at q n ≡ Some (Forked l ks) → can_poison o l c i ks ≡ true → (m : Node S) × (poison o c i q n ≡ Some m)
    poison_of [] n l ks e h = (
      _,
      ap (poison_node o c i) (some_same n (Forked l ks) e) ∙ ap (λ b. cond b (Some (Forked l (one_poisoned o c (death (o.handlers l - 1)) i ks))) None) h,
    )
    poison_of (b ∷ q) (Live l) m ks e h = none_some (Forked m ks) e
    poison_of (b ∷ q) (Ended l) m ks e h = none_some (Forked m ks) e
    poison_of (b ∷ q) (Dead l x) m ks e h = none_some (Forked m ks) e
    poison_of (b ∷ q) (Forked l ns) m ks e h = let w = poison_in_of b q ns m ks e h in (_, ap (above l) w.1)

    poison_in_of : (b : ℕ) (q : List ℕ) (ns : Nodes S) (l : S) (ks : Nodes S) → child_at b q ns ≡ Some (Forked l ks) → can_poison o l c i ks ≡ true → (ms : Nodes S) × (poison_child o c i b q ns ≡ Some ms)
    poison_in_of b q no_node l ks e h = none_some (Forked l ks) e
    poison_in_of zero q (node_and k ns) l ks e h = let w = poison_of q k l ks e h in (_, ap (before_rest ns) w.1)
    poison_in_of (suc b) q (node_and k ns) l ks e h = let w = poison_in_of b q ns l ks e h in (_, ap (after_one k) w.1)
