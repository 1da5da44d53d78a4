-- The forks above a place: which nodes are above it, and which aren't.
use Rattle.std.proofs.Common.{◌≡◌, ◌≢◌, ℕ, zero, suc, Bool, true, false, ◌&&◌, Option, Some, List, [], ◌∷◌, ◌++◌, cond, refl, sym, ap, ◌∙◌}
use Rattle.std.specs.Prelude.{eqb}
use Rattle.std.proofs.lemmas.Bool.{eqb-true, eq-eqb}
use Rattle.shim_base.specs.Paths.{Path, Channel}
use Rattle.shim_local.specs.Process.{Ops}
use Rattle.shim_semantics.specs.Nodes.{Node, Nodes, Live, Forked, Ended, Dead, no_node, node_and}
use Rattle.shim_semantics.specs.Places.{at, child_at}
use Rattle.shim_semantics.proofs.ReplacedNodes.{put, put_child}
use Rattle.shim_base.proofs.Facts.{some_same, none_some}
use Rattle.shim_laws_table.specs.NodeStatus.{is_leaf, place, IsAside}
use Rattle.shim_laws_table.specs.Agrees.{RecordView}
use Rattle.shim_laws_table.specs.Counts.{Tally, tally_of, child_status}
use Rattle.shim_laws_table.specs.Tallied.{Tallied, is_above, OnTheWay}
use Rattle.shim_laws_table.proofs.Aside.{none_below}
use Rattle.shim_laws_table.proofs.Poisoning.{put_twice}
use Rattle.shim_laws_table.proofs.Tallies.{tally_up}

mutual
  pub with_split : {S : Type 0} (r s : List ℕ) (a n m : Node S) → at r n ≡ Some m → at r (put (r ++ s) a n) ≡ Some (put s a m)
  with_split [] s a n m e = ap (λ z. Some (put s a z)) (some_same n m e)
  with_split (i ∷ r) s a (Live l) m e = none_some m e
  with_split (i ∷ r) s a (Ended l) m e = none_some m e
  with_split (i ∷ r) s a (Dead l x) m e = none_some m e
  with_split (i ∷ r) s a (Forked l ks) m e = with_split_in i r s a ks m e

  with_split_in : {S : Type 0} (i : ℕ) (r s : List ℕ) (a : Node S) (ks : Nodes S) (m : Node S) → child_at i r ks ≡ Some m → child_at i r (put_child i (r ++ s) a ks) ≡ Some (put s a m)
  with_split_in i r s a no_node m e = none_some m e
  with_split_in zero r s a (node_and k ks) m e = with_split r s a k m e
  with_split_in (suc i) r s a (node_and k ks) m e = with_split_in i r s a ks m e

eqb_same : (x : ℕ) → eqb x x ≡ true
eqb_same x = eq-eqb x x refl

pub not_above_itself : (r : List ℕ) → is_above r r ≡ false
not_above_itself [] = refl
not_above_itself (x ∷ r) = (λ i. eqb_same x i && not_above_itself r i)

pub above_its_own : (r : List ℕ) (b : ℕ) → is_above r (r ++ b ∷ []) ≡ true
above_its_own [] b = refl
above_its_own (x ∷ r) b = (λ i. eqb_same x i && above_its_own r b i)

not_above_root : (r : List ℕ) → is_above r [] ≡ false
not_above_root [] = refl
not_above_root (x ∷ r) = refl

pub false_and : (b : Bool) → b && false ≡ false
false_and true = refl
false_and false = refl

-- above a child is what is above its fork, and the fork
pub above_same : (x r : List ℕ) (b : ℕ) → x ≢ r → is_above x (r ++ b ∷ []) ≡ is_above x r
above_same [] [] b h = absurd (h refl)
above_same [] (z ∷ r) b h = refl
above_same (y ∷ x) [] b h = ap (λ w. eqb y b && w) (not_above_root x) ∙ false_and (eqb y b)
above_same (y ∷ x) (z ∷ r) b h = on (eqb y z) refl (λ g. above_same x r b g)
  where
    on : (d : Bool) → eqb y z ≡ d → (x ≢ r → is_above x (r ++ b ∷ []) ≡ is_above x r) → eqb y z && is_above x (r ++ b ∷ []) ≡ eqb y z && is_above x r
    on true e f = ap (λ w. eqb y z && w) (f (λ w. h (λ i. eqb-true y z e i ∷ w i)))
    on false e f = ap (λ w. w && is_above x (r ++ b ∷ [])) e ∙ sym (ap (λ w. w && is_above x r) e)

-- a fork above a place: the branches from there go on through a child
pub record PlaceAbove (x p : List ℕ) : Type 0 where
  pub branch : ℕ
  pub rest : List ℕ
  pub is : p ≡ x ++ branch ∷ rest

pub way_from : (x p : List ℕ) → is_above x p ≡ true → PlaceAbove x p
way_from [] [] e = absurd cc
way_from [] (b ∷ p) e = record { branch = b; rest = p; is = refl }
way_from (y ∷ x) [] e = absurd cc
way_from (y ∷ x) (z ∷ p) e = on (eqb y z) refl e (λ g. way_from x p g)
  where
    on : (d : Bool) → eqb y z ≡ d → d && is_above x p ≡ true → (is_above x p ≡ true → PlaceAbove x p) → PlaceAbove (y ∷ x) (z ∷ p)
    on true w h f = let a = f h in record { branch = a.branch; rest = a.rest; is = (λ i. sym (eqb-true y z w) i ∷ a.is i) }
    on false w h f = absurd cc

abbrev tally_in : {S : Type 0} → Ops S → Channel → Node S → Tally
tally_in o c (Live l) = tally_of o c no_node
tally_in o c (Forked l ks) = tally_of o c ks
tally_in o c (Ended l) = tally_of o c no_node
tally_in o c (Dead l x) = tally_of o c no_node

pub forked_same : {S : Type 0} (o : Ops S) (c : Channel) (l m : S) (ks js : Nodes S) → Some (Forked l ks) ≡ Some (Forked m js) → tally_of o c ks ≡ tally_of o c js
forked_same o c l m ks js e = ap (tally_in o c) (some_same (Forked l ks) (Forked m js) e)

pub leaf_no_fork : {S : Type 0} {B : Type 0} (x : List ℕ) (a : Node S) (l : S) (ks : Nodes S) → is_leaf a ≡ true → at x a ≡ Some (Forked l ks) → B
leaf_no_fork [] (Live m) l ks h e = absurd cc
leaf_no_fork [] (Forked m js) l ks h e = absurd cc
leaf_no_fork [] (Ended m) l ks h e = absurd cc
leaf_no_fork [] (Dead m x) l ks h e = absurd cc
leaf_no_fork (i ∷ x) a l ks h e = none_some (Forked l ks) (sym (none_below i x a h) ∙ e)

mutual
  -- what is aside of a place and not above it is untouched by another node there
  pub untouched : {S : Type 0} (q x : List ℕ) (m a n : Node S) → at q n ≡ Some m → is_above x q ≡ false → IsAside x q → at x (put q a n) ≡ at x n
  untouched [] x m a n e f h = absurd (h x refl)
  untouched (i ∷ q) x m a (Live z) e f h = none_some m e
  untouched (i ∷ q) x m a (Ended z) e f h = none_some m e
  untouched (i ∷ q) x m a (Dead z y) e f h = none_some m e
  untouched (i ∷ q) [] m a (Forked z js) e f h = absurd cc
  untouched (i ∷ q) (j ∷ x) m a (Forked z js) e f h = untouched_in i j q x m a js e (λ same. ap (λ w. w && is_above x q) (sym (eq-eqb j i same)) ∙ f) (λ w s y. h s (λ t. w t ∷ y t))

  untouched_in : {S : Type 0} (i j : ℕ) (q x : List ℕ) (m a : Node S) (js : Nodes S) → child_at i q js ≡ Some m → (j ≡ i → is_above x q ≡ false) → (j ≡ i → IsAside x q) → child_at j x (put_child i q a js) ≡ child_at j x js
  untouched_in i j q x m a no_node e f h = none_some m e
  untouched_in zero zero q x m a (node_and k js) e f h = untouched q x m a k e (f refl) (h refl)
  untouched_in zero (suc j) q x m a (node_and k js) e f h = refl
  untouched_in (suc i) zero q x m a (node_and k js) e f h = refl
  untouched_in (suc i) (suc j) q x m a (node_and k js) e f h = untouched_in i j q x m a js e (λ w. f (ap suc w)) (λ w. h (ap suc w))

-- what is above a node is a fork
pub record ForkAbove {S : Type 0} (x : List ℕ) (b : ℕ) (rest : List ℕ) (n m : Node S) : Type 0 where
  pub state : S
  pub children : Nodes S
  pub there : at x n ≡ Some (Forked state children)
  pub child : child_at b rest children ≡ Some m

pub record ForkIn {S : Type 0} (i : ℕ) (x : List ℕ) (b : ℕ) (rest : List ℕ) (ks : Nodes S) (m : Node S) : Type 0 where
  pub state : S
  pub children : Nodes S
  pub there : child_at i x ks ≡ Some (Forked state children)
  pub child : child_at b rest children ≡ Some m

mutual
  pub fork_above : {S : Type 0} (x : List ℕ) (b : ℕ) (rest : List ℕ) (n m : Node S) → at (x ++ b ∷ rest) n ≡ Some m → ForkAbove x b rest n m
  fork_above [] b rest (Live l) m e = none_some m e
  fork_above [] b rest (Ended l) m e = none_some m e
  fork_above [] b rest (Dead l y) m e = none_some m e
  fork_above [] b rest (Forked l ks) m e = record { state = l; children = ks; there = refl; child = e }
  fork_above (i ∷ x) b rest (Live l) m e = none_some m e
  fork_above (i ∷ x) b rest (Ended l) m e = none_some m e
  fork_above (i ∷ x) b rest (Dead l y) m e = none_some m e
  fork_above (i ∷ x) b rest (Forked l ks) m e = let w = fork_in i x b rest ks m e in record { state = w.state; children = w.children; there = w.there; child = w.child }

  pub fork_in : {S : Type 0} (i : ℕ) (x : List ℕ) (b : ℕ) (rest : List ℕ) (ks : Nodes S) (m : Node S) → child_at i (x ++ b ∷ rest) ks ≡ Some m → ForkIn i x b rest ks m
  fork_in i x b rest no_node m e = none_some m e
  fork_in zero x b rest (node_and k ks) m e = let w = fork_above x b rest k m e in record { state = w.state; children = w.children; there = w.there; child = w.child }
  fork_in (suc i) x b rest (node_and k ks) m e = let w = fork_in i x b rest ks m e in record { state = w.state; children = w.children; there = w.there; child = w.child }

module _ {S : Type 0} (o : Ops S) (rp : Path) (states : List S) (views : List RecordView) (c : Channel) where
  pub topped : (counts : ℕ → Option Tally) (old new : Node S) → OnTheWay o rp states views c counts old new [] → Tallied o rp states views c counts new
  topped counts old new t i f n s y l ks has w g = t i f n s y l ks has w (ap (λ d. at (place o rp s) (cond d old new)) (not_above_root (place o rp s)) ∙ g)

  -- a fork above a node that is seen as before has the same counts
  same_above : (root m a : Node S) (p x : List ℕ) → at p root ≡ Some m → child_status o c m ≡ child_status o c a → is_above x p ≡ true → (l : S) (ks : Nodes S) → at x (put p a root) ≡ Some (Forked l ks)
      → (k : S) × (js : Nodes S) × (at x root ≡ Some (Forked k js)) × (tally_of o c js ≡ tally_of o c ks)
  same_above root m a p x e like u l ks g =
      let w = way_from x p u in
      let v = fork_above x w.branch w.rest root m (ap (λ z. at z root) (sym w.is) ∙ e) in
      let h = with_split x (w.branch ∷ w.rest) a root (Forked v.state v.children) v.there in
      let j = ap (λ z. at x (put z a root)) (sym w.is) ∙ g in (
        v.state,
        v.children,
        v.there,
        sym (tally_up o c w.branch w.rest m a v.children v.child like)
            ∙ forked_same o c v.state l (put_child w.branch w.rest a v.children) ks (sym h ∙ j),
      )

  pub ended : (counts : ℕ → Option Tally) (root m a : Node S) (p t : List ℕ) → at p root ≡ Some m → child_status o c m ≡ child_status o c (put t a m)
      → OnTheWay o rp states views c counts root (put (p ++ t) a root) p → Tallied o rp states views c counts (put (p ++ t) a root)
  ended counts root m a p t e like way i f n s y l ks has w g = on (is_above (place o rp s) p) refl
    where
      given : (d : Bool) → is_above (place o rp s) p ≡ d → (k : S) (js : Nodes S) → at (place o rp s) (cond d root (put (p ++ t) a root)) ≡ Some (Forked k js) → y ≡ tally_of o c js
      given d u k js h = way i f n s y k js has w (ap (λ z. at (place o rp s) (cond z root (put (p ++ t) a root))) u ∙ h)

      on : (d : Bool) → is_above (place o rp s) p ≡ d → y ≡ tally_of o c ks
      on true u =
          let v = same_above root m (put t a m) p (place o rp s) e like u l ks (ap (at (place o rp s)) (sym (put_twice p t a root m e)) ∙ g) in
          given true u v.0 v.1 v.2 ∙ v.3
      on false u = given false u l ks g
