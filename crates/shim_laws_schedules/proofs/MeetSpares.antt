-- A rendezvous changes no least label of the dead below a fork.
use Rattle.std.proofs.Common.{◌≡◌, ℕ, zero, suc, ℤ, Option, Some, List, [], ◌∷◌, ◌||◌, refl, sym, ap, ◌∙◌}
use Rattle.shim_base.specs.Paths.{Channel}
use Rattle.shim_local.specs.Process.{Ops}
use Rattle.shim_semantics.specs.Nodes.{Node, Nodes, Live, Forked, Ended, Dead, no_node, node_and, received, all_received}
use Rattle.shim_semantics.specs.Places.{at, child_at}
use Rattle.shim_laws_schedules.proofs.DeadBelow.{dead_below, any_dead_below, IsLeast}
use Rattle.shim_laws_schedules.proofs.Stood.{Stood}
use Rattle.shim_laws_schedules.proofs.Forks.{same_fork}
use Rattle.shim_base.proofs.Facts.{none_some}

module _ {S : Type 0} (o : Ops S) where
  mutual
    received_dead : (c : Channel) (v : ℤ) (t : ℕ) (n : Node S) → dead_below t (received o c v n) ≡ dead_below t n
    received_dead c v t (Live l) = refl
    received_dead c v t (Ended l) = refl
    received_dead c v t (Dead l x) = refl
    received_dead c v t (Forked l ks) = all_received_dead c v t ks

    all_received_dead : (c : Channel) (v : ℤ) (t : ℕ) (ks : Nodes S) → any_dead_below t (all_received o c v ks) ≡ any_dead_below t ks
    all_received_dead c v t no_node = refl
    all_received_dead c v t (node_and k ks) = λ i. received_dead c v t k i || all_received_dead c v t ks i

  -- a fork of which the children received something
  pub record Received (c : Channel) (v : ℤ) (r : Option (Node S)) (l : S) (ks : Nodes S) : Type 0 where
    pub children : Nodes S
    pub there : r ≡ Some (Forked l children)
    pub is : all_received o c v children ≡ ks

  mutual
    pub received_fork : (c : Channel) (v : ℤ) (q : List ℕ) (n : Node S) (l : S) (ks : Nodes S) → at q (received o c v n) ≡ Some (Forked l ks) → Received c v (at q n) l ks
    received_fork c v [] (Live k) l ks e = absurd cc
    received_fork c v [] (Ended k) l ks e = absurd cc
    received_fork c v [] (Dead k x) l ks e = absurd cc
    received_fork c v [] (Forked k js) l ks e =
        let w = same_fork k l (all_received o c v js) ks e in
        record { children = js; there = ap (λ z. Some (Forked z js)) w.0; is = w.1 }
    received_fork c v (i ∷ q) (Live k) l ks e = none_some (Forked l ks) e
    received_fork c v (i ∷ q) (Ended k) l ks e = none_some (Forked l ks) e
    received_fork c v (i ∷ q) (Dead k x) l ks e = none_some (Forked l ks) e
    received_fork c v (i ∷ q) (Forked k js) l ks e = all_received_fork c v i q js l ks e

    all_received_fork : (c : Channel) (v : ℤ) (i : ℕ) (q : List ℕ) (js : Nodes S) (l : S) (ks : Nodes S) → child_at i q (all_received o c v js) ≡ Some (Forked l ks) → Received c v (child_at i q js) l ks
    all_received_fork c v i q no_node l ks e = none_some (Forked l ks) e
    all_received_fork c v zero q (node_and k js) l ks e = received_fork c v q k l ks e
    all_received_fork c v (suc i) q (node_and k js) l ks e = all_received_fork c v i q js l ks e

  pub stood_meeting : (c : Channel) (v : ℤ) (q : List ℕ) (n : Node S) (l : S) (ks : Nodes S) (x : ℕ) → at q (received o c v n) ≡ Some (Forked l ks) → IsLeast x ks → Stood n q l x
  stood_meeting c v q n l ks x e least =
      let w = received_fork c v q n l ks e in
      let alike : (t : ℕ) → any_dead_below t w.children ≡ any_dead_below t ks = λ t. sym (all_received_dead c v t w.children) ∙ ap (any_dead_below t) w.is in
      record { children = w.children; there = w.there; least = record { some = alike (suc x) ∙ least.some; none = alike x ∙ least.none } }
