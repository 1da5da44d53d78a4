-- A rendezvous and a poison leave tied nodes tied.
use Rattle.std.proofs.Common.{◌≡◌, ℕ, ℤ, zero, suc, ◌-◌, Some, None, ◌&&◌, refl, ap, ◌∙◌, subst}
use Rattle.shim_base.specs.Paths.{Channel}
use Rattle.shim_local.specs.Process.{Ops}
use Rattle.shim_semantics.specs.Nodes.{Node, Nodes, Live, Forked, Ended, Dead, Death, death, no_node, node_and, is_next, received, all_received}
use Rattle.shim_semantics.specs.Poison.{is_doomed, poisoned, all_poisoned, one_poisoned, can_poison, poison_node}
use Rattle.shim_semantics.proofs.MeetStays.{next_is}
use Rattle.shim_laws_tied.specs.Ties.{KeepsTied, AreTied}
use Rattle.shim_laws_tied.specs.TiedTrees.{NodesTied, ChildrenTied}
use Rattle.shim_laws_tied.proofs.Both.{BothOrNone, both_chosen}
use Rattle.shim_laws_tied.proofs.SoundTies.{Tied, EachTied, each_tied_alone, tied_alone}
use Rattle.shim_laws_tied.proofs.ReadyAlike.{doomed_alike, ready_child_alike}

module _ {A B : Type 0} (o : Ops A) (p : Ops B) (R : A → B → Type 0) (keeps : KeepsTied o p R) where
  mutual
    pub received_tied : (c : Channel) (v : ℤ) (n : Node A) (m : Node B) → Tied o p R n m → NodesTied R (received o c v n) (received p c v m)
    received_tied c v (Live l) (Live m) h =
        both_chosen R (is_next (o.stop l) c) (is_next (p.stop m) c) (o.receive l v) l (p.receive m v) m (ap (λ s. is_next s c) (keeps.stop l m h))
        (λ e. let d = next_is (o.stop l) c e in keeps.receive l m d.0 v h d.1) (λ e. h.2)
    received_tied c v (Ended l) (Ended m) h = h.2
    received_tied c v (Dead l d) (Dead m e) h = (h.0.2, h.1)
    received_tied c v (Forked l ks) (Forked m js) h = (h.0.tied.2, all_received_tied c v ks js h.1)
    received_tied c v n m h = absurd h

    all_received_tied : (c : Channel) (v : ℤ) (ks : Nodes A) (js : Nodes B) → EachTied o p R ks js → ChildrenTied R (all_received o c v ks) (all_received p c v js)
    all_received_tied c v no_node no_node h = tt
    all_received_tied c v (node_and k ks) (node_and j js) h = (received_tied c v k j h.0, all_received_tied c v ks js h.1)
    all_received_tied c v ks js h = absurd h

  mutual
    poisoned_tied : (c : Channel) (d : Death) (n : Node A) (m : Node B) → Tied o p R n m → NodesTied R (poisoned o c d n) (poisoned p c d m)
    poisoned_tied c d (Live l) (Live m) h =
        both_chosen (NodesTied R) (o.shares l c) (p.shares m c) (Dead l d) (Live l) (Dead m d) (Live m) (keeps.shares l m c h) (λ e. (h.2, refl)) (λ e. h.2)
    poisoned_tied c d (Ended l) (Ended m) h = h.2
    poisoned_tied c d (Dead l x) (Dead m y) h = (h.0.2, h.1)
    poisoned_tied c d (Forked l ks) (Forked m js) h = (h.0.tied.2, all_poisoned_tied c d ks js h.1)
    poisoned_tied c d n m h = absurd h

    all_poisoned_tied : (c : Channel) (d : Death) (ks : Nodes A) (js : Nodes B) → EachTied o p R ks js → ChildrenTied R (all_poisoned o c d ks) (all_poisoned p c d js)
    all_poisoned_tied c d no_node no_node h = tt
    all_poisoned_tied c d (node_and k ks) (node_and j js) h = (poisoned_tied c d k j h.0, all_poisoned_tied c d ks js h.1)
    all_poisoned_tied c d ks js h = absurd h

  one_poisoned_tied : (c : Channel) (d : Death) (at : ℕ) (ks : Nodes A) (js : Nodes B) → EachTied o p R ks js → ChildrenTied R (one_poisoned o c d at ks) (one_poisoned p c d at js)
  one_poisoned_tied c d at no_node no_node h = tt
  one_poisoned_tied c d zero (node_and k ks) (node_and j js) h = (poisoned_tied c d k j h.0, each_tied_alone o p R ks js h.1)
  one_poisoned_tied c d (suc at) (node_and k ks) (node_and j js) h = (tied_alone o p R k j h.0, one_poisoned_tied c d at ks js h.1)
  one_poisoned_tied c d at ks js h = absurd h

  can_poison_alike : (c : Channel) (at : ℕ) (l : A) (m : B) (ks : Nodes A) (js : Nodes B) → AreTied o p R l m → EachTied o p R ks js → can_poison o l c at ks ≡ can_poison p m c at js
  can_poison_alike c at l m ks js h each =
      λ i. ready_child_alike o p R keeps c at ks js each i && (doomed_alike o p R keeps (o.handlers l) c at ks js each ∙ ap (λ x. is_doomed p x c at js) (keeps.handlers l m h)) i

  pub poison_here_tied : (c : Channel) (at : ℕ) (n : Node A) (m : Node B) → Tied o p R n m → BothOrNone (NodesTied R) (poison_node o c at n) (poison_node p c at m)
  poison_here_tied c at (Live l) (Live m) h = tt
  poison_here_tied c at (Ended l) (Ended m) h = tt
  poison_here_tied c at (Dead l d) (Dead m e) h = tt
  poison_here_tied c at (Forked l ks) (Forked m js) h =
      both_chosen (BothOrNone (NodesTied R)) (can_poison o l c at ks) (can_poison p m c at js)
      (Some (Forked l (one_poisoned o c (death (o.handlers l - 1)) at ks))) None (Some (Forked m (one_poisoned p c (death (p.handlers m - 1)) at js))) None
      (can_poison_alike c at l m ks js h.0.tied h.1)
      (λ e. (h.0.tied.2, subst (λ x. ChildrenTied R (one_poisoned o c (death (o.handlers l - 1)) at ks) (one_poisoned p c (death (x - 1)) at js)) (keeps.handlers l m h.0.tied) (one_poisoned_tied c (death (o.handlers l - 1)) at ks js h.1)))
      (λ e. tt)
  poison_here_tied c at n m h = absurd h
