-- The prevailing death among children, and that the fork's process has a handler of its exception or of an outer one.
use Rattle.std.proofs.Common.{◌≡◌, ℕ, zero, suc, ◌+◌, ◌<◌, ◌≤◌, min, Option, Some, None, List, [], ◌∷◌, length, get_or, refl, sym, ap, subst, ◌∙◌, arith}
use Rattle.std.proofs.Math.Nat.{min-le_left}
use Rattle.shim_local.specs.Process.{Ops}
use Rattle.shim_local.specs.Laws.{AllOf}
use Rattle.shim_semantics.specs.Nodes.{Node, Nodes, Live, Forked, Ended, Dead, Death, outermost, no_node, node_and, state, states, prevailing, prevailing_death}
use Rattle.shim_semantics.specs.Places.{SoundBelow, SoundChildren}
use Rattle.shim_tree.specs.NodeStatus.{nodes}
use Rattle.shim_tree.specs.Beside.{nth_child}
use Rattle.shim_tree.specs.Labels.{death_of, prevailing_of}
use Rattle.shim_tree.specs.declared.node_status.NodeStatus.{NodeStatus}
use Rattle.shim_tree.proofs.Beside.{from, from_next, from_end}
use Rattle.shim_base.proofs.Facts.{some_same, none_some}

-- ---- the prevailing one of deaths

death_first : {S : Type 0} (k : Node S) (ks : Nodes S) → prevailing_death (node_and k ks) ≡ prevailing_of (death_of k) (prevailing_death ks)
death_first (Live l) ks = refl
death_first (Forked l js) ks = refl
death_first (Ended l) ks = refl
death_first (Dead l x) ks = refl

item_there : {A : Type 0} (i : ℕ) (xs : List A) → i < length xs → (x : A) × (x ≡ get_or xs i x)
item_there i [] h = absurd (omega (arith, h))
item_there zero (x ∷ xs) h = (x, refl)
item_there (suc i) (x ∷ xs) h = item_there i xs (omega (arith, h))

death_next : {S : Type 0} (i : ℕ) (ls : List S) (bs : List (NodeStatus S)) (r : Option Death) → i < length ls → ((l : S) → r ≡ death_of (nth_child l (nodes bs) i))
    → prevailing_death (from i ls bs) ≡ prevailing_of r (prevailing_death (from (i + 1) ls bs))
death_next i ls bs r h f =
    let x = item_there i ls h in
    ap prevailing_death (from_next i ls bs x.0 h x.1)
    ∙ (death_first (nth_child x.0 (nodes bs) i) (from (i + 1) ls bs) ∙ ap (λ z. prevailing_of z (prevailing_death (from (i + 1) ls bs))) (sym (f x.0)))

-- one child more, from the last one on, and none at first
pub one_death : {S : Type 0} (i : ℕ) (ls : List S) (bs : List (NodeStatus S)) (was r now : Option Death) → i < length ls → ((l : S) → r ≡ death_of (nth_child l (nodes bs) i)) → now ≡ prevailing_of r was → was ≡ prevailing_death (from (i + 1) ls bs) → now ≡ prevailing_death (from i ls bs)
one_death i ls bs was r now h f is each = is ∙ (ap (prevailing_of r) each ∙ sym (death_next i ls bs r h f))

pub no_death : {S : Type 0} (i : ℕ) (ls : List S) (bs : List (NodeStatus S)) → length ls ≤ i → None ≡ prevailing_death (from i ls bs)
no_death i ls bs h = sym (ap prevailing_death (from_end i ls bs h))

-- ---- what a sound fork says of it

pub sound_state : {S : Type 0} (o : Ops S) (k : Node S) → SoundBelow o k → o.sound (state k)
sound_state o (Live l) s = s
sound_state o (Forked l ks) s = s.sound
sound_state o (Ended l) s = s
sound_state o (Dead l x) s = s.sound

pub each_sound : {S : Type 0} (o : Ops S) (l : S) (f i : ℕ) (ks : Nodes S) → SoundChildren o l f i ks → AllOf o.sound (states ks)
each_sound o l f i no_node s = s
each_sound o l f i (node_and k ks) s = (sound_state o k s.1, each_sound o l f (i + 1) ks s.2)

-- a child dies of labels alone that are in force at the fork
pub label_in_force : {S : Type 0} (o : Ops S) (l : S) (f i : ℕ) (ks : Nodes S) (x : Death) → SoundChildren o l f i ks → prevailing_death ks ≡ Some x → x.label < o.handlers l
label_in_force o l f i no_node x s e = none_some x e
label_in_force o l f i (node_and (Live k) ks) x s e = label_in_force o l f (i + 1) ks x s.2 e
label_in_force o l f i (node_and (Forked k js) ks) x s e = label_in_force o l f (i + 1) ks x s.2 e
label_in_force o l f i (node_and (Ended k) ks) x s e = label_in_force o l f (i + 1) ks x s.2 e
label_in_force o l f i (node_and (Dead k y) ks) x s e = of_prevailing (prevailing_death ks) e
  where
    own : y.label < o.handlers l
    own = subst (λ z. y.label < z) s.0.base s.1.below_base

    of_prevailing : (m : Option Death) → prevailing y m ≡ Some x → x.label < o.handlers l
    of_prevailing None g = subst (λ z. z.label < o.handlers l) (some_same y x g) own
    of_prevailing (Some z) g =
        let least = min-le_left y.label z.label in
        let status = own in
        let is = ap (λ d. d.label) (some_same (outermost y z) x g) in
        omega (arith, least, status, is)
