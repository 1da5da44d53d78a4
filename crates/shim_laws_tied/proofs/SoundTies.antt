-- Tied nodes that are sound, as one relation, which has of a fork what its close needs.
use Rattle.std.proofs.Common.{◌≡◌, ◌<◌, ℕ, ◌+◌, Some}
use Rattle.shim_local.specs.Process.{Ops}
use Rattle.shim_semantics.specs.Nodes.{Node, Nodes, Live, Forked, Ended, Dead, Death, no_node, node_and, states, prevailing_death}
use Rattle.shim_semantics.specs.Places.{SoundBelow, SoundChildren}
use Rattle.shim_semantics.proofs.CloseStays.{label_below}
use Rattle.shim_laws_tied.specs.Ties.{AreTied}
use Rattle.shim_laws_tied.specs.TiedTrees.{NodesTied, ChildrenTied}

-- tied processes forked, each with the children of its fork
pub record ForkTied {A B : Type 0} (o : Ops A) (p : Ops B) (R : A → B → Type 0) (l : A) (m : B) (ks : Nodes A) (js : Nodes B) : Type 0 where
  pub tied : AreTied o p R l m
  pub born_one : o.born l (states ks)
  pub born_other : p.born m (states js)
  -- a death that prevails among the children is of an exception that is in force at the fork
  pub below : (d : Death) → prevailing_death ks ≡ Some d → d.label < o.handlers l

abbrev mutual
  pub Tied : {A B : Type 0} → Ops A → Ops B → (A → B → Type 0) → Node A → Node B → Type 0
  Tied o p R (Live l) (Live m) = AreTied o p R l m
  Tied o p R (Forked l ks) (Forked m js) = ForkTied o p R l m ks js × EachTied o p R ks js
  Tied o p R (Ended l) (Ended m) = AreTied o p R l m
  Tied o p R (Dead l d) (Dead m e) = AreTied o p R l m × (d ≡ e)
  Tied o p R _ _ = ⊥

  pub EachTied : {A B : Type 0} → Ops A → Ops B → (A → B → Type 0) → Nodes A → Nodes B → Type 0
  EachTied o p R no_node no_node = Unit {0}
  EachTied o p R (node_and k ks) (node_and j js) = Tied o p R k j × EachTied o p R ks js
  EachTied o p R _ _ = ⊥

module _ {A B : Type 0} (o : Ops A) (p : Ops B) (R : A → B → Type 0) where
  mutual
    -- of sound nodes
    pub sound_tied : (n : Node A) (m : Node B) → SoundBelow o n → SoundBelow p m → NodesTied R n m → Tied o p R n m
    sound_tied (Live l) (Live m) s r h = (s, r, h)
    sound_tied (Ended l) (Ended m) s r h = (s, r, h)
    sound_tied (Dead l d) (Dead m e) s r h = ((s.sound, r.sound, h.0), h.1)
    sound_tied (Forked l ks) (Forked m js) s r h = (
      record {
        tied = (s.sound, r.sound, h.0);
        born_one = s.born;
        born_other = r.born;
        below = λ d e. label_below o l s.number 0 ks d s.children e;
      },
      each_sound_tied l m s.number r.number 0 0 ks js s.children r.children h.1,
    )
    sound_tied n m s r h = absurd h

    pub each_sound_tied : (l : A) (m : B) (f g i j : ℕ) (ks : Nodes A) (js : Nodes B) → SoundChildren o l f i ks → SoundChildren p m g j js → ChildrenTied R ks js → EachTied o p R ks js
    each_sound_tied l m f g i j no_node no_node s r h = tt
    each_sound_tied l m f g i j (node_and x ks) (node_and y js) s r h = (sound_tied x y s.1 r.1 h.0, each_sound_tied l m f g (i + 1) (j + 1) ks js s.2 r.2 h.1)
    each_sound_tied l m f g i j ks js s r h = absurd h

  mutual
    -- they are tied
    pub tied_alone : (n : Node A) (m : Node B) → Tied o p R n m → NodesTied R n m
    tied_alone (Live l) (Live m) h = h.2
    tied_alone (Ended l) (Ended m) h = h.2
    tied_alone (Dead l d) (Dead m e) h = (h.0.2, h.1)
    tied_alone (Forked l ks) (Forked m js) h = (h.0.tied.2, each_tied_alone ks js h.1)
    tied_alone n m h = absurd h

    pub each_tied_alone : (ks : Nodes A) (js : Nodes B) → EachTied o p R ks js → ChildrenTied R ks js
    each_tied_alone no_node no_node h = tt
    each_tied_alone (node_and x ks) (node_and y js) h = (tied_alone x y h.0, each_tied_alone ks js h.1)
    each_tied_alone ks js h = absurd h
