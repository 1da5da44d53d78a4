-- A channel has the same value and the same name in tied nodes.
use Rattle.std.proofs.Common.{◌≡◌, true, Option, Some, None, cond, refl, ap}
use Rattle.shim_base.specs.Paths.{Channel}
use Rattle.shim_local.specs.Process.{Ops}
use Rattle.shim_semantics.specs.Nodes.{Node, Nodes, Live, Forked, Ended, Dead, no_node, node_and, next_channel, or_else, source, source_among, value_of, name_for, first_name, first_name_among}
use Rattle.shim_laws_tied.specs.Ties.{KeepsTied, AreTied}
use Rattle.shim_laws_tied.proofs.Both.{BothOrNone, both_chosen, both_or_else}
use Rattle.shim_laws_tied.proofs.SoundTies.{Tied, EachTied}

module _ {A B : Type 0} (o : Ops A) (p : Ops B) (R : A → B → Type 0) (keeps : KeepsTied o p R) where
  -- tied processes that carry the channel
  abbrev BothCarry : Channel → A → B → Type 0
  BothCarry c l m = AreTied o p R l m × (o.carries l c ≡ true)

  one_carries : (c : Channel) (l : A) (m : B) → AreTied o p R l m → (x : Option A) (y : Option B) → BothOrNone (BothCarry c) x y
      → BothOrNone (BothCarry c) (cond (o.carries l c) (Some l) x) (cond (p.carries m c) (Some m) y)
  one_carries c l m h x y g = both_chosen (BothOrNone (BothCarry c)) (o.carries l c) (p.carries m c) (Some l) x (Some m) y (keeps.carries l m c h) (λ e. (h, e)) (λ e. g)

  mutual
    sources_tied : (c : Channel) (n : Node A) (m : Node B) → Tied o p R n m → BothOrNone (BothCarry c) (source o c n) (source p c m)
    sources_tied c (Live l) (Live m) h = one_carries c l m h None None tt
    sources_tied c (Ended l) (Ended m) h = one_carries c l m h None None tt
    sources_tied c (Dead l d) (Dead m e) h = one_carries c l m h.0 None None tt
    sources_tied c (Forked l ks) (Forked m js) h = one_carries c l m h.0.tied (source_among o c ks) (source_among p c js) (sources_among_tied c ks js h.1)
    sources_tied c n m h = absurd h

    sources_among_tied : (c : Channel) (ks : Nodes A) (js : Nodes B) → EachTied o p R ks js → BothOrNone (BothCarry c) (source_among o c ks) (source_among p c js)
    sources_among_tied c no_node no_node h = tt
    sources_among_tied c (node_and k ks) (node_and j js) h =
        both_or_else (BothCarry c) (source o c k) (source_among o c ks) (source p c j) (source_among p c js) (sources_tied c k j h.0) (sources_among_tied c ks js h.1)
    sources_among_tied c ks js h = absurd h

  values_alike : (c : Channel) (x : Option A) (y : Option B) → BothOrNone (BothCarry c) x y → value_of o c x ≡ value_of p c y
  values_alike c (Some l) (Some m) h = keeps.value l m c h.0 h.1
  values_alike c None None h = refl
  values_alike c (Some l) None h = absurd h
  values_alike c None (Some m) h = absurd h

  pub value_alike : (c : Channel) (n : Node A) (m : Node B) → Tied o p R n m → value_of o c (source o c n) ≡ value_of p c (source p c m)
  value_alike c n m h = values_alike c (source o c n) (source p c m) (sources_tied c n m h)

  mutual
    pub name_alike : (c : Channel) (n : Node A) (m : Node B) → Tied o p R n m → first_name o c n ≡ first_name p c m
    name_alike c (Live l) (Live m) h = ap (λ s. name_for c (next_channel s)) (keeps.stop l m h)
    name_alike c (Ended l) (Ended m) h = refl
    name_alike c (Dead l d) (Dead m e) h = refl
    name_alike c (Forked l ks) (Forked m js) h = name_among_alike c ks js h.1
    name_alike c n m h = absurd h

    name_among_alike : (c : Channel) (ks : Nodes A) (js : Nodes B) → EachTied o p R ks js → first_name_among o c ks ≡ first_name_among p c js
    name_among_alike c no_node no_node h = refl
    name_among_alike c (node_and k ks) (node_and j js) h = λ i. or_else (name_alike c k j h.0 i) (name_among_alike c ks js h.1 i)
    name_among_alike c ks js h = absurd h
