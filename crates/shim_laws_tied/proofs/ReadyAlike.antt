-- Tied nodes are ready on the same channels, and doomed on the same.
use Rattle.std.proofs.Common.{◌≡◌, ℕ, zero, suc, ◌&&◌, ◌||◌, not, ltb, refl, ap}
use Rattle.shim_base.specs.Paths.{Channel}
use Rattle.shim_local.specs.Process.{Ops}
use Rattle.shim_semantics.specs.Nodes.{Node, Nodes, Live, Forked, Ended, Dead, no_node, node_and, state, is_next, any_sharer, ready, all_ready}
use Rattle.shim_semantics.specs.Poison.{dooms, any_dooms, is_doomed, is_ready_child}
use Rattle.shim_laws_tied.specs.Ties.{KeepsTied}
use Rattle.shim_laws_tied.proofs.SoundTies.{Tied, EachTied}
use Rattle.shim_laws_tied.proofs.NodesAlike.{state_tied, goes_alike, dead_alike}

module _ {A B : Type 0} (o : Ops A) (p : Ops B) (R : A → B → Type 0) (keeps : KeepsTied o p R) where
  shares_alike : (c : Channel) (n : Node A) (m : Node B) → Tied o p R n m → o.shares (state n) c ≡ p.shares (state m) c
  shares_alike c n m h = keeps.shares (state n) (state m) c (state_tied o p R n m h)

  any_alike : (c : Channel) (ks : Nodes A) (js : Nodes B) → EachTied o p R ks js → any_sharer o c ks ≡ any_sharer p c js
  any_alike c no_node no_node h = refl
  any_alike c (node_and k ks) (node_and j js) h = λ i. (goes_alike o p R k j h.0 i && shares_alike c k j h.0 i) || any_alike c ks js h.1 i
  any_alike c ks js h = absurd h

  mutual
    pub ready_alike : (c : Channel) (n : Node A) (m : Node B) → Tied o p R n m → ready o c n ≡ ready p c m
    ready_alike c (Live l) (Live m) h = ap (λ s. is_next s c) (keeps.stop l m h)
    ready_alike c (Ended l) (Ended m) h = refl
    ready_alike c (Dead l d) (Dead m e) h = refl
    ready_alike c (Forked l ks) (Forked m js) h = λ i. any_alike c ks js h.1 i && each_ready_alike c ks js h.1 i
    ready_alike c n m h = absurd h

    each_ready_alike : (c : Channel) (ks : Nodes A) (js : Nodes B) → EachTied o p R ks js → all_ready o c ks ≡ all_ready p c js
    each_ready_alike c no_node no_node h = refl
    each_ready_alike c (node_and k ks) (node_and j js) h =
        λ i. (not (shares_alike c k j h.0 i && (goes_alike o p R k j h.0 i || dead_alike o p R k j h.0 i)) || ready_alike c k j h.0 i) && each_ready_alike c ks js h.1 i
    each_ready_alike c ks js h = absurd h

  mutual
    dooms_alike : (x : ℕ) (c : Channel) (n : Node A) (m : Node B) → Tied o p R n m → dooms o x c n ≡ dooms p x c m
    dooms_alike x c (Live l) (Live m) h = refl
    dooms_alike x c (Ended l) (Ended m) h = refl
    dooms_alike x c (Dead l d) (Dead m e) h = λ i. keeps.shares l m c h.0 i && ltb (h.1 i).label x
    dooms_alike x c (Forked l ks) (Forked m js) h = any_dooms_alike x c ks js h.1
    dooms_alike x c n m h = absurd h

    any_dooms_alike : (x : ℕ) (c : Channel) (ks : Nodes A) (js : Nodes B) → EachTied o p R ks js → any_dooms o x c ks ≡ any_dooms p x c js
    any_dooms_alike x c no_node no_node h = refl
    any_dooms_alike x c (node_and k ks) (node_and j js) h = λ i. dooms_alike x c k j h.0 i || any_dooms_alike x c ks js h.1 i
    any_dooms_alike x c ks js h = absurd h

  pub doomed_alike : (x : ℕ) (c : Channel) (at : ℕ) (ks : Nodes A) (js : Nodes B) → EachTied o p R ks js → is_doomed o x c at ks ≡ is_doomed p x c at js
  doomed_alike x c at no_node no_node h = refl
  doomed_alike x c zero (node_and k ks) (node_and j js) h = any_dooms_alike x c ks js h.1
  doomed_alike x c (suc at) (node_and k ks) (node_and j js) h = λ i. dooms_alike x c k j h.0 i || doomed_alike x c at ks js h.1 i
  doomed_alike x c at ks js h = absurd h

  pub ready_child_alike : (c : Channel) (at : ℕ) (ks : Nodes A) (js : Nodes B) → EachTied o p R ks js → is_ready_child o c at ks ≡ is_ready_child p c at js
  ready_child_alike c at no_node no_node h = refl
  ready_child_alike c zero (node_and k ks) (node_and j js) h = ready_alike c k j h.0
  ready_child_alike c (suc at) (node_and k ks) (node_and j js) h = ready_child_alike c at ks js h.1
  ready_child_alike c at ks js h = absurd h
