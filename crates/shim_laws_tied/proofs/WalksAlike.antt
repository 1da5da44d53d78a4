-- The walks of tied nodes list the same events, and the same processes wait.
use Rattle.std.proofs.Common.{◌≡◌, ℕ, ◌+◌, ◌&&◌, [], ◌∷◌, ◌++◌, map, filter, cond, refl, ap, ◌∙◌}
use Rattle.shim_base.specs.Paths.{same_path}
use Rattle.shim_local.specs.Process.{Ops}
use Rattle.shim_semantics.specs.Nodes.{Node, Nodes, Live, Forked, Ended, Dead, no_node, node_and, state, next_channel}
use Rattle.shim_semantics.specs.Poison.{is_doomed}
use Rattle.shim_semantics.specs.Trees.{Meet, Poison, Close}
use Rattle.shim_semantics.specs.Walks.{as_list, waited, all_waited, in_order, own_events, meets_here, poisons_here, here, poisons_of, walk, walk_all}
use Rattle.shim_semantics.specs.Endings.{wait_of, waiting, all_waiting}
use Rattle.shim_laws_tied.specs.Ties.{KeepsTied, AreTied}
use Rattle.shim_laws_tied.proofs.SoundTies.{Tied, EachTied}
use Rattle.shim_laws_tied.proofs.NodesAlike.{state_tied, done_alike}
use Rattle.shim_laws_tied.proofs.ReadyAlike.{ready_alike, doomed_alike}

module _ {A B : Type 0} (o : Ops A) (p : Ops B) (R : A → B → Type 0) (keeps : KeepsTied o p R) where
  pub path_alike : (n : Node A) (m : Node B) → Tied o p R n m → o.path (state n) ≡ p.path (state m)
  path_alike n m h = keeps.path (state n) (state m) (state_tied o p R n m h)

  mutual
    waited_alike : (n : Node A) (m : Node B) → Tied o p R n m → waited o n ≡ waited p m
    waited_alike (Live l) (Live m) h = ap (λ s. as_list (next_channel s)) (keeps.stop l m h)
    waited_alike (Ended l) (Ended m) h = refl
    waited_alike (Dead l d) (Dead m e) h = refl
    waited_alike (Forked l ks) (Forked m js) h = all_waited_alike ks js h.1
    waited_alike n m h = absurd h

    all_waited_alike : (ks : Nodes A) (js : Nodes B) → EachTied o p R ks js → all_waited o ks ≡ all_waited p js
    all_waited_alike no_node no_node h = refl
    all_waited_alike (node_and k ks) (node_and j js) h = λ i. waited_alike k j h.0 i ++ all_waited_alike ks js h.1 i
    all_waited_alike ks js h = absurd h

  mutual
    pub waiting_alike : (n : Node A) (m : Node B) → Tied o p R n m → waiting o n ≡ waiting p m
    waiting_alike (Live l) (Live m) h = λ i. wait_of (keeps.path l m h i) (next_channel (keeps.stop l m h i))
    waiting_alike (Ended l) (Ended m) h = refl
    waiting_alike (Dead l d) (Dead m e) h = refl
    waiting_alike (Forked l ks) (Forked m js) h = all_waiting_alike ks js h.1
    waiting_alike n m h = absurd h

    all_waiting_alike : (ks : Nodes A) (js : Nodes B) → EachTied o p R ks js → all_waiting o ks ≡ all_waiting p js
    all_waiting_alike no_node no_node h = refl
    all_waiting_alike (node_and k ks) (node_and j js) h = λ i. waiting_alike k j h.0 i ++ all_waiting_alike ks js h.1 i
    all_waiting_alike ks js h = absurd h

  meets_here_alike : (n : Node A) (m : Node B) → Tied o p R n m → meets_here o n ≡ meets_here p m
  meets_here_alike n m h = λ i c. same_path c.home (path_alike n m h i) && ready_alike o p R keeps c n m h i

  here_alike : (n : Node A) (m : Node B) → Tied o p R n m → here o n ≡ here p m
  here_alike (Live l) (Live m) h = λ i. own_events (keeps.path l m h i) (keeps.stop l m h i)
  here_alike (Ended l) (Ended m) h = refl
  here_alike (Dead l d) (Dead m e) h = refl
  here_alike (Forked l ks) (Forked m js) h =
      λ i. cond (done_alike o p R ks js h.1 i) (Close (keeps.path l m h.0.tied i) ∷ []) [] ++ map Meet (in_order (filter (meets_here_alike (Forked l ks) (Forked m js) h i) (all_waited_alike ks js h.1 i)))
  here_alike n m h = absurd h

  -- of the children of tied processes
  poisons_here_alike : (l : A) (m : B) (all : Nodes A) (those : Nodes B) → AreTied o p R l m → EachTied o p R all those → (at : ℕ) (k : Node A) (j : Node B) → Tied o p R k j
      → poisons_here o l all at k ≡ poisons_here p m those at j
  poisons_here_alike l m all those t each at k j h =
      λ i c. ready_alike o p R keeps c k j h i && (doomed_alike o p R keeps (o.handlers l) c at all those each ∙ ap (λ x. is_doomed p x c at those) (keeps.handlers l m t)) i

  poisons_alike : (l : A) (m : B) (all : Nodes A) (those : Nodes B) → AreTied o p R l m → EachTied o p R all those → (at : ℕ) (k : Node A) (j : Node B) → Tied o p R k j
      → poisons_of o l all at k ≡ poisons_of p m those at j
  poisons_alike l m all those t each at k j h =
      λ i. map (Poison (path_alike k j h i)) (in_order (filter (poisons_here_alike l m all those t each at k j h i) (waited_alike k j h i)))

  mutual
    pub walk_alike : (n : Node A) (m : Node B) → Tied o p R n m → walk o n ≡ walk p m
    walk_alike (Live l) (Live m) h = here_alike (Live l) (Live m) h
    walk_alike (Ended l) (Ended m) h = refl
    walk_alike (Dead l d) (Dead m e) h = refl
    walk_alike (Forked l ks) (Forked m js) h = λ i. here_alike (Forked l ks) (Forked m js) h i ++ walk_all_alike l m ks js h.0.tied h.1 0 ks js h.1 i
    walk_alike n m h = absurd h

    walk_all_alike : (l : A) (m : B) (all : Nodes A) (those : Nodes B) → AreTied o p R l m → EachTied o p R all those → (at : ℕ) (ks : Nodes A) (js : Nodes B) → EachTied o p R ks js
        → walk_all o l all at ks ≡ walk_all p m those at js
    walk_all_alike l m all those t each at no_node no_node h = refl
    walk_all_alike l m all those t each at (node_and k ks) (node_and j js) h =
        λ i. poisons_alike l m all those t each at k j h.0 i ++ (walk_alike k j h.0 i ++ walk_all_alike l m all those t each (at + 1) ks js h.1 i)
    walk_all_alike l m all those t each at ks js h = absurd h
