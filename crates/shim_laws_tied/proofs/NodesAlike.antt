-- Tied nodes are of one shape, with tied states.
use Rattle.std.proofs.Common.{◌≡◌, ◌&&◌, not, refl, ap}
use Rattle.shim_local.specs.Process.{Ops}
use Rattle.shim_local.specs.Laws.{AllOf}
use Rattle.shim_semantics.specs.Nodes.{Node, Nodes, Live, Forked, Ended, Dead, no_node, node_and, state, states, goes, is_dead, all_done, prevailing, prevailing_death}
use Rattle.shim_semantics.specs.Trees.{own_action_of, own_action_at}
use Rattle.shim_laws_tied.specs.Ties.{KeepsTied, AreTied, AllTied}
use Rattle.shim_laws_tied.proofs.SoundTies.{Tied, EachTied}

module _ {A B : Type 0} (o : Ops A) (p : Ops B) (R : A → B → Type 0) where
  pub state_tied : (n : Node A) (m : Node B) → Tied o p R n m → AreTied o p R (state n) (state m)
  state_tied (Live l) (Live m) h = h
  state_tied (Ended l) (Ended m) h = h
  state_tied (Dead l d) (Dead m e) h = h.0
  state_tied (Forked l ks) (Forked m js) h = h.0.tied
  state_tied n m h = absurd h

  pub states_tied : (ks : Nodes A) (js : Nodes B) → EachTied o p R ks js → AllTied R (states ks) (states js)
  states_tied no_node no_node h = tt
  states_tied (node_and k ks) (node_and j js) h = ((state_tied k j h.0).2, states_tied ks js h.1)
  states_tied ks js h = absurd h

  pub ones_sound : (ks : Nodes A) (js : Nodes B) → EachTied o p R ks js → AllOf o.sound (states ks)
  ones_sound no_node no_node h = tt
  ones_sound (node_and k ks) (node_and j js) h = ((state_tied k j h.0).0, ones_sound ks js h.1)
  ones_sound ks js h = absurd h

  pub others_sound : (ks : Nodes A) (js : Nodes B) → EachTied o p R ks js → AllOf p.sound (states js)
  others_sound no_node no_node h = tt
  others_sound (node_and k ks) (node_and j js) h = ((state_tied k j h.0).1, others_sound ks js h.1)
  others_sound ks js h = absurd h

  pub goes_alike : (n : Node A) (m : Node B) → Tied o p R n m → goes n ≡ goes m
  goes_alike (Live l) (Live m) h = refl
  goes_alike (Ended l) (Ended m) h = refl
  goes_alike (Dead l d) (Dead m e) h = refl
  goes_alike (Forked l ks) (Forked m js) h = refl
  goes_alike n m h = absurd h

  pub dead_alike : (n : Node A) (m : Node B) → Tied o p R n m → is_dead n ≡ is_dead m
  dead_alike (Live l) (Live m) h = refl
  dead_alike (Ended l) (Ended m) h = refl
  dead_alike (Dead l d) (Dead m e) h = refl
  dead_alike (Forked l ks) (Forked m js) h = refl
  dead_alike n m h = absurd h

  pub done_alike : (ks : Nodes A) (js : Nodes B) → EachTied o p R ks js → all_done ks ≡ all_done js
  done_alike no_node no_node h = refl
  done_alike (node_and k ks) (node_and j js) h = λ i. not (goes_alike k j h.0 i) && done_alike ks js h.1 i
  done_alike ks js h = absurd h

  one_more_prevails : (k : Node A) (j : Node B) (ks : Nodes A) (js : Nodes B) → Tied o p R k j → prevailing_death ks ≡ prevailing_death js → prevailing_death (node_and k ks) ≡ prevailing_death (node_and j js)
  one_more_prevails (Live l) (Live m) ks js h e = e
  one_more_prevails (Ended l) (Ended m) ks js h e = e
  one_more_prevails (Dead l d) (Dead m f) ks js h e = λ i. prevailing (h.1 i) (e i)
  one_more_prevails (Forked l xs) (Forked m ys) ks js h e = e
  one_more_prevails k j ks js h e = absurd h

  pub prevailing_alike : (ks : Nodes A) (js : Nodes B) → EachTied o p R ks js → prevailing_death ks ≡ prevailing_death js
  prevailing_alike no_node no_node h = refl
  prevailing_alike (node_and k ks) (node_and j js) h = one_more_prevails k j ks js h.0 (prevailing_alike ks js h.1)
  prevailing_alike ks js h = absurd h

  pub kind_alike : KeepsTied o p R → (n : Node A) (m : Node B) → Tied o p R n m → own_action_of o n ≡ own_action_of p m
  kind_alike keeps (Live l) (Live m) h = ap own_action_at (keeps.stop l m h)
  kind_alike keeps (Ended l) (Ended m) h = refl
  kind_alike keeps (Dead l d) (Dead m e) h = refl
  kind_alike keeps (Forked l ks) (Forked m js) h = refl
  kind_alike keeps n m h = absurd h
