-- A poison keeps a tree sound: no state changes, and who dies has no handler for the label.
use Rattle.std.proofs.Common.{◌≡◌, ◌≢◌, ◌<◌, ◌≤◌, ℕ, zero, suc, ◌+◌, ◌-◌, true, false, Option, Some, None, List, [], ◌∷◌, ◌++◌, cond, refl, sym, ap, subst, arith}
use Rattle.shim_base.specs.Paths.{Channel}
use Rattle.shim_local.specs.Process.{Ops}
use Rattle.shim_local.specs.Laws.{LocalLaws}
use Rattle.shim_semantics.specs.Nodes.{Node, Nodes, Live, Forked, Ended, Dead, Death, death, no_node, node_and, state, states, everyone, everyone_of}
use Rattle.shim_semantics.specs.Poison.{poisoned, all_poisoned, one_poisoned, can_poison, poison_node, above, before_rest, after_one, poison, poison_child, poison_route, to_fork, last_branch}
use Rattle.shim_semantics.specs.Places.{IsChild, SoundBelow, SoundChildren}
use Rattle.shim_semantics.proofs.Follows.{Stays, same_stays}
use Rattle.shim_base.proofs.Facts.{some_same, none_some, cond_some}

base_to_handlers : (x b h : ℕ) → x < b → b ≤ h → x < h
base_to_handlers x b h e f = omega arith

handlers_to_base : (x h b : ℕ) → x < h → b ≡ h → x < b
handlers_to_base x h b e f = omega arith

innermost_below : (b h : ℕ) → 1 ≤ b → b ≤ h → h - 1 < h
innermost_below b h e f = omega arith

some_alike : {S : Type 0} (ks js : Nodes S) → states js ≡ states ks → ks ≢ no_node → js ≢ no_node
some_alike no_node js e n = absurd (n refl)
some_alike (node_and k ks) no_node e n = absurd cc
some_alike (node_and k ks) (node_and j js) e n = λ w. absurd cc

pub above_some : {S : Type 0} (l : S) (x : Option (Nodes S)) (m : Node S) → above l x ≡ Some m → (js : Nodes S) × (x ≡ Some js) × (Forked l js ≡ m)
above_some l None m e = none_some m e
above_some l (Some js) m e = (js, refl, some_same (Forked l js) m e)

pub before_some : {S : Type 0} (ks : Nodes S) (x : Option (Node S)) (js : Nodes S) → before_rest ks x ≡ Some js → (k : Node S) × (x ≡ Some k) × (node_and k ks ≡ js)
before_some ks None js e = none_some js e
before_some ks (Some k) js e = (k, refl, some_same (node_and k ks) js e)

pub after_some : {S : Type 0} (k : Node S) (x : Option (Nodes S)) (js : Nodes S) → after_one k x ≡ Some js → (is : Nodes S) × (x ≡ Some is) × (node_and k is ≡ js)
after_some k None js e = none_some js e
after_some k (Some is) js e = (is, refl, some_same (node_and k is) js e)

module _ {S : Type 0} (o : Ops S) where
  -- a sound node of the same states
  pub record IsAlike (n m : Node S) : Type 0 where
    pub below : SoundBelow o m
    pub state_is : state m ≡ state n
    pub all : everyone m ≡ everyone n

  record AreAlike (l : S) (f j : ℕ) (ks js : Nodes S) : Type 0 where
    pub children : SoundChildren o l f j js
    pub states_are : states js ≡ states ks
    pub all : everyone_of js ≡ everyone_of ks

  live_alike : (c : Channel) (x : Death) (l : S) → x.label < o.base l → o.sound l → IsAlike (Live l) (poisoned o c x (Live l))
  live_alike c x l h s = elim (o.shares l c) as (λ b. IsAlike (Live l) (cond b (Dead l x) (Live l))) [
    | true ↦ record { below = record { below_base = h; sound = s }; state_is = refl; all = refl }
    | false ↦ record { below = s; state_is = refl; all = refl }
  ]

  -- the children after a fork, each as it was or as it is then
  forked_alike : (l : S) (ks js : Nodes S) (s : SoundBelow o (Forked l ks)) → AreAlike l s.number 0 ks js → IsAlike (Forked l ks) (Forked l js)
  forked_alike l ks js s w = record {
    below = record {
      number = s.number;
      children = w.children;
      some = some_alike ks js w.states_are s.some;
      born = subst (o.born l) (sym w.states_are) s.born;
      sound = s.sound;
    };
    state_is = refl;
    all = ap (λ z. l ∷ z) w.all;
  }

  first_alike : (l : S) (f j : ℕ) (k m : Node S) (ks js : Nodes S) → IsChild o l f j (state k) → IsAlike k m → AreAlike l f (j + 1) ks js → AreAlike l f j (node_and k ks) (node_and m js)
  first_alike l f j k m ks js s h w = record {
    children = (subst (IsChild o l f j) (sym h.state_is) s, h.below, w.children);
    states_are = λ i. h.state_is i ∷ w.states_are i;
    all = λ i. h.all i ++ w.all i;
  }

  node_same : (k : Node S) → SoundBelow o k → IsAlike k k
  node_same k s = record { below = s; state_is = refl; all = refl }

  nodes_same : (l : S) (f j : ℕ) (ks : Nodes S) → SoundChildren o l f j ks → AreAlike l f j ks ks
  nodes_same l f j ks s = record { children = s; states_are = refl; all = refl }

  mutual
    poisoned_alike : LocalLaws o → (c : Channel) (x : Death) (n : Node S) → x.label < o.base (state n) → SoundBelow o n → IsAlike n (poisoned o c x n)
    poisoned_alike law c x (Live l) h s = live_alike c x l h s
    poisoned_alike law c x (Ended l) h s = node_same (Ended l) s
    poisoned_alike law c x (Dead l y) h s = node_same (Dead l y) s
    poisoned_alike law c x (Forked l ks) h s =
        forked_alike l ks (all_poisoned o c x ks) s (all_poisoned_alike law c x l s.number 0 ks (base_to_handlers x.label (o.base l) (o.handlers l) h (law.base_most l s.sound)) s.children)

    all_poisoned_alike : LocalLaws o → (c : Channel) (x : Death) (l : S) (f j : ℕ) (ks : Nodes S) → x.label < o.handlers l → SoundChildren o l f j ks → AreAlike l f j ks (all_poisoned o c x ks)
    all_poisoned_alike law c x l f j no_node h s = nodes_same l f j no_node tt
    all_poisoned_alike law c x l f j (node_and k ks) h s =
        first_alike l f j k (poisoned o c x k) ks (all_poisoned o c x ks) s.0
        (poisoned_alike law c x k (handlers_to_base x.label (o.handlers l) (o.base (state k)) h s.0.base) s.1)
        (all_poisoned_alike law c x l f (j + 1) ks h s.2)

  one_poisoned_alike : LocalLaws o → (c : Channel) (x : Death) (i : ℕ) (l : S) (f j : ℕ) (ks : Nodes S) → x.label < o.handlers l → SoundChildren o l f j ks → AreAlike l f j ks (one_poisoned o c x i ks)
  one_poisoned_alike law c x i l f j no_node h s = nodes_same l f j no_node tt
  one_poisoned_alike law c x zero l f j (node_and k ks) h s =
      first_alike l f j k (poisoned o c x k) ks ks s.0
      (poisoned_alike law c x k (handlers_to_base x.label (o.handlers l) (o.base (state k)) h s.0.base) s.1)
      (nodes_same l f (j + 1) ks s.2)
  one_poisoned_alike law c x (suc i) l f j (node_and k ks) h s =
      first_alike l f j k k ks (one_poisoned o c x i ks) s.0 (node_same k s.1) (one_poisoned_alike law c x i l f (j + 1) ks h s.2)

  here_alike : LocalLaws o → (c : Channel) (i : ℕ) (n m : Node S) → SoundBelow o n → poison_node o c i n ≡ Some m → IsAlike n m
  here_alike law c i (Live l) m s e = none_some m e
  here_alike law c i (Ended l) m s e = none_some m e
  here_alike law c i (Dead l x) m s e = none_some m e
  here_alike law c i (Forked l ks) m s e =
      let below : o.handlers l - 1 < o.handlers l = innermost_below (o.base l) (o.handlers l) (law.base_least l s.sound) (law.base_most l s.sound) in
      subst (IsAlike (Forked l ks)) (cond_some (can_poison o l c i ks) (Forked l (one_poisoned o c (death (o.handlers l - 1)) i ks)) m e).1
      (forked_alike l ks (one_poisoned o c (death (o.handlers l - 1)) i ks) s (one_poisoned_alike law c (death (o.handlers l - 1)) i l s.number 0 ks below s.children))

  mutual
    poison_alike : LocalLaws o → (c : Channel) (i : ℕ) (q : List ℕ) (n m : Node S) → SoundBelow o n → poison o c i q n ≡ Some m → IsAlike n m
    poison_alike law c i [] n m s e = here_alike law c i n m s e
    poison_alike law c i (b ∷ q) (Live l) m s e = none_some m e
    poison_alike law c i (b ∷ q) (Ended l) m s e = none_some m e
    poison_alike law c i (b ∷ q) (Dead l x) m s e = none_some m e
    poison_alike law c i (b ∷ q) (Forked l ks) m s e =
        let r = above_some l (poison_child o c i b q ks) m e in
        subst (IsAlike (Forked l ks)) r.2 (forked_alike l ks r.0 s (poison_child_alike law c i b q l s.number 0 ks r.0 s.children r.1))

    poison_child_alike : LocalLaws o → (c : Channel) (i b : ℕ) (q : List ℕ) (l : S) (f j : ℕ) (ks js : Nodes S) → SoundChildren o l f j ks → poison_child o c i b q ks ≡ Some js → AreAlike l f j ks js
    poison_child_alike law c i b q l f j no_node js s e = none_some js e
    poison_child_alike law c i zero q l f j (node_and k ks) js s e =
        let r = before_some ks (poison o c i q k) js e in
        subst (AreAlike l f j (node_and k ks)) r.2 (first_alike l f j k r.0 ks ks s.0 (poison_alike law c i q k r.0 s.1 r.1) (nodes_same l f (j + 1) ks s.2))
    poison_child_alike law c i (suc b) q l f j (node_and k ks) js s e =
        let r = after_some k (poison_child o c i b q ks) js e in
        subst (AreAlike l f j (node_and k ks)) r.2 (first_alike l f j k k ks r.0 s.0 (node_same k s.1) (poison_child_alike law c i b q l f (j + 1) ks r.0 s.2 r.1))

  pub route_alike : LocalLaws o → (c : Channel) (r : Option (List ℕ)) (n m : Node S) → SoundBelow o n → poison_route o c n r ≡ Some m → IsAlike n m
  route_alike law c None n m s e = none_some m e
  route_alike law c (Some []) n m s e = none_some m e
  route_alike law c (Some (i ∷ q)) n m s e = poison_alike law c (last_branch i q) (to_fork i q) n m s e

  pub poison_stays : LocalLaws o → (c : Channel) (r : Option (List ℕ)) (n m : Node S) → SoundBelow o n → poison_route o c n r ≡ Some m → Stays o n m
  poison_stays law c r n m s e = let w = route_alike law c r n m s e in same_stays o n m w.below w.state_is w.all
