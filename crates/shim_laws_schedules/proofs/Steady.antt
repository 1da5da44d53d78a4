-- The node of a child has its path still after an event elsewhere.
use Rattle.std.proofs.Common.{◌≡◌, ℕ, zero, suc, ◌-◌, true, false, Option, Some, None, List, [], ◌∷◌, cond, refl, sym, ap, ◌∙◌, ltb}
use Rattle.shim_base.specs.Paths.{Channel}
use Rattle.shim_local.specs.Process.{Ops}
use Rattle.shim_semantics.specs.Nodes.{handed, Node, Nodes, Live, Forked, Ended, Dead, Death, death, no_node, node_and, state, states, prevailing_death}
use Rattle.shim_semantics.specs.Acts.{Acted, act_here, thrown, closed, nothing, catch_logged}
use Rattle.shim_semantics.specs.Poison.{poisoned, one_poisoned, can_poison, poison, poison_child}
use Rattle.shim_semantics.specs.Places.{at, child_at}
use Rattle.shim_semantics.proofs.ReplacedNodes.{put, put_child}
use Rattle.shim_laws_schedules.proofs.Elsewhere.{closing}
use Rattle.shim_laws_schedules.proofs.Poisons.{poisoned_at}
use Rattle.shim_laws_schedules.proofs.Kills.{above_some, after_some}
use Rattle.shim_base.proofs.Facts.{some_same, none_some, cond_some}
use Rattle.shim_semantics.proofs.PoisonStays.{before_some}

module _ {S : Type 0} (o : Ops S) where
  -- ---- an act

  -- below a process whose fork closed there is nobody
  thrown_alone : (l : S) (x : Death) (b : ℕ) (w : List ℕ) → at (b ∷ w) (thrown o l x).node ≡ None
  thrown_alone l x b w =
      let dies : Acted S = record { node = Dead l x; effects = nothing } in
      let goes_on : Acted S = record { node = Live (o.unwind l x.label (handed x.given)); effects = catch_logged (o.handler l x.label) } in
      elim (ltb x.label (o.base l)) as (λ z. at (b ∷ w) (cond z dies goes_on).node ≡ None) [ true ↦ refl | false ↦ refl ]

  closed_alone : (l : S) (ks : List S) (r : Option Death) (b : ℕ) (w : List ℕ) → at (b ∷ w) (closed o l ks r).node ≡ None
  closed_alone l ks None b w = refl
  closed_alone l ks (Some x) b w = thrown_alone (o.join l ks false) x b w

  -- who stands below one that acts doesn't stand there then
  none_left : {A : Type 0} (m k j : Node S) (a : Acted S) (b : ℕ) (w : List ℕ) → act_here o m ≡ Some a → at (b ∷ w) m ≡ Some k → at (b ∷ w) a.node ≡ Some j → A
  none_left (Live l) k j a b w h e f = none_some k e
  none_left (Ended l) k j a b w h e f = none_some k e
  none_left (Dead l x) k j a b w h e f = none_some k e
  none_left (Forked l ks) k j a b w h e f = none_some j (sym (closed_alone l (states ks) (prevailing_death ks) b w) ∙ (ap (λ z. at (b ∷ w) z.node) (closing o l ks a h).1 ∙ f))

  mutual
    pub act_path : (q w : List ℕ) (n m k j : Node S) (a : Acted S) → at q n ≡ Some m → act_here o m ≡ Some a → o.path (state a.node) ≡ o.path (state m) → at w n ≡ Some k → at w (put q a.node n) ≡ Some j → o.path (state j) ≡ o.path (state k)
    act_path [] [] n m k j a e h p f g = ap (λ z. o.path (state z)) (sym (some_same a.node j g)) ∙ (p ∙ ap (λ z. o.path (state z)) (sym (some_same n m e) ∙ some_same n k f))
    act_path [] (b ∷ w) n m k j a e h p f g = none_left m k j a b w h (ap (at (b ∷ w)) (sym (some_same n m e)) ∙ f) g
    act_path (i ∷ q) w (Live l) m k j a e h p f g = none_some m e
    act_path (i ∷ q) w (Ended l) m k j a e h p f g = none_some m e
    act_path (i ∷ q) w (Dead l x) m k j a e h p f g = none_some m e
    act_path (i ∷ q) [] (Forked l ks) m k j a e h p f g = ap (λ z. o.path (state z)) (sym (some_same (Forked l (put_child i q a.node ks)) j g)) ∙ ap (λ z. o.path (state z)) (some_same (Forked l ks) k f)
    act_path (i ∷ q) (b ∷ w) (Forked l ks) m k j a e h p f g = act_path_in i q b w ks m k j a e h p f g

    act_path_in : (i : ℕ) (q : List ℕ) (b : ℕ) (w : List ℕ) (ns : Nodes S) (m k j : Node S) (a : Acted S) → child_at i q ns ≡ Some m → act_here o m ≡ Some a → o.path (state a.node) ≡ o.path (state m) → child_at b w ns ≡ Some k → child_at b w (put_child i q a.node ns) ≡ Some j → o.path (state j) ≡ o.path (state k)
    act_path_in i q b w no_node m k j a e h p f g = none_some m e
    act_path_in zero q zero w (node_and n ns) m k j a e h p f g = act_path q w n m k j a e h p f g
    act_path_in zero q (suc b) w (node_and n ns) m k j a e h p f g = ap (λ z. o.path (state z)) (some_same j k (sym g ∙ f))
    act_path_in (suc i) q zero w (node_and n ns) m k j a e h p f g = ap (λ z. o.path (state z)) (some_same j k (sym g ∙ f))
    act_path_in (suc i) q (suc b) w (node_and n ns) m k j a e h p f g = act_path_in i q b w ns m k j a e h p f g

  -- ---- a poison

  poisoned_state : (c : Channel) (x : Death) (k : Node S) → state (poisoned o c x k) ≡ state k
  poisoned_state c x (Live l) = elim (o.shares l c) as (λ b. state (cond b (Dead l x) (Live l)) ≡ l) [ true ↦ refl | false ↦ refl ]
  poisoned_state c x (Forked l ks) = refl
  poisoned_state c x (Ended l) = refl
  poisoned_state c x (Dead l y) = refl

  one_state : (c : Channel) (x : Death) (i b : ℕ) (w : List ℕ) (ks : Nodes S) (k : Node S) → child_at b w ks ≡ Some k → (j : Node S) × (child_at b w (one_poisoned o c x i ks) ≡ Some j) × (state j ≡ state k)
  one_state c x i b w no_node k e = none_some k e
  one_state c x zero zero w (node_and n ns) k e = (poisoned o c x k, poisoned_at o c x w n k e, poisoned_state c x k)
  one_state c x zero (suc b) w (node_and n ns) k e = (k, e, refl)
  one_state c x (suc i) zero w (node_and n ns) k e = (k, e, refl)
  one_state c x (suc i) (suc b) w (node_and n ns) k e = one_state c x i b w ns k e

  mutual
    pub poison_state : (c : Channel) (i : ℕ) (q w : List ℕ) (n m k : Node S) → poison o c i q n ≡ Some m → at w n ≡ Some k → (j : Node S) × (at w m ≡ Some j) × (state j ≡ state k)
    poison_state c i [] w (Live l) m k e f = none_some m e
    poison_state c i [] w (Ended l) m k e f = none_some m e
    poison_state c i [] w (Dead l x) m k e f = none_some m e
    poison_state c i (d ∷ q) w (Live l) m k e f = none_some m e
    poison_state c i (d ∷ q) w (Ended l) m k e f = none_some m e
    poison_state c i (d ∷ q) w (Dead l x) m k e f = none_some m e
    poison_state c i [] [] (Forked l ks) m k e f =
        let y = cond_some (can_poison o l c i ks) (Forked l (one_poisoned o c (death (o.handlers l - 1)) i ks)) m e in
        (m, refl, ap state (sym y.1) ∙ ap state (some_same (Forked l ks) k f))
    poison_state c i [] (b ∷ w) (Forked l ks) m k e f =
        let y = cond_some (can_poison o l c i ks) (Forked l (one_poisoned o c (death (o.handlers l - 1)) i ks)) m e in
        let z = one_state c (death (o.handlers l - 1)) i b w ks k f in
        (z.0, ap (at (b ∷ w)) (sym y.1) ∙ z.1, z.2)
    poison_state c i (d ∷ q) [] (Forked l ks) m k e f =
        let y = above_some l (poison_child o c i d q ks) m e in
        (m, refl, ap state (sym y.2) ∙ ap state (some_same (Forked l ks) k f))
    poison_state c i (d ∷ q) (b ∷ w) (Forked l ks) m k e f =
        let y = above_some l (poison_child o c i d q ks) m e in
        let z = poison_state_in c i d q b w ks y.0 k y.1 f in
        (z.0, ap (at (b ∷ w)) (sym y.2) ∙ z.1, z.2)

    poison_state_in : (c : Channel) (i d : ℕ) (q : List ℕ) (b : ℕ) (w : List ℕ) (ns ms : Nodes S) (k : Node S) → poison_child o c i d q ns ≡ Some ms → child_at b w ns ≡ Some k → (j : Node S) × (child_at b w ms ≡ Some j) × (state j ≡ state k)
    poison_state_in c i d q b w no_node ms k e f = none_some ms e
    poison_state_in c i zero q zero w (node_and n ns) ms k e f =
        let y = before_some ns (poison o c i q n) ms e in
        let z = poison_state c i q w n y.0 k y.1 f in
        (z.0, ap (child_at zero w) (sym y.2) ∙ z.1, z.2)
    poison_state_in c i zero q (suc b) w (node_and n ns) ms k e f = let y = before_some ns (poison o c i q n) ms e in (k, ap (child_at (suc b) w) (sym y.2) ∙ f, refl)
    poison_state_in c i (suc d) q zero w (node_and n ns) ms k e f = let y = after_some n (poison_child o c i d q ns) ms e in (k, ap (child_at zero w) (sym y.2) ∙ f, refl)
    poison_state_in c i (suc d) q (suc b) w (node_and n ns) ms k e f =
        let y = after_some n (poison_child o c i d q ns) ms e in
        let z = poison_state_in c i d q b w ns y.0 k y.1 f in
        (z.0, ap (child_at (suc b) w) (sym y.2) ∙ z.1, z.2)
