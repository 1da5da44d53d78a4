-- Who died with a number, before and after an event.
use Rattle.std.proofs.Common.{◌≡◌, ◌≤◌, ◌<◌, ℕ, ℤ, zero, suc, ◌-◌, true, false, Option, Some, None, List, [], ◌∷◌, ◌⊎◌, inl, inr, cond, ltb, refl, sym, ap, subst, ◌∙◌, arith, ltb-true, ltb-false}
use Rattle.shim_base.specs.Paths.{Channel}
use Rattle.shim_local.specs.Process.{Ops, ForkedView, Parted, Trapped, StopView, AtQuiet, AtNext, AtPut, AtFork, AtFinish, AtThrow, AtTrap}
use Rattle.shim_local.specs.Laws.{LocalLaws}
use Rattle.shim_semantics.specs.Nodes.{Node, Nodes, Live, Forked, Ended, Dead, Death, death, death_with, handed, no_node, node_and, state, states, all_done, prevailing_death, received, all_received}
use Rattle.shim_semantics.specs.Acts.{Acted, nothing, catch_logged, thrown, throwing, closed, parted, act_live, act_here}
use Rattle.shim_semantics.specs.Poison.{can_poison, poisoned, all_poisoned, one_poisoned, poison, poison_child, poison_route, to_fork, last_branch}
use Rattle.shim_semantics.specs.Places.{at, child_at, SoundBelow}
use Rattle.shim_semantics.proofs.HowMany.{clash}
use Rattle.shim_laws_schedules.proofs.Elsewhere.{closing}
use Rattle.shim_laws_schedules.proofs.Kills.{above_some, after_some}
use Rattle.shim_laws_schedules.proofs.DeadBelow.{dead_below, any_dead_below, done_none, done_some}
use Rattle.shim_laws_schedules.proofs.Numbers.{DiedWith, AnyDiedWith, Numbered, none_died, any_died_dead, prevailing_gives, prevailing_numbered}
use Rattle.shim_laws_schedules.proofs.DiedThrown.{died_thrown}
use Rattle.shim_laws_schedules.proofs.Forks.{same_fork}
use Rattle.shim_laws_schedules.proofs.NewDeaths.{joined_base}
use Rattle.shim_laws_schedules.proofs.MeetSpares.{received_fork}
use Rattle.shim_laws_schedules.proofs.PoisonSpares.{poisoned_fork}
use Rattle.shim_base.proofs.Facts.{some_same, none_some, cond_some}
use Rattle.shim_semantics.proofs.PoisonStays.{before_some}

not_zero : {A : Type 0} (x : ℕ) → 1 ≤ x → 0 ≡ x → A
not_zero x h e = absurd (omega (arith, h, e))

next_one : (x : ℕ) → x < suc x
next_one x = omega arith

as_it : (a x : ℕ) → a < suc x → x ≤ a → a ≡ x
as_it a x e f = omega arith

below_base : (a x b c : ℕ) → a ≡ x → x < b → c ≡ b → a < c
below_base a x b c e f g = omega arith

-- the process lives and stands at a throw of the label with the number
pub record ThrowsHere {S : Type 0} (o : Ops S) (m : Node S) (x : ℕ) (v : ℤ) : Type 0 where
  pub thrower : S
  pub live : m ≡ Live thrower
  pub throws : o.stop thrower ≡ AtThrow x
  pub gives : o.number thrower ≡ Some v

module _ {S : Type 0} (o : Ops S) where
  -- ---- what a process does by itself

  thrown_died : (l : S) (d : Death) (x : ℕ) (v : ℤ) → DiedWith x v (thrown o l d).node → (d.label ≡ x) × (d.given ≡ Some v)
  thrown_died l d x v h =
      let dies : Acted S = record { node = Dead l d; effects = nothing } in
      let goes_on : Acted S = record { node = Live (o.unwind l d.label (handed d.given)); effects = catch_logged (o.handler l d.label) } in
      elim (ltb d.label (o.base l)) as (λ b. DiedWith x v (cond b dies goes_on).node → (d.label ≡ x) × (d.given ≡ Some v)) [ true ↦ λ z. z | false ↦ λ z. absurd z ] h

  parted_died : (r : ForkedView S) (x : ℕ) (v : ℤ) → DiedWith x v (parted r) → ⊥
  parted_died (Parted l ks) x v h = none_died x v ks h
  parted_died (Trapped l) x v h = h

  throwing_died : (l : S) (y : ℕ) (r : Option ℤ) (x : ℕ) (v : ℤ) → o.stop l ≡ AtThrow y → o.number l ≡ r → DiedWith x v (throwing o l y r).node → ThrowsHere o (Live l) x v
  throwing_died l y None x v at is h = absurd h
  throwing_died l y (Some u) x v at is h =
      let w = thrown_died l (death_with y u) x v h in
      record { thrower = l; live = refl; throws = at ∙ ap AtThrow w.0; gives = is ∙ w.1 }

  live_died : (l : S) (s : StopView) (a : Acted S) (x : ℕ) (v : ℤ) → o.stop l ≡ s → act_live o l s ≡ Some a → 1 ≤ x → DiedWith x v a.node → ThrowsHere o (Live l) x v
  live_died l AtQuiet a x v at e low h = absurd (subst (λ z. DiedWith x v z.node) (sym (some_same _ a e)) h)
  live_died l AtPut a x v at e low h = absurd (subst (λ z. DiedWith x v z.node) (sym (some_same _ a e)) h)
  live_died l AtFork a x v at e low h = absurd (parted_died (o.fork l) x v (subst (λ z. DiedWith x v z.node) (sym (some_same _ a e)) h))
  live_died l AtFinish a x v at e low h = absurd (subst (λ z. DiedWith x v z.node) (sym (some_same _ a e)) h)
  live_died l (AtNext c) a x v at e low h = none_some a e
  live_died l (AtThrow y) a x v at e low h = throwing_died l y (o.number l) x v at refl (subst (λ z. DiedWith x v z.node) (sym (some_same (throwing o l y (o.number l)) a e)) h)
  live_died l (AtTrap kind line) a x v at e low h =
      let w : (0 ≡ x) × (Some _ ≡ Some v) = subst (λ z. DiedWith x v z.node) (sym (some_same _ a e)) h in
      not_zero x low w.0

  closed_died : (l : S) (ks : Nodes S) (r : Option Death) (x : ℕ) (v : ℤ) → prevailing_death ks ≡ r → DiedWith x v (closed o l (states ks) r).node → AnyDiedWith x v ks
  closed_died l ks None x v e h = absurd h
  closed_died l ks (Some d) x v e h =
      let w = thrown_died (o.join l (states ks) false) d x v h in
      subst (λ z. AnyDiedWith z v ks) w.0 (prevailing_gives ks d v e w.1)

  -- who died so of what it did had died so below it, or threw
  pub act_died : (m : Node S) (a : Acted S) (x : ℕ) (v : ℤ) → act_here o m ≡ Some a → 1 ≤ x → DiedWith x v a.node → DiedWith x v m ⊎ ThrowsHere o m x v
  act_died (Live l) a x v e low h = inr (live_died l (o.stop l) a x v refl e low h)
  act_died (Ended l) a x v e low h = none_some a e
  act_died (Dead l y) a x v e low h = none_some a e
  act_died (Forked l ks) a x v e low h =
      let w = closing o l ks a e in
      inl (closed_died l ks (prevailing_death ks) x v refl (subst (λ z. DiedWith x v z.node) (sym w.1) h))

  closed_numbered : LocalLaws o → (l : S) (ks : Nodes S) (r : Option Death) (x : ℕ) (v : ℤ) → SoundBelow o (Forked l ks) → all_done ks ≡ true → prevailing_death ks ≡ r → x < o.base l → any_dead_below x ks ≡ false → AnyDiedWith x v ks → Numbered x (closed o l (states ks) r).node
  closed_numbered law l ks None x v s d e low least h = clash (any_dead_below (suc x) ks) (any_died_dead x v (suc x) ks (next_one x) h) (done_none (suc x) ks d e)
  closed_numbered law l ks (Some y) x v s d e low least h =
      let j : S = o.join l (states ks) false in
      let under : y.label < suc x = ltb-true y.label (suc x) (sym (done_some (suc x) y ks d e) ∙ any_died_dead x v (suc x) ks (next_one x) h) in
      let over : x ≤ y.label = ltb-false y.label x (sym (done_some x y ks d e) ∙ least) in
      let is = as_it y.label x under over in
      let w = prevailing_numbered ks x v y d h e is in
      (w.0, died_thrown o j y x w.0 (below_base y.label x (o.base l) (o.base j) is low (joined_base o law l ks s)) is w.1)

  -- where one below had died of the least label with a number, who closes dies of it with one
  pub act_numbered : LocalLaws o → (m : Node S) (a : Acted S) (x : ℕ) (v : ℤ) → SoundBelow o m → act_here o m ≡ Some a → x < o.base (state m) → dead_below x m ≡ false → DiedWith x v m → Numbered x a.node
  act_numbered law (Live l) a x v s e low least h = absurd h
  act_numbered law (Ended l) a x v s e low least h = none_some a e
  act_numbered law (Dead l y) a x v s e low least h = none_some a e
  act_numbered law (Forked l ks) a x v s e low least h =
      let w = closing o l ks a e in
      subst (λ z. Numbered x z.node) w.1 (closed_numbered law l ks (prevailing_death ks) x v s w.0 refl low least h)

  -- ---- a poison and a rendezvous

  -- the same died with a number below the fork before and after
  pub record Alike (r : Option (Node S)) (l : S) (ks : Nodes S) : Type 0 where
    pub children : Nodes S
    pub there : r ≡ Some (Forked l children)
    pub back : (x : ℕ) (v : ℤ) → AnyDiedWith x v ks → AnyDiedWith x v children
    pub forth : (x : ℕ) (v : ℤ) → AnyDiedWith x v children → AnyDiedWith x v ks

  mutual
    poisoned_back : (c : Channel) (h x : ℕ) (v : ℤ) (n : Node S) → DiedWith x v (poisoned o c (death h) n) → DiedWith x v n
    poisoned_back c h x v (Live l) d =
        elim (o.shares l c) as (λ b. DiedWith x v (cond b (Dead l (death h)) (Live l)) → ⊥) [ true ↦ λ z. none_some v z.1 | false ↦ λ z. z ] d
    poisoned_back c h x v (Ended l) d = d
    poisoned_back c h x v (Dead l y) d = d
    poisoned_back c h x v (Forked l ks) d = all_poisoned_back c h x v ks d

    all_poisoned_back : (c : Channel) (h x : ℕ) (v : ℤ) (ks : Nodes S) → AnyDiedWith x v (all_poisoned o c (death h) ks) → AnyDiedWith x v ks
    all_poisoned_back c h x v no_node d = d
    all_poisoned_back c h x v (node_and k ks) d = elim d [ inl y ↦ inl (poisoned_back c h x v k y) | inr y ↦ inr (all_poisoned_back c h x v ks y) ]

  mutual
    poisoned_forth : (c : Channel) (h x : ℕ) (v : ℤ) (n : Node S) → DiedWith x v n → DiedWith x v (poisoned o c (death h) n)
    poisoned_forth c h x v (Live l) d = absurd d
    poisoned_forth c h x v (Ended l) d = d
    poisoned_forth c h x v (Dead l y) d = d
    poisoned_forth c h x v (Forked l ks) d = all_poisoned_forth c h x v ks d

    all_poisoned_forth : (c : Channel) (h x : ℕ) (v : ℤ) (ks : Nodes S) → AnyDiedWith x v ks → AnyDiedWith x v (all_poisoned o c (death h) ks)
    all_poisoned_forth c h x v no_node d = d
    all_poisoned_forth c h x v (node_and k ks) d = elim d [ inl y ↦ inl (poisoned_forth c h x v k y) | inr y ↦ inr (all_poisoned_forth c h x v ks y) ]

  one_back : (c : Channel) (h i x : ℕ) (v : ℤ) (ks : Nodes S) → AnyDiedWith x v (one_poisoned o c (death h) i ks) → AnyDiedWith x v ks
  one_back c h i x v no_node d = d
  one_back c h zero x v (node_and k ks) d = elim d [ inl y ↦ inl (poisoned_back c h x v k y) | inr y ↦ inr y ]
  one_back c h (suc i) x v (node_and k ks) d = elim d [ inl y ↦ inl y | inr y ↦ inr (one_back c h i x v ks y) ]

  one_forth : (c : Channel) (h i x : ℕ) (v : ℤ) (ks : Nodes S) → AnyDiedWith x v ks → AnyDiedWith x v (one_poisoned o c (death h) i ks)
  one_forth c h i x v no_node d = d
  one_forth c h zero x v (node_and k ks) d = elim d [ inl y ↦ inl (poisoned_forth c h x v k y) | inr y ↦ inr y ]
  one_forth c h (suc i) x v (node_and k ks) d = elim d [ inl y ↦ inl y | inr y ↦ inr (one_forth c h i x v ks y) ]

  mutual
    poison_back : (c : Channel) (i : ℕ) (p : List ℕ) (x : ℕ) (v : ℤ) (n m : Node S) → poison o c i p n ≡ Some m → DiedWith x v m → DiedWith x v n
    poison_back c i [] x v (Live l) m e d = none_some m e
    poison_back c i [] x v (Ended l) m e d = none_some m e
    poison_back c i [] x v (Dead l y) m e d = none_some m e
    poison_back c i [] x v (Forked l ks) m e d =
        let w = cond_some (can_poison o l c i ks) (Forked l (one_poisoned o c (death (o.handlers l - 1)) i ks)) m e in
        one_back c (o.handlers l - 1) i x v ks (subst (DiedWith x v) (sym w.1) d)
    poison_back c i (b ∷ p) x v (Live l) m e d = none_some m e
    poison_back c i (b ∷ p) x v (Ended l) m e d = none_some m e
    poison_back c i (b ∷ p) x v (Dead l y) m e d = none_some m e
    poison_back c i (b ∷ p) x v (Forked l ks) m e d =
        let r = above_some l (poison_child o c i b p ks) m e in
        poison_back_in c i b p x v ks r.0 r.1 (subst (DiedWith x v) (sym r.2) d)

    poison_back_in : (c : Channel) (i b : ℕ) (p : List ℕ) (x : ℕ) (v : ℤ) (ks js : Nodes S) → poison_child o c i b p ks ≡ Some js → AnyDiedWith x v js → AnyDiedWith x v ks
    poison_back_in c i b p x v no_node js e d = none_some js e
    poison_back_in c i zero p x v (node_and k ks) js e d =
        let r = before_some ks (poison o c i p k) js e in
        elim (subst (AnyDiedWith x v) (sym r.2) d) [ inl y ↦ inl (poison_back c i p x v k r.0 r.1 y) | inr y ↦ inr y ]
    poison_back_in c i (suc b) p x v (node_and k ks) js e d =
        let r = after_some k (poison_child o c i b p ks) js e in
        elim (subst (AnyDiedWith x v) (sym r.2) d) [ inl y ↦ inl y | inr y ↦ inr (poison_back_in c i b p x v ks r.0 r.1 y) ]

  mutual
    poison_forth : (c : Channel) (i : ℕ) (p : List ℕ) (x : ℕ) (v : ℤ) (n m : Node S) → poison o c i p n ≡ Some m → DiedWith x v n → DiedWith x v m
    poison_forth c i [] x v (Live l) m e d = none_some m e
    poison_forth c i [] x v (Ended l) m e d = none_some m e
    poison_forth c i [] x v (Dead l y) m e d = none_some m e
    poison_forth c i [] x v (Forked l ks) m e d =
        let w = cond_some (can_poison o l c i ks) (Forked l (one_poisoned o c (death (o.handlers l - 1)) i ks)) m e in
        subst (DiedWith x v) w.1 (one_forth c (o.handlers l - 1) i x v ks d)
    poison_forth c i (b ∷ p) x v (Live l) m e d = none_some m e
    poison_forth c i (b ∷ p) x v (Ended l) m e d = none_some m e
    poison_forth c i (b ∷ p) x v (Dead l y) m e d = none_some m e
    poison_forth c i (b ∷ p) x v (Forked l ks) m e d =
        let r = above_some l (poison_child o c i b p ks) m e in
        subst (DiedWith x v) r.2 (poison_forth_in c i b p x v ks r.0 r.1 d)

    poison_forth_in : (c : Channel) (i b : ℕ) (p : List ℕ) (x : ℕ) (v : ℤ) (ks js : Nodes S) → poison_child o c i b p ks ≡ Some js → AnyDiedWith x v ks → AnyDiedWith x v js
    poison_forth_in c i b p x v no_node js e d = none_some js e
    poison_forth_in c i zero p x v (node_and k ks) js e d =
        let r = before_some ks (poison o c i p k) js e in
        subst (AnyDiedWith x v) r.2 (elim d [ inl y ↦ inl (poison_forth c i p x v k r.0 r.1 y) | inr y ↦ inr y ])
    poison_forth_in c i (suc b) p x v (node_and k ks) js e d =
        let r = after_some k (poison_child o c i b p ks) js e in
        subst (AnyDiedWith x v) r.2 (elim d [ inl y ↦ inl y | inr y ↦ inr (poison_forth_in c i b p x v ks r.0 r.1 y) ])

  same_alike : (r : Option (Node S)) (l : S) (ks : Nodes S) → r ≡ Some (Forked l ks) → Alike r l ks
  same_alike r l ks e = record { children = ks; there = e; back = λ x v d. d; forth = λ x v d. d }

  -- at the fork whose children these were and are
  top_alike : (k l : S) (js us ks : Nodes S) → ((x : ℕ) (v : ℤ) → AnyDiedWith x v us → AnyDiedWith x v js) → ((x : ℕ) (v : ℤ) → AnyDiedWith x v js → AnyDiedWith x v us) → Some (Forked k us) ≡ Some (Forked l ks) → Alike (Some (Forked k js)) l ks
  top_alike k l js us ks back forth e =
      let w = same_fork k l us ks e in
      record { children = js; there = ap (λ z. Some (Forked z js)) w.0; back = λ x v d. back x v (subst (AnyDiedWith x v) (sym w.1) d); forth = λ x v d. subst (AnyDiedWith x v) w.1 (forth x v d) }

  poisoned_alike : (c : Channel) (h : ℕ) (q : List ℕ) (n : Node S) (l : S) (ks : Nodes S) → at q (poisoned o c (death h) n) ≡ Some (Forked l ks) → Alike (at q n) l ks
  poisoned_alike c h q n l ks e =
      let w = poisoned_fork o c (death h) q n l ks e in
      record { children = w.children; there = w.there; back = λ x v d. all_poisoned_back c h x v w.children (subst (AnyDiedWith x v) (sym w.is) d); forth = λ x v d. subst (AnyDiedWith x v) w.is (all_poisoned_forth c h x v w.children d) }

  one_alike : (c : Channel) (h i j : ℕ) (q : List ℕ) (ns : Nodes S) (l : S) (ks : Nodes S) → child_at j q (one_poisoned o c (death h) i ns) ≡ Some (Forked l ks) → Alike (child_at j q ns) l ks
  one_alike c h i j q no_node l ks e = none_some (Forked l ks) e
  one_alike c h zero zero q (node_and k ns) l ks e = poisoned_alike c h q k l ks e
  one_alike c h zero (suc j) q (node_and k ns) l ks e = same_alike (child_at j q ns) l ks e
  one_alike c h (suc i) zero q (node_and k ns) l ks e = same_alike (at q k) l ks e
  one_alike c h (suc i) (suc j) q (node_and k ns) l ks e = one_alike c h i j q ns l ks e

  here_alike : (c : Channel) (i : ℕ) (q : List ℕ) (k : S) (ns : Nodes S) (l : S) (ks : Nodes S) → at q (Forked k (one_poisoned o c (death (o.handlers k - 1)) i ns)) ≡ Some (Forked l ks) → Alike (at q (Forked k ns)) l ks
  here_alike c i [] k ns l ks e =
      top_alike k l ns (one_poisoned o c (death (o.handlers k - 1)) i ns) ks (λ x v d. one_back c (o.handlers k - 1) i x v ns d) (λ x v d. one_forth c (o.handlers k - 1) i x v ns d) e
  here_alike c i (j ∷ q) k ns l ks e = one_alike c (o.handlers k - 1) i j q ns l ks e

  mutual
    poison_alike : (c : Channel) (i : ℕ) (p q : List ℕ) (n m : Node S) (l : S) (ks : Nodes S) → poison o c i p n ≡ Some m → at q m ≡ Some (Forked l ks) → Alike (at q n) l ks
    poison_alike c i [] q (Live k) m l ks h e = none_some m h
    poison_alike c i [] q (Ended k) m l ks h e = none_some m h
    poison_alike c i [] q (Dead k y) m l ks h e = none_some m h
    poison_alike c i [] q (Forked k ns) m l ks h e =
        let w = cond_some (can_poison o k c i ns) (Forked k (one_poisoned o c (death (o.handlers k - 1)) i ns)) m h in
        here_alike c i q k ns l ks (ap (at q) w.1 ∙ e)
    poison_alike c i (b ∷ p) q (Live k) m l ks h e = none_some m h
    poison_alike c i (b ∷ p) q (Ended k) m l ks h e = none_some m h
    poison_alike c i (b ∷ p) q (Dead k y) m l ks h e = none_some m h
    poison_alike c i (b ∷ p) [] (Forked k ns) m l ks h e =
        let r = above_some k (poison_child o c i b p ns) m h in
        top_alike k l ns r.0 ks (λ x v d. poison_back_in c i b p x v ns r.0 r.1 d) (λ x v d. poison_forth_in c i b p x v ns r.0 r.1 d) (ap (at []) r.2 ∙ e)
    poison_alike c i (b ∷ p) (j ∷ q) (Forked k ns) m l ks h e =
        let r = above_some k (poison_child o c i b p ns) m h in
        poison_alike_in c i b p j q ns r.0 l ks r.1 (ap (at (j ∷ q)) r.2 ∙ e)

    poison_alike_in : (c : Channel) (i b : ℕ) (p : List ℕ) (j : ℕ) (q : List ℕ) (ns js : Nodes S) (l : S) (ks : Nodes S) → poison_child o c i b p ns ≡ Some js → child_at j q js ≡ Some (Forked l ks) → Alike (child_at j q ns) l ks
    poison_alike_in c i b p j q no_node js l ks h e = none_some js h
    poison_alike_in c i zero p zero q (node_and n ns) js l ks h e = let r = before_some ns (poison o c i p n) js h in poison_alike c i p q n r.0 l ks r.1 (ap (child_at zero q) r.2 ∙ e)
    poison_alike_in c i zero p (suc j) q (node_and n ns) js l ks h e = let r = before_some ns (poison o c i p n) js h in same_alike (child_at j q ns) l ks (ap (child_at (suc j) q) r.2 ∙ e)
    poison_alike_in c i (suc b) p zero q (node_and n ns) js l ks h e = let r = after_some n (poison_child o c i b p ns) js h in same_alike (at q n) l ks (ap (child_at zero q) r.2 ∙ e)
    poison_alike_in c i (suc b) p (suc j) q (node_and n ns) js l ks h e = let r = after_some n (poison_child o c i b p ns) js h in poison_alike_in c i b p j q ns r.0 l ks r.1 (ap (child_at (suc j) q) r.2 ∙ e)

  pub route_alike : (c : Channel) (r : Option (List ℕ)) (q : List ℕ) (n m : Node S) (l : S) (ks : Nodes S) → poison_route o c n r ≡ Some m → at q m ≡ Some (Forked l ks) → Alike (at q n) l ks
  route_alike c None q n m l ks h e = none_some m h
  route_alike c (Some []) q n m l ks h e = none_some m h
  route_alike c (Some (i ∷ p)) q n m l ks h e = poison_alike c (last_branch i p) (to_fork i p) q n m l ks h e

  mutual
    received_back : (c : Channel) (u : ℤ) (x : ℕ) (v : ℤ) (n : Node S) → DiedWith x v (received o c u n) → DiedWith x v n
    received_back c u x v (Live l) d = d
    received_back c u x v (Ended l) d = d
    received_back c u x v (Dead l y) d = d
    received_back c u x v (Forked l ks) d = all_received_back c u x v ks d

    all_received_back : (c : Channel) (u : ℤ) (x : ℕ) (v : ℤ) (ks : Nodes S) → AnyDiedWith x v (all_received o c u ks) → AnyDiedWith x v ks
    all_received_back c u x v no_node d = d
    all_received_back c u x v (node_and k ks) d = elim d [ inl y ↦ inl (received_back c u x v k y) | inr y ↦ inr (all_received_back c u x v ks y) ]

  mutual
    received_forth : (c : Channel) (u : ℤ) (x : ℕ) (v : ℤ) (n : Node S) → DiedWith x v n → DiedWith x v (received o c u n)
    received_forth c u x v (Live l) d = d
    received_forth c u x v (Ended l) d = d
    received_forth c u x v (Dead l y) d = d
    received_forth c u x v (Forked l ks) d = all_received_forth c u x v ks d

    all_received_forth : (c : Channel) (u : ℤ) (x : ℕ) (v : ℤ) (ks : Nodes S) → AnyDiedWith x v ks → AnyDiedWith x v (all_received o c u ks)
    all_received_forth c u x v no_node d = d
    all_received_forth c u x v (node_and k ks) d = elim d [ inl y ↦ inl (received_forth c u x v k y) | inr y ↦ inr (all_received_forth c u x v ks y) ]

  pub meeting_alike : (c : Channel) (u : ℤ) (q : List ℕ) (n : Node S) (l : S) (ks : Nodes S) → at q (received o c u n) ≡ Some (Forked l ks) → Alike (at q n) l ks
  meeting_alike c u q n l ks e =
      let w = received_fork o c u q n l ks e in
      record { children = w.children; there = w.there; back = λ x v d. all_received_back c u x v w.children (subst (AnyDiedWith x v) (sym w.is) d); forth = λ x v d. subst (AnyDiedWith x v) w.is (all_received_forth c u x v w.children d) }
