-- Where a rendezvous is enabled, whatever a process does by itself has nothing to do with its channel.
use Rattle.std.proofs.Common.{◌≡◌, ℕ, zero, suc, true, false, Some, List, [], ◌∷◌, ◌++◌, ◌&&◌, ◌||◌, inl, inr, not, refl, sym, ap, ◌∙◌}
use Rattle.std.proofs.lemmas.List.{append_assoc, append_cancel_left, append-nil}
use Rattle.shim_base.specs.Paths.{Path, Channel}
use Rattle.shim_local.specs.Process.{Ops, StopView, AtQuiet, AtNext, AtPut, AtFork, AtFinish, AtThrow, AtTrap}
use Rattle.shim_local.specs.Laws.{LocalLaws}
use Rattle.shim_semantics.specs.Nodes.{Node, Nodes, Live, Forked, Ended, Dead, no_node, node_and, state, states, goes, all_done, prevailing_death, any_sharer, is_next}
use Rattle.shim_semantics.specs.Acts.{Acted, act_here, act_live, closed}
use Rattle.shim_semantics.specs.Places.{at, child_at, branches, SoundBelow}
use Rattle.shim_semantics.proofs.HowMany.{clash}
use Rattle.shim_semantics.proofs.Routes.{at_path}
use Rattle.shim_semantics.proofs.Replaced.{sound_at}
use Rattle.shim_semantics.proofs.ReplacedNodes.{put}
use Rattle.shim_semantics.proofs.SoundEvents.{here_keeps}
use Rattle.shim_laws_schedules.specs.Waiting.{all_wait, all_wait_below, is_unshared}
use Rattle.shim_laws_schedules.proofs.AllWait.{Alike, alike_put}
use Rattle.shim_laws_schedules.proofs.Unshared.{is_unshared_alike}
use Rattle.shim_laws_schedules.proofs.Homes.{Outside, ReadyHome, unshared_is_unshared, ready_goes}
use Rattle.shim_base.proofs.Facts.{some_same, none_some, first_holds, second_holds, either_holds, cond_some, true_or_false, not_false, or_false}

-- ---- below one that acts nobody goes

done_at : {S : Type 0} (q : List ℕ) (k m : Node S) → goes k ≡ false → at q k ≡ Some m → goes m ≡ false
done_at [] k m g e = ap goes (sym (some_same k m e)) ∙ g
done_at (i ∷ q) (Live l) m g e = none_some m e
done_at (i ∷ q) (Forked l ks) m g e = absurd cc
done_at (i ∷ q) (Ended l) m g e = none_some m e
done_at (i ∷ q) (Dead l x) m g e = none_some m e

done_below : {S : Type 0} (i : ℕ) (q : List ℕ) (ks : Nodes S) (m : Node S) → all_done ks ≡ true → child_at i q ks ≡ Some m → goes m ≡ false
done_below i q no_node m h e = none_some m e
done_below zero q (node_and k ks) m h e = done_at q k m (not_false (goes k) (first_holds (not (goes k)) (all_done ks) h)) e
done_below (suc i) q (node_and k ks) m h e = done_below i q ks m (second_holds (not (goes k)) (all_done ks) h) e

-- ---- further along a path

branches_append : (p q : Path) → branches (p ++ q) ≡ branches p ++ branches q
branches_append [] q = refl
branches_append (x ∷ p) q = ap (λ z. x.1 ∷ z) (branches_append p q)

mutual
  pub at_further : {S : Type 0} (p x : List ℕ) (n m k : Node S) → at p n ≡ Some m → at (p ++ x) n ≡ Some k → at x m ≡ Some k
  at_further [] x n m k e f = ap (at x) (sym (some_same n m e)) ∙ f
  at_further (i ∷ p) x (Live l) m k e f = none_some m e
  at_further (i ∷ p) x (Ended l) m k e f = none_some m e
  at_further (i ∷ p) x (Dead l y) m k e f = none_some m e
  at_further (i ∷ p) x (Forked l ks) m k e f = further_in i p x ks m k e f

  further_in : {S : Type 0} (i : ℕ) (p x : List ℕ) (ks : Nodes S) (m k : Node S) → child_at i p ks ≡ Some m → child_at i (p ++ x) ks ≡ Some k → at x m ≡ Some k
  further_in i p x no_node m k e f = none_some m e
  further_in zero p x (node_and n ks) m k e f = at_further p x n m k e f
  further_in (suc i) p x (node_and n ks) m k e f = further_in i p x ks m k e f

module _ {S : Type 0} (o : Ops S) where
  -- what a close asks, and leaves
  pub closing : (l : S) (ks : Nodes S) (a : Acted S) → act_here o (Forked l ks) ≡ Some a → (all_done ks ≡ true) × (closed o l (states ks) (prevailing_death ks) ≡ a)
  closing l ks a e = cond_some (all_done ks) (closed o l (states ks) (prevailing_death ks)) a e

  pub none_goes_below : (i : ℕ) (x : List ℕ) (m n : Node S) (a : Acted S) → act_here o m ≡ Some a → at (i ∷ x) m ≡ Some n → goes n ≡ true → ⊥
  none_goes_below i x (Live l) n a h e g = none_some n e
  none_goes_below i x (Ended l) n a h e g = none_some n e
  none_goes_below i x (Dead l y) n a h e g = none_some n e
  none_goes_below i x (Forked l ks) n a h e g = clash (goes n) g (done_below i x ks n (closing l ks a h).0 e)

  pub below_acts : (x : List ℕ) (m n : Node S) (a : Acted S) → act_here o m ≡ Some a → at x m ≡ Some n → goes n ≡ true → m ≡ n
  below_acts [] m n a h e g = some_same m n e
  below_acts (i ∷ x) m n a h e g = absurd (none_goes_below i x m n a h e g)

  -- ---- who acts shares nothing of a channel at which all sharers wait

  done_sharers : (c : Channel) (ks : Nodes S) → all_done ks ≡ true → any_sharer o c ks ≡ false
  done_sharers c no_node h = refl
  done_sharers c (node_and k ks) h =
      or_false (goes k && o.shares (state k) c) (any_sharer o c ks) (ap (λ b. b && o.shares (state k) c) (not_false (goes k) (first_holds (not (goes k)) (all_done ks) h)))
      (done_sharers c ks (second_holds (not (goes k)) (all_done ks) h))

  -- a process that acts stands at no channel
  acts_stand_nowhere : (c : Channel) (l : S) (s : StopView) (a : Acted S) → act_live o l s ≡ Some a → is_next s c ≡ false
  acts_stand_nowhere c l AtQuiet a e = refl
  acts_stand_nowhere c l AtPut a e = refl
  acts_stand_nowhere c l AtFork a e = refl
  acts_stand_nowhere c l AtFinish a e = refl
  acts_stand_nowhere c l (AtThrow label) a e = refl
  acts_stand_nowhere c l (AtTrap kind line) a e = refl
  acts_stand_nowhere c l (AtNext d) a e = none_some a e

  pub acts_unshared : (c : Channel) (m : Node S) (a : Acted S) → all_wait o c m ≡ true → act_here o m ≡ Some a → o.shares (state m) c ≡ false
  acts_unshared c (Live l) a h e = elim (either_holds (not (o.shares l c)) (is_next (o.stop l) c) h) [
    | inl y ↦ not_false (o.shares l c) y
    | inr y ↦ clash (is_next (o.stop l) c) y (acts_stand_nowhere c l (o.stop l) a e)
  ]
  acts_unshared c (Ended l) a h e = none_some a e
  acts_unshared c (Dead l x) a h e = none_some a e
  acts_unshared c (Forked l ks) a h e =
      elim (either_holds (not (o.shares l c)) (any_sharer o c ks) (first_holds (not (o.shares l c) || any_sharer o c ks) (all_wait_below o c ks) h)) [
        | inl y ↦ not_false (o.shares l c) y
        | inr y ↦ clash (any_sharer o c ks) y (done_sharers c ks (closing l ks a e).0)
      ]

  mutual
    -- where all sharers of a tree wait, so do those of each node in it
    pub all_wait_at : (c : Channel) (q : List ℕ) (n m : Node S) → all_wait o c n ≡ true → at q n ≡ Some m → all_wait o c m ≡ true
    all_wait_at c [] n m h e = ap (all_wait o c) (sym (some_same n m e)) ∙ h
    all_wait_at c (i ∷ q) (Live l) m h e = none_some m e
    all_wait_at c (i ∷ q) (Ended l) m h e = none_some m e
    all_wait_at c (i ∷ q) (Dead l x) m h e = none_some m e
    all_wait_at c (i ∷ q) (Forked l ks) m h e = all_wait_at_in c i q ks m (second_holds (not (o.shares l c) || any_sharer o c ks) (all_wait_below o c ks) h) e

    all_wait_at_in : (c : Channel) (i : ℕ) (q : List ℕ) (ks : Nodes S) (m : Node S) → all_wait_below o c ks ≡ true → child_at i q ks ≡ Some m → all_wait o c m ≡ true
    all_wait_at_in c i q no_node m h e = none_some m e
    all_wait_at_in c zero q (node_and k ks) m h e = all_wait_at c q k m (first_holds (all_wait o c k) (all_wait_below o c ks) h) e
    all_wait_at_in c (suc i) q (node_and k ks) m h e = all_wait_at_in c i q ks m (second_holds (all_wait o c k) (all_wait_below o c ks) h) e

  -- the channel is declared neither by who acts, nor below
  pub acts_outside : (c : Channel) (n m : Node S) (q : List ℕ) (a : Acted S) → SoundBelow o n → ReadyHome o c n → at q n ≡ Some m → act_here o m ≡ Some a → o.shares (state m) c ≡ false → Outside c (o.path (state m))
  acts_outside c n m q a s home e h none_of r is =
      let x = at_path o n home.node home.branches s home.there in
      let y = at_path o n m q s e in
      let both : o.path (state n) ++ x.0 ≡ o.path (state n) ++ (y.0 ++ r) = sym x.1 ∙ (home.path ∙ (is ∙ (ap (λ z. z ++ r) y.1 ∙ append_assoc (o.path (state n)) y.0 r))) in
      let same : x.0 ≡ y.0 ++ r = append_cancel_left (o.path (state n)) x.0 (y.0 ++ r) both in
      let to : home.branches ≡ q ++ branches r = sym x.2 ∙ (ap branches same ∙ (branches_append y.0 r ∙ ap (λ z. z ++ branches r) y.2)) in
      let there = at_further q (branches r) n m home.node e (ap (λ z. at z n) (sym to) ∙ home.there) in
      let it = below_acts (branches r) m home.node a h there (ready_goes o c home.node home.is_ready) in
      clash (o.shares (state home.node) c) home.shared (ap (λ z. o.shares (state z) c) (sym it) ∙ none_of)

  -- what an act leaves of a node with which the channel has nothing to do
  pub leaves_unshared : LocalLaws o → (c : Channel) (m : Node S) (a : Acted S) → SoundBelow o m → act_here o m ≡ Some a → o.shares (state m) c ≡ false → Outside c (o.path (state m)) → is_unshared o c a.node ≡ true
  leaves_unshared law c m a s e none_of out =
      let w = here_keeps o law m a s e in
      let no_more : o.shares (state a.node) c ≡ false = elim (true_or_false (o.shares (state a.node) c)) [
        | inl y ↦ elim (w.follows.shares c y) [ inl z ↦ clash (o.shares (state m) c) z none_of | inr z ↦ absurd (out [] (z ∙ sym (append-nil (o.path (state m))))) ]
        | inr y ↦ y
      ] in
      unshared_is_unshared o c a.node w.below no_more (λ r z. out r (z ∙ ap (λ q. q ++ r) w.follows.path))

  -- an act in a tree that waits at a channel and has its home: before and behind it the node is unshared on it, so the tree is the same to it
  pub record ActsAside (c : Channel) (q : List ℕ) (n m : Node S) (a : Acted S) : Type 0 where
    pub before : is_unshared o c m ≡ true
    pub behind : is_unshared o c a.node ≡ true
    pub alike : Alike o c n (put q a.node n)

  pub acts_aside : LocalLaws o → (c : Channel) (q : List ℕ) (n m : Node S) (a : Acted S) → SoundBelow o n → all_wait o c n ≡ true → ReadyHome o c n → at q n ≡ Some m → act_here o m ≡ Some a → ActsAside c q n m a
  acts_aside law c q n m a s h home e f =
      let below = sound_at o q n m s e in
      let unshared = acts_unshared c m a (all_wait_at c q n m h e) f in
      let out = acts_outside c n m q a s home e f unshared in
      let before = unshared_is_unshared o c m below unshared out in
      let behind = leaves_unshared law c m a below f unshared out in
      record { before = before; behind = behind; alike = alike_put o c q n m a.node e (is_unshared_alike o law c m a.node below (here_keeps o law m a below f).below before behind) }
