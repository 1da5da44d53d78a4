-- Nodes none of whose processes share a channel: all such are alike to it, and a rendezvous on it leaves them as they are.
use Rattle.std.proofs.Common.{◌≡◌, ℕ, ℤ, ◌+◌, true, false, Some, None, inl, inr, not, cond, refl, sym, ap, ◌∙◌}
use Rattle.shim_base.specs.Paths.{Channel, NamedChannel}
use Rattle.shim_local.specs.Process.{Ops, StopView, AtQuiet, AtNext, AtPut, AtFork, AtFinish, AtThrow, AtTrap}
use Rattle.shim_local.specs.Laws.{LocalLaws}
use Rattle.shim_semantics.specs.Nodes.{Node, Nodes, Live, Forked, Ended, Dead, no_node, node_and, state, goes, any_sharer, is_next, next_channel, source, source_among, name_for, first_name, first_name_among, received, all_received}
use Rattle.shim_semantics.specs.Places.{SoundBelow, SoundChildren}
use Rattle.shim_semantics.proofs.HowMany.{clash}
use Rattle.shim_laws_schedules.specs.Waiting.{all_wait, all_wait_below, has_sharer, any_has_sharer, is_unshared, all_unshared}
use Rattle.shim_laws_schedules.proofs.Tests.{or_else_none}
use Rattle.shim_laws_schedules.proofs.AllWait.{Alike}
use Rattle.shim_base.proofs.Facts.{first_holds, second_holds, both_hold, true_or_false, or_left, not_false, or_false, and_false, cond_none}
use Rattle.shim_base.proofs.SamePaths.{same_channel_is}

-- the channel at which a process stands, by its name for it
pub stands_at : (s : StopView) (c : Channel) → is_next s c ≡ true → (d : NamedChannel) × (s ≡ AtNext d) × (d.channel ≡ c)
stands_at (AtNext d) c e = (d, refl, same_channel_is d.channel c e)
stands_at AtQuiet c e = absurd cc
stands_at AtPut c e = absurd cc
stands_at AtFork c e = absurd cc
stands_at AtFinish c e = absurd cc
stands_at (AtThrow label) c e = absurd cc
stands_at (AtTrap kind line) c e = absurd cc

-- who doesn't stand at the channel has no name for it
pub no_name : (s : StopView) (c : Channel) → is_next s c ≡ false → name_for c (next_channel s) ≡ None
no_name (AtNext d) c e = ap (λ b. cond b (Some d.name) None) e
no_name AtQuiet c e = refl
no_name AtPut c e = refl
no_name AtFork c e = refl
no_name AtFinish c e = refl
no_name (AtThrow label) c e = refl
no_name (AtTrap kind line) c e = refl

module _ {S : Type 0} (o : Ops S) where
  -- who stands at a channel shares it
  pub stands_shares : LocalLaws o → (c : Channel) (l : S) → o.sound l → is_next (o.stop l) c ≡ true → o.shares l c ≡ true
  stands_shares law c l s y = let d = stands_at (o.stop l) c y in ap (o.shares l) (sym d.2) ∙ law.next_shares l d.0 s d.1

  -- and who doesn't share it neither stands at it nor carries it
  pub stands_elsewhere : LocalLaws o → (c : Channel) (l : S) → o.sound l → o.shares l c ≡ false → is_next (o.stop l) c ≡ false
  stands_elsewhere law c l s n = elim (true_or_false (is_next (o.stop l) c)) [ inl y ↦ clash (o.shares l c) (stands_shares law c l s y) n | inr w ↦ w ]

  not_carried : LocalLaws o → (c : Channel) (l : S) → o.sound l → o.shares l c ≡ false → o.carries l c ≡ false
  not_carried law c l s n = elim (true_or_false (o.carries l c)) [ inl y ↦ clash (o.shares l c) (law.carries_shares l c s y) n | inr w ↦ w ]

  no_source : LocalLaws o → (c : Channel) (l : S) → o.sound l → not (o.shares l c) ≡ true → cond (o.carries l c) (Some l) None ≡ None
  no_source law c l s h = cond_none (o.carries l c) l (not_carried law c l s (not_false (o.shares l c) h))

  -- the state of a node that is unshared
  is_unshared_state : (c : Channel) (n : Node S) → is_unshared o c n ≡ true → o.shares (state n) c ≡ false
  is_unshared_state c (Live l) h = not_false (o.shares l c) h
  is_unshared_state c (Ended l) h = not_false (o.shares l c) h
  is_unshared_state c (Dead l x) h = not_false (o.shares l c) h
  is_unshared_state c (Forked l ks) h = not_false (o.shares l c) (first_holds (not (o.shares l c)) (all_unshared o c ks) h)

  mutual
    pub unshared_all_wait : (c : Channel) (n : Node S) → is_unshared o c n ≡ true → all_wait o c n ≡ true
    unshared_all_wait c (Live l) h = or_left _ _ h
    unshared_all_wait c (Ended l) h = refl
    unshared_all_wait c (Dead l x) h = h
    unshared_all_wait c (Forked l ks) h =
        both_hold _ _ (or_left (not (o.shares l c)) (any_sharer o c ks) (first_holds (not (o.shares l c)) (all_unshared o c ks) h)) (all_unshared_all_wait c ks (second_holds (not (o.shares l c)) (all_unshared o c ks) h))

    pub all_unshared_all_wait : (c : Channel) (ks : Nodes S) → all_unshared o c ks ≡ true → all_wait_below o c ks ≡ true
    all_unshared_all_wait c no_node h = refl
    all_unshared_all_wait c (node_and k ks) h = both_hold _ _ (unshared_all_wait c k (first_holds (is_unshared o c k) (all_unshared o c ks) h)) (all_unshared_all_wait c ks (second_holds (is_unshared o c k) (all_unshared o c ks) h))

  mutual
    pub is_unshared_still : (c : Channel) (n : Node S) → is_unshared o c n ≡ true → has_sharer o c n ≡ false
    is_unshared_still c (Live l) h = not_false (o.shares l c) h
    is_unshared_still c (Ended l) h = refl
    is_unshared_still c (Dead l x) h = refl
    is_unshared_still c (Forked l ks) h =
        or_false (o.shares l c) (any_has_sharer o c ks) (not_false (o.shares l c) (first_holds (not (o.shares l c)) (all_unshared o c ks) h)) (all_unshared_still c ks (second_holds (not (o.shares l c)) (all_unshared o c ks) h))

    all_unshared_still : (c : Channel) (ks : Nodes S) → all_unshared o c ks ≡ true → any_has_sharer o c ks ≡ false
    all_unshared_still c no_node h = refl
    all_unshared_still c (node_and k ks) h = or_false (has_sharer o c k) (any_has_sharer o c ks) (is_unshared_still c k (first_holds (is_unshared o c k) (all_unshared o c ks) h)) (all_unshared_still c ks (second_holds (is_unshared o c k) (all_unshared o c ks) h))

  mutual
    is_unshared_source : LocalLaws o → (c : Channel) (n : Node S) → SoundBelow o n → is_unshared o c n ≡ true → source o c n ≡ None
    is_unshared_source law c (Live l) s h = no_source law c l s h
    is_unshared_source law c (Ended l) s h = no_source law c l s h
    is_unshared_source law c (Dead l x) s h = no_source law c l s.sound h
    is_unshared_source law c (Forked l ks) s h =
        ap (λ b. cond b (Some l) (source_among o c ks)) (not_carried law c l s.sound (not_false (o.shares l c) (first_holds (not (o.shares l c)) (all_unshared o c ks) h)))
        ∙ all_unshared_source law c l s.number 0 ks s.children (second_holds (not (o.shares l c)) (all_unshared o c ks) h)

    all_unshared_source : LocalLaws o → (c : Channel) (l : S) (f j : ℕ) (ks : Nodes S) → SoundChildren o l f j ks → all_unshared o c ks ≡ true → source_among o c ks ≡ None
    all_unshared_source law c l f j no_node s h = refl
    all_unshared_source law c l f j (node_and k ks) s h =
        or_else_none (source o c k) (source_among o c ks) (is_unshared_source law c k s.1 (first_holds (is_unshared o c k) (all_unshared o c ks) h))
        (all_unshared_source law c l f (j + 1) ks s.2 (second_holds (is_unshared o c k) (all_unshared o c ks) h))

  mutual
    is_unshared_name : LocalLaws o → (c : Channel) (n : Node S) → SoundBelow o n → is_unshared o c n ≡ true → first_name o c n ≡ None
    is_unshared_name law c (Live l) s h = no_name (o.stop l) c (stands_elsewhere law c l s (not_false (o.shares l c) h))
    is_unshared_name law c (Ended l) s h = refl
    is_unshared_name law c (Dead l x) s h = refl
    is_unshared_name law c (Forked l ks) s h = all_unshared_name law c l s.number 0 ks s.children (second_holds (not (o.shares l c)) (all_unshared o c ks) h)

    all_unshared_name : LocalLaws o → (c : Channel) (l : S) (f j : ℕ) (ks : Nodes S) → SoundChildren o l f j ks → all_unshared o c ks ≡ true → first_name_among o c ks ≡ None
    all_unshared_name law c l f j no_node s h = refl
    all_unshared_name law c l f j (node_and k ks) s h =
        or_else_none (first_name o c k) (first_name_among o c ks) (is_unshared_name law c k s.1 (first_holds (is_unshared o c k) (all_unshared o c ks) h))
        (all_unshared_name law c l f (j + 1) ks s.2 (second_holds (is_unshared o c k) (all_unshared o c ks) h))

  pub is_unshared_alike : LocalLaws o → (c : Channel) (m n : Node S) → SoundBelow o m → SoundBelow o n → is_unshared o c m ≡ true → is_unshared o c n ≡ true → Alike o c m n
  is_unshared_alike law c m n s t h k = record {
    all_wait = unshared_all_wait c m h ∙ sym (unshared_all_wait c n k);
    has_sharer = is_unshared_still c m h ∙ sym (is_unshared_still c n k);
    source = is_unshared_source law c m s h ∙ sym (is_unshared_source law c n t k);
    name = is_unshared_name law c m s h ∙ sym (is_unshared_name law c n t k);
    sharer = and_false (goes m) (o.shares (state m) c) (is_unshared_state c m h) ∙ sym (and_false (goes n) (o.shares (state n) c) (is_unshared_state c n k));
  }

  -- who doesn't share the channel receives nothing there
  pub unheard : LocalLaws o → (c : Channel) (v : ℤ) (l : S) → o.sound l → o.shares l c ≡ false → cond (is_next (o.stop l) c) (o.receive l v) l ≡ l
  unheard law c v l s n = ap (λ b. cond b (o.receive l v) l) (stands_elsewhere law c l s n)

  mutual
    pub is_unshared_received : LocalLaws o → (c : Channel) (v : ℤ) (n : Node S) → SoundBelow o n → is_unshared o c n ≡ true → received o c v n ≡ n
    is_unshared_received law c v (Live l) s h = ap Live (unheard law c v l s (not_false (o.shares l c) h))
    is_unshared_received law c v (Ended l) s h = refl
    is_unshared_received law c v (Dead l x) s h = refl
    is_unshared_received law c v (Forked l ks) s h = ap (Forked l) (all_unshared_received law c v l s.number 0 ks s.children (second_holds (not (o.shares l c)) (all_unshared o c ks) h))

    all_unshared_received : LocalLaws o → (c : Channel) (v : ℤ) (l : S) (f j : ℕ) (ks : Nodes S) → SoundChildren o l f j ks → all_unshared o c ks ≡ true → all_received o c v ks ≡ ks
    all_unshared_received law c v l f j no_node s h = refl
    all_unshared_received law c v l f j (node_and k ks) s h = λ i. node_and
        (is_unshared_received law c v k s.1 (first_holds (is_unshared o c k) (all_unshared o c ks) h) i)
        (all_unshared_received law c v l f (j + 1) ks s.2 (second_holds (is_unshared o c k) (all_unshared o c ks) h) i)
