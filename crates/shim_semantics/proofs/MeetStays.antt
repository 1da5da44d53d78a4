-- A rendezvous keeps a tree sound.
use Rattle.std.proofs.Common.{◌≡◌, ◌≢◌, ◌≤◌, ℕ, ℤ, ◌+◌, Bool, true, List, [], ◌∷◌, ◌++◌, cond, inl, inr, refl, sym, subst}
use Rattle.shim_base.specs.Paths.{Channel, NamedChannel}
use Rattle.shim_local.specs.Process.{Ops, StopView, AtQuiet, AtNext, AtPut, AtFork, AtFinish, AtThrow, AtTrap}
use Rattle.shim_local.specs.Laws.{LocalLaws, Called, by_receive, how_many}
use Rattle.shim_semantics.specs.Nodes.{Node, Nodes, Live, Forked, Ended, Dead, no_node, node_and, state, states, everyone, everyone_of, is_next, received, all_received}
use Rattle.shim_semantics.specs.Places.{SoundBelow, SoundChildren}
use Rattle.shim_semantics.proofs.HowMany.{no_less, one_for_one, one_before, both_less}
use Rattle.shim_semantics.proofs.Follows.{Follows, Stays, follows_same}
use Rattle.shim_semantics.proofs.Replaced.{born_shift, child_follows}
use Rattle.shim_semantics.proofs.CallStays.{call_stays, call_carries_less}
use Rattle.shim_base.proofs.Facts.{true_or_false}

-- a process that is at a channel stands at a `next`
pub next_is : (s : StopView) (c : Channel) → is_next s c ≡ true → (d : NamedChannel) × (s ≡ AtNext d)
next_is (AtNext d) c e = (d, refl)
next_is AtQuiet c e = absurd cc
next_is AtPut c e = absurd cc
next_is AtFork c e = absurd cc
next_is AtFinish c e = absurd cc
next_is (AtThrow label) c e = absurd cc
next_is (AtTrap kind line) c e = absurd cc

some_received : {S : Type 0} (o : Ops S) (c : Channel) (v : ℤ) (ks : Nodes S) → ks ≢ no_node → all_received o c v ks ≢ no_node
some_received o c v no_node n = n
some_received o c v (node_and k ks) n = λ e. absurd cc

module _ {S : Type 0} (o : Ops S) where
  -- a process that receives does a call
  hears : (c : Channel) (v : ℤ) (l : S) → is_next (o.stop l) c ≡ true → Called o l (o.receive l v)
  hears c v l y = let d = next_is (o.stop l) c y in by_receive d.0 v d.1 refl

  received_live : LocalLaws o → (c : Channel) (v : ℤ) (l : S) → o.sound l → SoundBelow o (received o c v (Live l)) × Follows o l (state (received o c v (Live l)))
  received_live law c v l s = elim (true_or_false (is_next (o.stop l) c)) [
    | inl y ↦
        let w = call_stays o law l (o.receive l v) s (hears c v l y) in
        subst (λ b. o.sound (cond b (o.receive l v) l) × Follows o l (cond b (o.receive l v) l)) (sym y) (w.below, w.follows)
    | inr n ↦ subst (λ b. o.sound (cond b (o.receive l v) l) × Follows o l (cond b (o.receive l v) l)) (sym n) (s, follows_same o l l refl)
  ]

  mutual
    received_sound : LocalLaws o → (c : Channel) (v : ℤ) (n : Node S) → SoundBelow o n → SoundBelow o (received o c v n) × Follows o (state n) (state (received o c v n))
    received_sound law c v (Live l) s = received_live law c v l s
    received_sound law c v (Ended l) s = (s, follows_same o l l refl)
    received_sound law c v (Dead l x) s = (s, follows_same o l l refl)
    received_sound law c v (Forked l ks) s =
        let w = received_sound_in law c v l s.number 0 ks s.children in
        (record { number = s.number; children = w.0; some = some_received o c v ks s.some; born = w.1 [] s.born; sound = s.sound }, follows_same o l l refl)

    received_sound_in : LocalLaws o → (c : Channel) (v : ℤ) (l : S) (f j : ℕ) (ks : Nodes S) → SoundChildren o l f j ks
        → SoundChildren o l f j (all_received o c v ks) × ((xs : List S) → o.born l (xs ++ states ks) → o.born l (xs ++ states (all_received o c v ks)))
    received_sound_in law c v l f j no_node s = (tt, λ xs b. b)
    received_sound_in law c v l f j (node_and k ks) s =
        let h = received_sound law c v k s.1 in
        let w = received_sound_in law c v l f (j + 1) ks s.2 in (
          (child_follows o l (state k) (state (received o c v k)) f j s.0 h.1, h.0, w.0),
          λ xs b. h.1.stays l xs (states (all_received o c v ks))
              (born_shift o l (state k) xs (states ks) (states (all_received o c v ks)) (w.1 (xs ++ state k ∷ [])) b),
        )

  -- what is true of a process after it received was true of it before
  abbrev HearsLess : Channel → ℤ → (S → Bool) → Type 0
  HearsLess c v f = (l : S) → o.sound l → is_next (o.stop l) c ≡ true → f (o.receive l v) ≡ true → f l ≡ true

  live_count : (c : Channel) (v : ℤ) (f : S → Bool) → HearsLess c v f → (l : S) → o.sound l → how_many f (everyone (received o c v (Live l))) ≤ how_many f (l ∷ [])
  live_count c v f less l s = elim (true_or_false (is_next (o.stop l) c)) [
    | inl y ↦ subst (λ b. how_many f (cond b (o.receive l v) l ∷ []) ≤ how_many f (l ∷ [])) (sym y) (one_for_one f l (o.receive l v) (less l s y))
    | inr n ↦ subst (λ b. how_many f (cond b (o.receive l v) l ∷ []) ≤ how_many f (l ∷ [])) (sym n) (no_less (how_many f (l ∷ [])))
  ]

  mutual
    received_count : (c : Channel) (v : ℤ) (f : S → Bool) → HearsLess c v f → (n : Node S) → SoundBelow o n → how_many f (everyone (received o c v n)) ≤ how_many f (everyone n)
    received_count c v f less (Live l) s = live_count c v f less l s
    received_count c v f less (Ended l) s = no_less (how_many f (l ∷ []))
    received_count c v f less (Dead l x) s = no_less (how_many f (l ∷ []))
    received_count c v f less (Forked l ks) s = one_before f l (everyone_of (all_received o c v ks)) (everyone_of ks) (received_count_in c v f less l s.number 0 ks s.children)

    received_count_in : (c : Channel) (v : ℤ) (f : S → Bool) → HearsLess c v f → (l : S) (g j : ℕ) (ks : Nodes S) → SoundChildren o l g j ks → how_many f (everyone_of (all_received o c v ks)) ≤ how_many f (everyone_of ks)
    received_count_in c v f less l g j no_node s = no_less 0
    received_count_in c v f less l g j (node_and k ks) s =
        both_less f (everyone k) (everyone_of ks) (everyone (received o c v k)) (everyone_of (all_received o c v ks)) (received_count c v f less k s.1) (received_count_in c v f less l g (j + 1) ks s.2)

  pub meeting_stays : LocalLaws o → (c : Channel) (v : ℤ) (n : Node S) → SoundBelow o n → Stays o n (received o c v n)
  meeting_stays law c v n s =
      let w = received_sound law c v n s in record {
        below = w.0;
        follows = w.1;
        carried = λ d. received_count c v (λ k. o.carries k d) (λ l h y. call_carries_less o law l (o.receive l v) h (hears c v l y) d) n s;
        no_more_holders = received_count c v o.holds_output (λ l h y. law.call_holds l (o.receive l v) h (hears c v l y)) n s;
      }
