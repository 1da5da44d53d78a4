-- What a process does by itself leaves what its fork gave it, and what it shares of the channels of others.
use Rattle.std.proofs.Common.{◌≡◌, ◌≢◌, ℕ, ℤ, ◌<◌, Bool, true, false, Option, Some, None, List, [], ◌∷◌, ◌++◌, cond, inl, inr, refl, sym, ap, ◌∙◌, ltb, ltb-false, arith}
use Rattle.std.specs.Prelude.{slice_get}
use Rattle.std.proofs.lemmas.List.{append-nil}
use Rattle.shim_base.specs.Paths.{Path, Channel}
use Rattle.shim_local.specs.Process.{Ops, StopView, ForkedView, AtQuiet, AtNext, AtPut, AtFork, AtFinish, AtThrow, AtTrap, Parted, Trapped}
use Rattle.shim_local.specs.Laws.{LocalLaws, Moved, by_quiet, by_call, by_unwind, by_fork, by_trap, by_join, by_put, by_thrown, by_label, AllOf, IsGiven}
use Rattle.shim_semantics.specs.Nodes.{Node, Nodes, Live, Forked, Ended, Dead, Death, death_with, handed, state, states, all_done, prevailing_death}
use Rattle.shim_semantics.specs.Acts.{Acted, act_here, act_live, thrown, throwing, closed, parted, nothing, catch_logged}
use Rattle.shim_semantics.specs.Places.{at, SoundBelow}
use Rattle.shim_semantics.specs.Sound.{IsSound}
use Rattle.shim_semantics.proofs.HowMany.{clash}
use Rattle.shim_semantics.proofs.Follows.{Keeps}
use Rattle.shim_semantics.proofs.ReplacedNodes.{put}
use Rattle.shim_semantics.proofs.Replaced.{sound_at, states_sound, replaced}
use Rattle.shim_semantics.proofs.SoundEvents.{here_keeps}
use Rattle.shim_semantics.proofs.GivenChannels.{children_share_given}
use Rattle.shim_semantics.proofs.CloseStays.{label_below}
use Rattle.shim_base.proofs.Facts.{some_same, none_some, cond_some, true_or_false, false_unless}
use Rattle.shim_laws_table.specs.Beginning.{ForeignStays}
use Rattle.shim_laws_table.proofs.Aside.{there}
use Rattle.shim_laws_table.specs.Counts.{child_status}
use Rattle.shim_laws_table.proofs.Brought.{counts_follow}
use Rattle.shim_laws_table.proofs.Hanging.{tree_of}

module _ {S : Type 0} (o : Ops S) (law : LocalLaws o) where
  thrown_given : (l : S) (d : Death) → o.sound l → d.label < o.handlers l → o.given (state (thrown o l d).node) ≡ o.given l
  thrown_given l d s below = elim (true_or_false (ltb d.label (o.base l))) [
    | inl e ↦ ap (λ b. o.given (state (cond {A = Acted S} b (record { node = Dead l d; effects = nothing }) (record { node = Live (o.unwind l d.label (handed d.given)); effects = catch_logged (o.handler l d.label) })).node)) e
    | inr e ↦ ap (λ b. o.given (state (cond {A = Acted S} b (record { node = Dead l d; effects = nothing }) (record { node = Live (o.unwind l d.label (handed d.given)); effects = catch_logged (o.handler l d.label) })).node)) e
        ∙ law.moved_given l (o.unwind l d.label (handed d.given)) s (by_unwind (by_label d.label (handed d.given) (ltb-false d.label (o.base l) e) below refl))
  ]

  parted_given : (l : S) (v : ForkedView S) → o.sound l → o.stop l ≡ AtFork → o.fork l ≡ v → o.given (state (parted v)) ≡ o.given l
  parted_given l (Parted p ks) s at e = law.moved_given l p s (by_fork ks at e)
  parted_given l (Trapped m) s at e = law.moved_given l m s (by_trap at e)

  throwing_given : (l : S) (x : ℕ) (r : Option ℤ) → o.sound l → o.stop l ≡ AtThrow x → o.given (state (throwing o l x r).node) ≡ o.given l
  throwing_given l x None s at = law.moved_given l (o.thrown l) s (by_call (by_thrown x at refl))
  throwing_given l x (Some v) s at = thrown_given l (death_with x v) s (law.throw_below l x s at)

  live_given : (l : S) (v : StopView) (a : Acted S) → o.sound l → o.stop l ≡ v → act_live o l v ≡ Some a → o.given (state a.node) ≡ o.given l
  live_given l AtQuiet a s at e = ap (λ (z : Acted S). o.given (state z.node)) (sym (some_same _ a e)) ∙ law.moved_given l (o.quiet l) s (by_quiet at refl)
  live_given l AtPut a s at e = ap (λ (z : Acted S). o.given (state z.node)) (sym (some_same _ a e)) ∙ law.moved_given l (o.put l) s (by_call (by_put at refl))
  live_given l AtFork a s at e = ap (λ (z : Acted S). o.given (state z.node)) (sym (some_same _ a e)) ∙ parted_given l (o.fork l) s at refl
  live_given l AtFinish a s at e = ap (λ (z : Acted S). o.given (state z.node)) (sym (some_same _ a e))
  live_given l (AtNext c) a s at e = none_some a e
  live_given l (AtThrow x) a s at e = ap (λ (z : Acted S). o.given (state z.node)) (sym (some_same _ a e)) ∙ throwing_given l x (o.number l) s at
  live_given l (AtTrap kind line) a s at e = ap (λ (z : Acted S). o.given (state z.node)) (sym (some_same _ a e))

  closed_given : (l : S) (ks : Nodes S) (d : Option Death) → prevailing_death ks ≡ d → SoundBelow o (Forked l ks) → o.given (state (closed o l (states ks) d).node) ≡ o.given l
  closed_given l ks None e s =
      let all : AllOf o.sound (states ks) = states_sound o l s.number 0 ks s.children in
      law.moved_given l (o.join l (states ks) true) s.sound (by_join (states ks) true all s.born refl)
  closed_given l ks (Some d) e s =
      let all : AllOf o.sound (states ks) = states_sound o l s.number 0 ks s.children in
      let j : S = o.join l (states ks) false in
      let moved : Moved o l (o.join l (states ks) false) = by_join (states ks) false all s.born refl in
      let below = label_below o l s.number 0 ks d s.children e in
      thrown_given j d (law.moved_sound l j s.sound moved) (same_bound d.label (o.handlers l) (o.handlers j) below (law.join_handlers l (states ks) s.sound all s.born)) ∙ law.moved_given l j s.sound moved
    where
      same_bound : (x h k : ℕ) → x < h → k ≡ h → x < k
      same_bound x h k e f = omega (arith, e, f)

  here_given : (m : Node S) (a : Acted S) → SoundBelow o m → act_here o m ≡ Some a → o.given (state a.node) ≡ o.given (state m)
  here_given (Live l) a s e = live_given l (o.stop l) a s refl e
  here_given (Forked l ks) a s e =
      ap (λ (z : Acted S). o.given (state z.node)) (sym (cond_some (all_done ks) (closed o l (states ks) (prevailing_death ks)) a e).1) ∙ closed_given l ks (prevailing_death ks) refl s
  here_given (Ended l) a s e = none_some a e
  here_given (Dead l d) a s e = none_some a e

  same_given : (k m : S) (c : Channel) → o.given k ≡ o.given m → IsGiven o k c → IsGiven o m c
  same_given k m c e h = (h.0, h.1, ap (λ z. slice_get z h.0) (sym e) ∙ h.2, h.3)

  foreign_shares : (root m : Node S) (q : List ℕ) (a : Acted S) (c : Channel) → IsSound o root → at q root ≡ Some m → act_here o m ≡ Some a → c.home ≢ o.path (state m) → o.shares (state a.node) c ≡ o.shares (state m) c
  foreign_shares root m q a c s e h n =
      let keeps = here_keeps o law m a (sound_at o q root m s.below e) h in
      elim (true_or_false (o.shares (state m) c)) [
        | inr lacks ↦ none (o.shares (state a.node) c) (λ y. elim (keeps.follows.shares c y) [ inl z ↦ clash (o.shares (state m) c) z lacks | inr z ↦ n z ]) ∙ sym lacks
        | inl has ↦ still q e has keeps ∙ sym has
      ]
    where
      none : (b : Bool) → (b ≡ true → ⊥) → b ≡ false
      none b f = false_unless b f

      still : (q : List ℕ) → at q root ≡ Some m → o.shares (state m) c ≡ true → Keeps o m a.node → o.shares (state a.node) c ≡ true
      still [] e has keeps = absurd (n (s.own c (ap (λ z. o.shares (state z) c) (some_same root m e) ∙ has) ∙ ap (λ z. o.path (state z)) (some_same root m e)))
      still (b ∷ q) e has keeps =
          let given = (children_share_given o law (tree_of o root) s b q m c e n).0 has in
          let new = replaced o law (b ∷ q) root m a.node s e keeps in
          (children_share_given o law (tree_of o (put (b ∷ q) a.node root)) new b q a.node c (there (b ∷ q) m a.node root e) (λ z. n (z ∙ keeps.follows.path))).1
          (same_given (state m) (state a.node) c (sym (here_given m a (sound_at o (b ∷ q) root m s.below e) h)) given)

  foreign_reads : (root m : Node S) (q : List ℕ) (a : Acted S) (c : Channel) → IsSound o root → at q root ≡ Some m → act_here o m ≡ Some a → ((r : Path) → c.home ≢ o.path (state m) ++ r) → o.shares (state m) c ≡ false → child_status o c m ≡ child_status o c a.node
  foreign_reads root m q a c s e h out lacks =
      let sound = sound_at o q root m s.below e in
      let keeps = here_keeps o law m a sound h in
      let still : o.shares (state a.node) c ≡ false = foreign_shares root m q a c s e h (λ z. out [] (z ∙ sym (append-nil (o.path (state m))))) ∙ lacks in
      let unread = (counts_follow o law).unshared in
      unread c m sound lacks out ∙ sym (unread c a.node keeps.below still (λ r z. out r (z ∙ ap (λ p. p ++ r) keeps.follows.path)))

  pub foreign_stays : ForeignStays o
  foreign_stays = record {
    given = λ root m q a s e h. here_given m a (sound_at o q root m s.below e) h;
    shares = foreign_shares;
    reads = foreign_reads;
  }
