-- Each live process waits, through one that holds it up, for another live one.
use Rattle.std.proofs.Common.{◌≡◌, ℕ, Bool, true, false, Option, Some, List, [], ◌∷◌, ◌++◌, inl, inr, not, map, refl, sym, ap, ◌∙◌}
use Rattle.shim_base.specs.Paths.{Path, Channel, NamedChannel, same_channel}
use Rattle.shim_base.proofs.Facts.{some_same, none_some, first_holds, second_holds, not_false}
use Rattle.shim_base.proofs.SamePaths.{same_channel_refl}
use Rattle.shim_local.specs.Process.{Ops, AtNext}
use Rattle.shim_local.specs.Laws.{LocalLaws}
use Rattle.shim_base.specs.Lists.{IsAmong}
use Rattle.shim_semantics.specs.Nodes.{Node, Nodes, Live, Forked, Ended, Dead, state, goes, any_sharer, next_channel}
use Rattle.shim_semantics.specs.Places.{at, at_route, StandsAt, SoundBelow}
use Rattle.shim_semantics.specs.Sound.{SharesItsOwn}
use Rattle.shim_semantics.specs.Trees.{Tree}
use Rattle.shim_semantics.specs.Walks.{head}
use Rattle.shim_semantics.proofs.HowMany.{clash}
use Rattle.shim_semantics.proofs.Replaced.{sound_at}
use Rattle.shim_semantics.proofs.Routes.{at_path, route_of}
use Rattle.shim_waits.specs.declared.explained.Wait.{Wait}
use Rattle.shim_waits.specs.Holding.{is_elsewhere, holds_up, first_of, lives}
use Rattle.shim_waits.specs.Laws.{IsBlockedTree, IsHeldUp}
use Rattle.shim_waits.specs.Waits.{wait_by, wait_through, wait_held, wait_at_next, wait_of_process, present, waits}
use Rattle.shim_waits.proofs.Resting.{Rests, tree_rests, at_rests, at_channel, meets_not}
use Rattle.shim_waits.proofs.Descent.{leads_down}
use Rattle.shim_waits.proofs.Found.{at_both, first_found, first_finds, live_at, goes_above, first_live}
use Rattle.shim_waits.proofs.Sharing.{HomeOf, SharesAsHome, home_of, below_home, sharer_below}

not_true : {A : Type 0} (b : Bool) → b ≡ true → not b ≡ true → A
not_true true e f = absurd cc
not_true false e f = absurd cc

fork_lives : {S : Type 0} {A : Type 0} (k l : S) (ks : Nodes S) → Forked k ks ≡ Live l → A
fork_lives k l ks e = absurd cc

module _ {S : Type 0} (o : Ops S) where
  pub holder_shares : (c : Channel) (n : Node S) → holds_up o c n ≡ true → o.shares (state n) c ≡ true
  holder_shares c (Live l) h = first_holds (o.shares l c) (is_elsewhere (o.stop l) c) h
  holder_shares c (Forked l ks) h = first_holds (o.shares l c) (not (any_sharer o c ks)) h
  holder_shares c (Ended l) h = absurd cc
  holder_shares c (Dead l d) h = absurd cc

  holder_goes : (c : Channel) (n : Node S) → holds_up o c n ≡ true → goes n ≡ true
  holder_goes c (Live l) h = refl
  holder_goes c (Forked l ks) h = refl
  holder_goes c (Ended l) h = absurd cc
  holder_goes c (Dead l d) h = absurd cc

  stands_there : (root m : Node S) (q : List ℕ) → SoundBelow o root → at q root ≡ Some m → StandsAt o root (o.path (state m)) m
  stands_there root m q s e = record { there = ap (at_route root) (route_of o root m q (o.path (state m)) s e refl) ∙ e; is_its = refl }

  -- two live processes of one path are one
  same_live : (root : Node S) (q r : List ℕ) (a b : S) → SoundBelow o root → at q root ≡ Some (Live a) → at r root ≡ Some (Live b) → o.path a ≡ o.path b → Live a ≡ Live b
  same_live root q r a b s e f h =
      let w : q ≡ r = some_same q r (sym (route_of o root (Live a) q (o.path b) s e h) ∙ route_of o root (Live b) r (o.path b) s f refl) in
      some_same (Live a) (Live b) (sym e ∙ (ap (λ z. at z root) w ∙ f))

  -- who waits at a channel isn't below a process that holds him up
  pub never_below : LocalLaws o → (d : NamedChannel) (f : Node S) (q : List ℕ) (l : S) (r : Path) → SoundBelow o f → holds_up o d.channel f ≡ true → o.path (state f) ≡ d.channel.home ++ r → at q f ≡ Some (Live l) → o.stop l ≡ AtNext d → ⊥
  never_below law d (Ended k) q l r s h p e w = absurd cc
  never_below law d (Dead k x) q l r s h p e w = absurd cc
  never_below law d (Live k) (i ∷ q) l r s h p e w = none_some (Live l) e
  never_below law d (Live k) [] l r s h p e w =
      let same = some_same (Live k) (Live l) e in
      not_true (same_channel d.channel d.channel) (same_channel_refl d.channel)
      (ap (λ z. is_elsewhere z d.channel) (sym (ap (λ z. o.stop (state z)) same ∙ w)) ∙ second_holds (o.shares k d.channel) (is_elsewhere (o.stop k) d.channel) h)
  never_below law d (Forked k ks) [] l r s h p e w = fork_lives k l ks (some_same (Forked k ks) (Live l) e)
  never_below law d (Forked k ks) (i ∷ q) l r s h p e w =
      let sound = sound_at o (i ∷ q) (Forked k ks) (Live l) s e in
      clash (any_sharer o d.channel ks) (sharer_below o d.channel k s.number 0 ks i q l r s.children p e (law.next_shares l d sound w))
      (not_false (any_sharer o d.channel ks) (second_holds (o.shares k d.channel) (not (any_sharer o d.channel ks)) h))

  -- ---- the parts of a wait

  record Somewhere (c : Channel) (root : Node S) : Type 0 where
    branches : List ℕ
    node : Node S
    there : at branches root ≡ Some node
    holds : holds_up o c node ≡ true

  record Holder (c : Channel) (root : Node S) : Type 0 where
    node : Node S
    is : first_of (holds_up o c) root ≡ Some node
    branches : List ℕ
    there : at branches root ≡ Some node
    holds : holds_up o c node ≡ true
    sound : SoundBelow o node
    quiet : Rests o node
    rest : Path
    path : o.path (state node) ≡ c.home ++ rest

  record Other (f : Node S) : Type 0 where
    process : S
    is : head (lives f) ≡ Some process
    branches : List ℕ
    there : at branches f ≡ Some (Live process)
    chan : NamedChannel
    at_channel : o.stop process ≡ AtNext chan
    rest : Path
    path : o.path process ≡ o.path (state f) ++ rest

  -- from a home that isn't ready
  from_home : (c : Channel) (root : Node S) (l : S) → SoundBelow o root → Rests o root → HomeOf o c root (Live l) → Somewhere c root
  from_home c root l s r home =
      let quiet = at_rests o home.above root home.node r home.there in
      let found = leads_down o c home.node (sound_at o home.above root home.node s home.there) quiet (goes_above home.below home.node l home.down) home.shared (meets_not o c home.node quiet home.path) in
      record { branches = home.above ++ found.branches; node = found.node; there = at_both home.above found.branches root home.node home.there ∙ found.there; holds = found.holds }

  the_holder : (c : Channel) (root f : Node S) (q : List ℕ) → SoundBelow o root → Rests o root → SharesAsHome o c root → first_of (holds_up o c) root ≡ Some f → at q root ≡ Some f → holds_up o c f ≡ true → Holder c root
  the_holder c root f q s r own e there h =
      let up = below_home o c root f s (home_of o c q root f s own there (holder_shares c f h)) in
      record { node = f; is = e; branches = q; there = there; holds = h; sound = sound_at o q root f s there; quiet = at_rests o q root f r there; rest = up.0; path = up.1 }

  first_holder : (c : Channel) (root : Node S) → SoundBelow o root → Rests o root → SharesAsHome o c root → Somewhere c root → Holder c root
  first_holder c root s r own w =
      let first = first_finds (holds_up o c) w.branches root w.node w.there w.holds in
      let found = first_found (holds_up o c) root first.0 first.1 in
      the_holder c root first.0 found.0 s r own first.1 found.1 found.2

  the_other : (f : Node S) (b : S) (q : List ℕ) → SoundBelow o f → Rests o f → head (lives f) ≡ Some b → at q f ≡ Some (Live b) → Other f
  the_other f b q s r e there =
      let d = at_channel o b (at_rests o q f (Live b) r there) in
      let down = at_path o f (Live b) q s there in
      record { process = b; is = e; branches = q; there = there; chan = d.0; at_channel = d.1; rest = down.0; path = down.1 }

  leftmost : (f : Node S) → SoundBelow o f → Rests o f → goes f ≡ true → Other f
  leftmost f s r g =
      let low = first_live o f r g in
      let deep = live_at low.0 f low.2 in
      the_other f low.0 deep.0 s r low.1 deep.1

  wait_from : (root : Node S) (l : S) (q : List ℕ) (d : NamedChannel) → LocalLaws o → SoundBelow o root → at q root ≡ Some (Live l) → o.stop l ≡ AtNext d → (h : Holder d.channel root) → Other h.node → IsHeldUp o root l
  wait_from root l q d law s place stops h b =
      let whole = at_both h.branches b.branches root h.node h.there ∙ b.there in
      record {
        wait = record { path = o.path l; chan = d; holder = o.path (state h.node); by = o.path b.process; at = b.chan };
        is =
            ap (λ z. wait_at_next o root (o.path l) (next_channel z)) stops
            ∙ (ap (wait_held o (o.path l) d) h.is
            ∙ (ap (wait_through o (o.path l) d (o.path (state h.node))) b.is
            ∙ ap (λ z. wait_by (o.path l) d (o.path (state h.node)) (o.path b.process) (next_channel z)) b.at_channel));
        its = refl;
        waits = record {
          process = l;
          in_tree = stands_there root (Live l) q s place;
          waits = (d, stops, refl);
          holding_node = h.node;
          there = stands_there root h.node h.branches s h.there;
          holds = h.holds;
          below_home = (h.rest, h.path);
          other = b.process;
          lives = stands_there root (Live b.process) (h.branches ++ b.branches) s whole;
          below = (b.rest, b.path);
          other_waits = (b.chan, b.at_channel, refl);
        };
        other = λ e.
            never_below law d h.node b.branches l h.rest h.sound h.holds h.path
            (b.there ∙ ap Some (same_live root (h.branches ++ b.branches) q b.process l s whole place e)) stops;
      }

  held_at : LocalLaws o → (root : Node S) (l : S) (q : List ℕ) → SoundBelow o root → SharesItsOwn o (state root) → Rests o root → at q root ≡ Some (Live l) → IsHeldUp o root l
  held_at law root l q s own r place =
      let d = at_channel o l (at_rests o q root (Live l) r place) in
      let c = d.0.channel in
      let home = home_of o c q root (Live l) s (own c) place (law.next_shares l d.0 (sound_at o q root (Live l) s place) d.1) in
      let h = first_holder c root s r (own c) (from_home c root l s r home) in
      wait_from root l q d.0 law s place d.1 h (leftmost h.node h.sound h.quiet (holder_goes c h.node h.holds))

  pub held_up : LocalLaws o → (t : Tree S) (l : S) → IsBlockedTree o t → IsAmong l (lives t.root) → IsHeldUp o t.root l
  held_up law t l b i =
      let w = live_at l t.root i in
      held_at law t.root l w.0 b.sound.below b.sound.own (tree_rests o t b.sound.below b.rests) w.1

  -- ---- so the waits are those of the live processes, one for each

  present_each : (ls : List S) (f : S → Option Wait) → ((l : S) → IsAmong l ls → (w : Wait) × (f l ≡ Some w) × (w.path ≡ o.path l)) → map (λ w. w.path) (present (map f ls)) ≡ map o.path ls
  present_each [] f h = refl
  present_each (l ∷ ls) f h =
      let w = h l (inl refl) in
      let rest = present_each ls f (λ k i. h k (inr i)) in
      ap (λ z. map (λ v. v.path) (present (z ∷ map f ls))) w.1 ∙ (λ i. w.2 i ∷ rest i)

  pub each : LocalLaws o → (t : Tree S) → IsBlockedTree o t → map (λ w. w.path) (waits o t.root) ≡ map o.path (lives t.root)
  each law t b = present_each (lives t.root) (wait_of_process o t.root) (λ l i. let w = held_up law t l b i in (w.wait, w.is, w.its))
