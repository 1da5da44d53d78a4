-- What a live process did by itself, as an event of the tree that records show.
use Rattle.std.proofs.Common.{◌≡◌, ◌≤◌, ℕ, true, false, Some, List, map, slice_set, refl, sym, ap, subst}
use Rattle.shim_base.specs.Paths.{Path, Channel}
use Rattle.shim_base.proofs.Facts.{none_some}
use Rattle.shim_local.specs.Process.{Ops, StopView, AtQuiet, AtNext, AtPut, AtFork, AtFinish, AtThrow, AtTrap}
use Rattle.shim_local.specs.Laws.{LocalLaws}
use Rattle.shim_semantics.specs.Nodes.{Node, Live, Forked, Ended, Dead, state, is_next}
use Rattle.shim_semantics.specs.Acts.{Acted, act_live}
use Rattle.shim_semantics.specs.Places.{at}
use Rattle.shim_semantics.specs.Sound.{carriers}
use Rattle.shim_semantics.specs.Trees.{Tree, Own, End, after, own_action_at}
use Rattle.shim_semantics.proofs.Follows as follows
use Rattle.shim_semantics.proofs.Replaced.{sound_at}
use Rattle.shim_semantics.proofs.ReplacedNodes.{put}
use Rattle.shim_semantics.proofs.SoundEvents.{here_keeps}
use Rattle.shim_laws_table.specs.NodeStatus.{lives, process_status, is_leaf, place}
use Rattle.shim_laws_table.specs.Agrees.{RecordView, Has, Represents}
use Rattle.shim_laws_table.specs.Places.{IsReplaced, IsBy}
use Rattle.shim_laws_table.specs.Changes.{HasChanged}
use Rattle.shim_laws_table.proofs.SameTrees.{seen_live, put_replaces}
use Rattle.shim_laws_table.proofs.OneTree.{one_tree}
use Rattle.shim_laws_table.proofs.Shown.{events_preserve, one_change_is_represented}
use Rattle.shim_laws_table.proofs.CanHappen.{enabled_by_records}
use Rattle.shim_laws_table.proofs.Foreign.{foreign_stays}
use Rattle.shim_records.specs.Pairs.{record_view}
use Rattle.shim_laws_table_events.specs.keeping.Acting.{event_at_stop, StepPreserves}
use Rattle.shim_laws_table_events.proofs.keeping.Knowing.{acts_fewer}
use Rattle.shim_laws_table_events.proofs.keeping.Moved.{Stays, moved}
use Rattle.shim_laws_table_events.proofs.keeping.Steps.{some_of, set_changed}

by_event : (s : StopView) (p : Path) → IsBy p (event_at_stop s p)
by_event AtFinish p = refl
by_event AtQuiet p = refl
by_event AtPut p = refl
by_event AtFork p = refl
by_event (AtNext c) p = refl
by_event (AtThrow label) p = refl
by_event (AtTrap kind line) p = refl

module _ {S : Type 0} (o : Ops S) (law : LocalLaws o) where
  -- who can do anything by itself is at no channel
  pub unread : (l : S) (a : Acted S) → act_live o l (o.stop l) ≡ Some a → (c : Channel) → is_next (o.stop l) c ≡ false
  unread l a does c = on (o.stop l) does
    where
      on : (s : StopView) → act_live o l s ≡ Some a → is_next s c ≡ false
      on (AtNext d) e = none_some a e
      on AtFinish e = refl
      on AtQuiet e = refl
      on AtPut e = refl
      on AtFork e = refl
      on (AtThrow label) e = refl
      on (AtTrap kind line) e = refl

  module _ (rp : Path) (states states' : List S) (old_views views : List RecordView) (t : Tree S) (x f : ℕ) (l : S) (a : Acted S) (represents : Represents o rp states old_views t.root) (has : Has states old_views x f l lives) (does : act_live o l (o.stop l) ≡ Some a) (leaf : is_leaf a.node ≡ true)
      (change : HasChanged states states' old_views views x (state a.node) (process_status a.node)) where
    there : at (place o rp l) t.root ≡ Some (Live l)
    there = seen_live (at (place o rp l) t.root) l (represents.agrees.shown x f l lives has)

    pub keeps : follows.Keeps o (Live l) a.node
    keeps = here_keeps o law (Live l) a (sound_at o (place o rp l) t.root (Live l) represents.sound.below there) does

    pub next : (u : Tree S) × (after o (event_at_stop (o.stop l) (o.path l)) t ≡ Some u)
    next = on (o.stop l) refl does
      where
        on : (s : StopView) → o.stop l ≡ s → act_live o l s ≡ Some a → (u : Tree S) × (after o (event_at_stop s (o.path l)) t ≡ Some u)
        on (AtNext c) e d = none_some a d
        on AtFinish e d = some_of (after o (End (o.path l)) t) (((enabled_by_records o law).ends rp states old_views t x f l represents has).1 (ap own_action_at e))
        on AtQuiet e d = some_of (after o (Own (o.path l)) t) (((enabled_by_records o law).steps rp states old_views t x f l represents has).1 (ap own_action_at e))
        on AtPut e d = some_of (after o (Own (o.path l)) t) (((enabled_by_records o law).steps rp states old_views t x f l represents has).1 (ap own_action_at e))
        on AtFork e d = some_of (after o (Own (o.path l)) t) (((enabled_by_records o law).steps rp states old_views t x f l represents has).1 (ap own_action_at e))
        on (AtThrow label) e d = some_of (after o (Own (o.path l)) t) (((enabled_by_records o law).steps rp states old_views t x f l represents has).1 (ap own_action_at e))
        on (AtTrap kind line) e d = some_of (after o (Own (o.path l)) t) (((enabled_by_records o law).steps rp states old_views t x f l represents has).1 (ap own_action_at e))

    pub shown : Represents o rp states' views next.0.root
    shown = (events_preserve o law).stepped rp states states' old_views views t next.0 (event_at_stop (o.stop l) (o.path l)) x f l a represents has (by_event (o.stop l) (o.path l)) next.1 does leaf change

    pub replaced : IsReplaced (place o rp l) (Live l) a.node t.root next.0.root
    replaced =
        let rep = put_replaces (place o rp l) (Live l) a.node t.root there in
        let agrees = one_change_is_represented o rp states states' old_views views t.root (put (place o rp l) a.node t.root) (Live l) a.node x f represents.agrees has refl leaf keeps.follows.path rep change in
        subst (IsReplaced (place o rp l) (Live l) a.node t.root) (one_tree o rp states' views (put (place o rp l) a.node t.root) next.0.root shown.rooted agrees shown.agrees) rep

    -- a node without children carries what its process does
    of_leaf : (n : Node S) → is_leaf n ≡ true → (c : Channel) → carriers o c n ≤ carriers o c (Live l) → carriers o c (Live (state n)) ≤ carriers o c (Live l)
    of_leaf (Live s) e c h = h
    of_leaf (Ended s) e c h = h
    of_leaf (Dead s d) e c h = h
    of_leaf (Forked s ks) e c h = absurd cc

    pub stay : Stays o l (state a.node)
    stay = record {
      path = keeps.follows.path;
      given = (foreign_stays o law).given t.root (Live l) (place o rp l) a represents.sound there does;
      shares = λ c far. sym ((foreign_stays o law).shares t.root (Live l) (place o rp l) a c represents.sound there does far);
      carries = λ c far. of_leaf a.node leaf c (acts_fewer o law (Live l) a c (sound_at o (place o rp l) t.root (Live l) represents.sound.below there) does far);
    }

  pub lives_on : StepPreserves o
  lives_on states rs behind x f l s effects has does propagates rp t kept =
      let a : Acted S = record { node = Live s; effects = effects } in
      let st = map record_view rs in
      let change = set_changed o law rp st states x f l s has in
      let u = next rp states (slice_set states x s) st st t x f l a kept.represents has does refl change in (
        u.0,
        u.1,
        moved o law rp states rs behind t.root u.0.root l s x f kept has (shown rp states (slice_set states x s) st st t x f l a kept.represents has does refl change)
            (replaced rp states (slice_set states x s) st st t x f l a kept.represents has does refl change) (stay rp states (slice_set states x s) st st t x f l a kept.represents has does refl change) (unread l a does) propagates
            (keeps rp states (slice_set states x s) st st t x f l a kept.represents has does refl change).below,
      )
