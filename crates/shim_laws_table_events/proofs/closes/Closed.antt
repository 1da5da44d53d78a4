-- A fork closes: the tree after, and how states and records stand to it when nothing above was brought up to date.
use Rattle.std.proofs.Common.{◌≡◌, ◌≢◌, ◌≤◌, ℕ, Bool, true, false, cond, ltb, Option, Some, None, List, ◌++◌, map, length, drop, slice_set, inl, inr, refl, sym, ap, subst, ◌∙◌}
use Rattle.std.specs.Prelude.{slice_get}
use Rattle.std.specs.Option.{option_map}
use Rattle.std.proofs.lemmas.List.{length-set}
use Rattle.shim_base.specs.Paths.{Path, Channel}
use Rattle.shim_base.proofs.Facts.{some_same, none_some, cond_some}
use Rattle.shim_local.specs.Process.{Ops}
use Rattle.shim_local.specs.Laws.{LocalLaws}
use Rattle.shim_semantics.specs.Nodes.{Node, Nodes, Live, Forked, Dead, Death, handed, state, states as states_of, all_done, prevailing_death}
use Rattle.shim_semantics.specs.Acts.{Acted, act_here, thrown, closed, nothing, catch_logged}
use Rattle.shim_semantics.specs.Places.{at, branches, route}
use Rattle.shim_semantics.specs.Trees.{Tree, Close, after}
use Rattle.shim_semantics.proofs.Follows.{Keeps as NodeKeeps}
use Rattle.shim_semantics.proofs.Leading.{route_rest}
use Rattle.shim_semantics.proofs.Replaced.{sound_at}
use Rattle.shim_semantics.proofs.SoundEvents.{here_keeps}
use Rattle.shim_laws_table.specs.NodeStatus.{ProcessStatus, forks, process_status, is_leaf, place, how_many_nodes}
use Rattle.shim_laws_table.specs.Agrees.{RecordView, Has, Represents}
use Rattle.shim_laws_table.specs.Places.{IsReplaced, HasActed}
use Rattle.shim_laws_table.specs.Changes.{HasClosed, segment, prevailing_among}
use Rattle.shim_laws_table.specs.Counts.{going_of}
use Rattle.shim_laws_table.specs.Tallied.{OnTheWay, HaveCounts}
use Rattle.shim_laws_table.specs.Updating.{AreLinked, AreAtMost}
use Rattle.shim_laws_table.specs.LoweredLabels.{LabelsOnTheWay}
use Rattle.shim_laws_table.proofs.Begun.{counts_begin}
use Rattle.shim_laws_table.proofs.CanHappen.{enabled_by_records}
use Rattle.shim_laws_table.proofs.Children.{children_are_represented}
use Rattle.shim_laws_table.proofs.EventPlaces.{events_show}
use Rattle.shim_laws_table.proofs.Foreign.{foreign_stays}
use Rattle.shim_laws_table.proofs.LabelsBegun.{labels_begin}
use Rattle.shim_laws_table.proofs.Linked.{links_follow}
use Rattle.shim_laws_table.proofs.SameTrees.{same_or_not, no_fork, seen_fork}
use Rattle.shim_laws_table.proofs.Shown.{events_preserve}
use Rattle.shim_records.specs.Pairs.{record_view, up_at, up_in, counts_in, min_labels_in, chans_of, IsOrdered, AreOrdered}
use Rattle.shim_records.specs.declared.record.Record.{Record}
use Rattle.shim_records.proofs.Representing.{blocks_are_events}
use Rattle.shim_records.proofs.Stepping.{set_there, set_elsewhere}
use Rattle.shim_laws_table_events.specs.keeping.Tables.{IsFit, TableInvariant}
use Rattle.shim_laws_table_events.specs.closes.Closing.{RecordWithoutStatus, without_status, AreFreed, HasCome}
use Rattle.shim_laws_table_events.proofs.closes.Saying.{map_length, from_map, said_alike, part, same_counts_at, same_labels_at, same_parent_at, record_body, views_alike, said_ups, said_counts, said_labels, said_order}

some_of : {A : Type 0} (x : Option A) → x ≢ None → (y : A) × (x ≡ Some y)
some_of None h = absurd (h refl)
some_of (Some y) h = (y, refl)

thrown_leaf : {S : Type 0} (o : Ops S) (l : S) (d : Death) → is_leaf (thrown o l d).node ≡ true
thrown_leaf {S = S} o l d = on (ltb d.label (o.base l))
  where
    on : (b : Bool) → is_leaf (cond {A = Acted S} b (record { node = Dead l d; effects = nothing }) (record { node = Live (o.unwind l d.label (handed d.given)); effects = catch_logged (o.handler l d.label) })).node ≡ true
    on true = refl
    on false = refl

closed_leaf : {S : Type 0} (o : Ops S) (l : S) (ks : List S) (d : Option Death) → is_leaf (closed o l ks d).node ≡ true
closed_leaf o l ks None = refl
closed_leaf o l ks (Some d) = thrown_leaf o (o.join l ks false) d

-- Records that show the tree after, where counts and labels above a place are still those of the tree before.
pub record Begins {S : Type 0} (o : Ops S) (rp : Path) (states : List S) (old new : Node S) (q : List ℕ) (i : ℕ) (s : S) (k : ProcessStatus) (rs : List Record) : Type 0 where
  pub shown : Represents o rp states (map record_view rs) new
  pub linked : AreLinked states (map record_view rs) (up_in rs)
  pub few : AreAtMost 4294967295 states (map record_view rs)
  pub ordered : AreOrdered rs
  pub first : ℕ
  pub has : Has states (map record_view rs) i first s k
  pub there : (c : Channel) → HaveCounts o rp states (map record_view rs) c (counts_in c rs) new
  pub counts : (c : Channel) → OnTheWay o rp states (map record_view rs) c (counts_in c rs) old new q
  pub labels : (c : Channel) → LabelsOnTheWay o rp states (map record_view rs) c (counts_in c rs) (min_labels_in c rs) old new q

-- so do records that say the same
pub begins_too : {S : Type 0} (o : Ops S) (rp : Path) (states : List S) (old new : Node S) (q : List ℕ) (i : ℕ) (s : S) (k : ProcessStatus) (rs left : List Record) → map record_body left ≡ map record_body rs → Begins o rp states old new q i s k rs → Begins o rp states old new q i s k left
begins_too o rp states old new q i s k rs left h b =
    let st = sym (views_alike rs left h) in
    let counts = λ (c : Channel). sym (said_counts rs left h c) in
    record {
      shown = subst (λ z. Represents o rp states z new) st b.shown;
      linked = subst (λ z. AreLinked states (map record_view left) z) (sym (said_ups rs left h)) (subst (λ z. AreLinked states z (up_in rs)) st b.linked);
      few = subst (AreAtMost 4294967295 states) st b.few;
      ordered = said_order rs left h b.ordered;
      first = b.first;
      has = subst (λ z. Has states z i b.first s k) st b.has;
      there = λ c. subst (λ z. HaveCounts o rp states (map record_view left) c z new) (counts c) (subst (λ z. HaveCounts o rp states z c (counts_in c rs) new) st (b.there c));
      counts = λ c. subst (λ z. OnTheWay o rp states (map record_view left) c z old new q) (counts c) (subst (λ z. OnTheWay o rp states z c (counts_in c rs) old new q) st (b.counts c));
      labels = λ c. subst (λ z. LabelsOnTheWay o rp states (map record_view left) c (counts_in c left) z old new q) (sym (said_labels rs left h c))
          (subst (λ z. LabelsOnTheWay o rp states (map record_view left) c z (min_labels_in c rs) old new q) (counts c)
          (subst (λ z. LabelsOnTheWay o rp states z c (counts_in c rs) (min_labels_in c rs) old new q) st (b.labels c)));
    }

-- What is known where a fork closes: of the tree after, and of records of which those of its children are free, and its own says what came of it.
pub record Behind {S : Type 0} (o : Ops S) (rp : Path) (t : Tree S) (states : List S) (rs : List Record) (i g n : ℕ) (l : S) (a : Acted S) (now : List Record) : Type 0 where
  pub tree : Tree S
  pub enabled : after o (Close (o.path l)) t ≡ Some tree
  pub children : Nodes S
  pub done : all_done children ≡ true
  pub prevails : prevailing_death children ≡ prevailing_among (segment g n (map record_view rs))
  pub acts : act_here o (Forked l children) ≡ Some a
  pub replaced : IsReplaced (place o rp (state a.node)) (Forked l children) a.node t.root tree.root
  pub leaf : is_leaf a.node ≡ true
  pub same_place : place o rp (state a.node) ≡ place o rp l
  pub closes : HasClosed states (slice_set states i (state a.node)) (map record_view rs) (map record_view now) i g n (state a.node) (process_status a.node)
  pub begins : Begins o rp (slice_set states i (state a.node)) t.root tree.root (place o rp (state a.node)) i (state a.node) (process_status a.node) now
  pub near : length (place o rp (state a.node)) ≤ 4294967295
  -- of its record, of another one, and of all
  pub fits : (z w : Record) → slice_get now i ≡ Some z → w.path ≡ z.path → IsFit o rp (state a.node) w
  pub other : (j : ℕ) → j ≢ i → option_map without_status (slice_get now j) ≡ option_map without_status (slice_get rs j)
  pub ups : up_in now ≡ up_in rs
  pub long : length now ≡ length rs

module _ {S : Type 0} (o : Ops S) (law : LocalLaws o) (rp : Path) (t : Tree S) (states : List S) (rs : List Record) (i g n : ℕ) (l : S) (q : Record) (a : Acted S)
    (kept : TableInvariant o rp (record { states = states; records = rs }) t.root) (has : Has states (map record_view rs) i g l (forks n)) (at_q : slice_get rs i ≡ Some q) (none : q.going_children ≡ 0)
    (is : a ≡ closed o l (segment g n states) (prevailing_among (segment g n (map record_view rs)))) where
  abbrev old_views : List RecordView
  old_views = map record_view rs

  abbrev states' : List S
  states' = slice_set states i (state a.node)

  -- ---- the tree after

  fork : (ks : Nodes S) × (at (place o rp l) t.root ≡ Some (Forked l ks)) × (how_many_nodes ks ≡ n)
  fork = seen_fork (at (place o rp l) t.root) l n (kept.represents.agrees.shown i g l (forks n) has)

  abbrev m : Node S
  m = Forked l fork.0

  none_go : going_of fork.0 ≡ 0
  none_go = sym (kept.going_children i g n l l fork.0 q has at_q fork.1) ∙ none

  next : (u : Tree S) × (after o (Close (o.path l)) t ≡ Some u)
  next = some_of (after o (Close (o.path l)) t) (((enabled_by_records o law).closes rp states old_views t i g n l fork.0 kept.represents has fork.1).1 none_go)

  abbrev new : Node S
  new = next.0.root

  children_say : (how_many_nodes fork.0 ≡ n) × (states_of fork.0 ≡ segment g n states) × (prevailing_death fork.0 ≡ prevailing_among (segment g n old_views))
  children_say = children_are_represented o rp states old_views t.root i g n l fork.0 kept.represents.agrees has fork.1

  acted : HasActed o (o.path l) t.root new
  acted = (events_show o law).alone t next.0 (o.path l) (Close (o.path l)) refl next.1

  at_place : acted.place ≡ place o rp l
  at_place = (route_rest rp (o.path l) acted.place (ap (λ z. route z (o.path l)) (sym kept.represents.root_path) ∙ acted.leads)).1

  its_node : acted.node ≡ m
  its_node = some_same acted.node m (sym acted.replaced.was ∙ (ap (λ z. at z t.root) at_place ∙ fork.1))

  does : act_here o m ≡ Some acted.acted
  does = ap (act_here o) (sym its_node) ∙ acted.acts

  is_acted : acted.acted ≡ a
  is_acted = sym (cond_some (all_done fork.0) (closed o l (states_of fork.0) (prevailing_death fork.0)) acted.acted does).1 ∙ ((λ j. closed o l (children_say.1 j) (children_say.2 j)) ∙ sym is)

  done : all_done fork.0 ≡ true
  done = (cond_some (all_done fork.0) (closed o l (states_of fork.0) (prevailing_death fork.0)) acted.acted does).0

  acts : act_here o m ≡ Some a
  acts = does ∙ ap Some is_acted

  replaced : IsReplaced (place o rp l) m a.node t.root new
  replaced = subst (λ z. IsReplaced (place o rp l) m z t.root new) (ap (λ (z : Acted S). z.node) is_acted) (record {
    was = fork.1;
    is = ap (λ z. at z new) (sym at_place) ∙ acted.replaced.is;
    aside = λ p far. acted.replaced.aside p (λ s w. far s (w ∙ ap (λ z. z ++ s) at_place));
  })

  leaf : is_leaf a.node ≡ true
  leaf = ap (λ (z : Acted S). is_leaf z.node) is ∙ closed_leaf o l (segment g n states) (prevailing_among (segment g n old_views))

  keeps : NodeKeeps o m a.node
  keeps = here_keeps o law m a (sound_at o (place o rp l) t.root m kept.represents.sound.below fork.1) acts

  path : o.path (state a.node) ≡ o.path l
  path = keeps.follows.path

  given : o.given (state a.node) ≡ o.given l
  given = (foreign_stays o law).given t.root m (place o rp l) a kept.represents.sound fork.1 acts

  same_place : place o rp (state a.node) ≡ place o rp l
  same_place = ap (λ z. branches (drop (length rp) z)) path

  -- so it was given as few channels
  pub given_few : length (o.given (state a.node)) ≤ 18446744073709551615
  given_few = subst (λ z. length z ≤ 18446744073709551615) (sym given) (kept.fit i g l (forks n) q has at_q).few

  -- ---- the records

  module _ (freed : List Record) (r : Record) (free : AreFreed g n rs freed) (come : HasCome q r (process_status a.node)) where
    abbrev now : List Record
    now = slice_set freed i r

    abbrev views : List RecordView
    views = map record_view now

    closes : HasClosed states states' old_views views i g n (state a.node) (process_status a.node)
    closes = (blocks_are_events o).close rp states rs freed t.root i g n come.first l (state a.node) (process_status a.node) r kept.represents.agrees has free.freed come.view_is

    -- a fork was one before
    was_fork : (j d w : ℕ) (s : S) → Has states' views j d s (forks w) → (j ≢ i) × Has states old_views j d s (forks w)
    was_fork j d w s h = elim (closes.only j d s (forks w) h) [
      | inl x ↦ no_fork a.node w leaf (sym x.2)
      | inr x ↦ (x.0, x.2)
    ]

    its : slice_get now i ≡ Some r
    its =
        let w = from_map without_status (slice_get freed i) (without_status q) (said_alike without_status rs freed free.beside i ∙ ap (option_map without_status) at_q) in
        set_there freed i w.0 r w.1

    -- another record says the same beside what came of its process
    other : (j : ℕ) → j ≢ i → option_map without_status (slice_get now j) ≡ option_map without_status (slice_get rs j)
    other j far = ap (option_map without_status) (set_elsewhere freed i j r far) ∙ said_alike without_status rs freed free.beside j

    counts_other : (c : Channel) (j : ℕ) → j ≢ i → counts_in c now j ≡ counts_in c rs j
    counts_other c j far = same_counts_at c (slice_get now j) (slice_get rs j) (part without_status (λ (z : RecordWithoutStatus). z.pairs) (slice_get now j) (slice_get rs j) (other j far))

    labels_other : (c : Channel) (j : ℕ) → j ≢ i → min_labels_in c now j ≡ min_labels_in c rs j
    labels_other c j far = same_labels_at c (slice_get now j) (slice_get rs j) (part without_status (λ (z : RecordWithoutStatus). z.pairs) (slice_get now j) (slice_get rs j) (other j far))

    parent_is : (j : ℕ) → up_in now j ≡ up_in rs j
    parent_is j = elim (same_or_not j i) [
      | inl w ↦ ap (up_in now) w ∙ (ap up_at its ∙ (come.parent ∙ (sym (ap up_at at_q) ∙ ap (up_in rs) (sym w))))
      | inr w ↦ same_parent_at (slice_get now j) (slice_get rs j) (part without_status (λ (z : RecordWithoutStatus). z.parent) (slice_get now j) (slice_get rs j) (other j w))
    ]

    ups : up_in now ≡ up_in rs
    ups = λ w j. parent_is j w

    begun : (c : Channel) → OnTheWay o rp states' views c (counts_in c now) t.root new (place o rp l) × HaveCounts o rp states' views c (counts_in c now) new
    begun c = (counts_begin o).closed rp states states' old_views views c t.root new i g n l fork.0 a.node (counts_in c rs) (counts_in c now) replaced leaf given closes (counts_other c) (kept.right c).counts (kept.right c).there

    ordered_at : (j : ℕ) (w : Record) → slice_get now j ≡ Some w → IsOrdered (chans_of w.pairs.items)
    ordered_at j w e = elim (same_or_not j i) [
      | inl x ↦
          let is_r : r ≡ w = some_same r w (sym its ∙ (ap (slice_get now) (sym x) ∙ e)) in
          subst (λ z. IsOrdered (chans_of z)) (sym come.no_pairs ∙ ap (λ (z : Record). z.pairs.items) is_r) (record { order = λ x y c d less u v. none_some c u })
      | inr x ↦
          let v = from_map without_status (slice_get rs j) (without_status w) (sym (other j x) ∙ ap (option_map without_status) e) in
          subst (λ z. IsOrdered (chans_of z)) (ap (λ (z : RecordWithoutStatus). z.pairs) v.2) (kept.ordered j v.0 v.1)
    ]

    begins : Begins o rp states' t.root new (place o rp l) i (state a.node) (process_status a.node) now
    begins = record {
      shown = (events_preserve o law).closed rp states states' old_views views t next.0 i g n l a kept.represents has next.1 is closes;
      linked = subst (AreLinked states' views) (sym ups) ((links_follow o).closed states states' old_views views i g n a.node (up_in rs) leaf closes kept.linked);
      few = λ j d w s h. kept.few j d w s (was_fork j d w s h).1;
      ordered = ordered_at;
      first = closes.first;
      has = closes.parent;
      there = λ c. (begun c).1;
      counts = λ c. (begun c).0;
      labels = λ c. (labels_begin o).closed rp states states' old_views views c t.root new i g n l fork.0 a.node (counts_in c rs) (counts_in c now) (min_labels_in c rs) (min_labels_in c now) replaced leaf closes (counts_other c) (labels_other c) (kept.right c).labels;
    }

    -- what came of it still fits
    fits : (z w : Record) → slice_get now i ≡ Some z → w.path ≡ z.path → IsFit o rp (state a.node) w
    fits z w e f =
        let was = kept.fit i g l (forks n) q has at_q in
        record {
          path = f ∙ (ap (λ (z : Record). z.path) (some_same z r (sym e ∙ its)) ∙ (come.path ∙ (was.path ∙ sym path)));
          near = subst (λ z. length z ≤ 4294967295) (sym same_place) was.near;
          few = subst (λ z. length z ≤ 18446744073709551615) (sym given) was.few;
        }

    pub behind : Behind o rp t states rs i g n l a now
    behind = record {
      tree = next.0;
      enabled = next.1;
      children = fork.0;
      done = done;
      prevails = children_say.2;
      acts = acts;
      replaced = subst (λ z. IsReplaced z m a.node t.root new) (sym same_place) replaced;
      leaf = leaf;
      same_place = same_place;
      closes = closes;
      begins = subst (λ z. Begins o rp states' t.root new z i (state a.node) (process_status a.node) now) (sym same_place) begins;
      near = subst (λ z. length z ≤ 4294967295) (sym same_place) (kept.fit i g l (forks n) q has at_q).near;
      fits = fits;
      other = other;
      ups = ups;
      long = length-set freed i r ∙ (sym (map_length without_status freed) ∙ (ap length free.beside ∙ map_length without_status rs));
    }
