-- What a look at one record decides.
use Rattle.std.proofs.Common.{◌≡◌, ◌≢◌, ℕ, ◌+◌, ◌<◌, true, Option, Some, None, [], ◌∷◌, ◌++◌, inl, inr, refl, sym, ap, subst, ◌∙◌}
use Rattle.std.specs.Prelude.{slice_get}
use Rattle.shim_base.specs.Paths.{Path, Channel, NamedChannel}
use Rattle.shim_base.proofs.Facts.{none_some}
use Rattle.shim_base.proofs.SamePaths.{same_channel_is, same_channel_refl}
use Rattle.shim_local.specs.Process.{Ops, StopView, AtQuiet, AtNext, AtPut, AtFork, AtFinish, AtThrow, AtTrap}
use Rattle.shim_local.specs.Laws.{LocalLaws}
use Rattle.shim_semantics.specs.Nodes.{Node, Nodes, Forked, state, is_next, ready}
use Rattle.shim_semantics.specs.Places.{at, child_at}
use Rattle.shim_semantics.specs.Trees.{Tree, Event, Own, Meet, Poison, Close, End}
use Rattle.shim_semantics.proofs.PoisonsListed.{at_child as child_there}
use Rattle.shim_semantics.proofs.Replaced.{sound_at}
use Rattle.shim_laws_schedules.proofs.Homes.{NotBelow, no_further, child_further}
use Rattle.shim_laws_table.specs.NodeStatus.{ProcessStatus, lives, forks, place, how_many_nodes}
use Rattle.shim_laws_table.specs.Counts.{Tally, tally_of, tally_ready}
use Rattle.shim_laws_table.specs.Dooms.{min_dead_label_among, is_below}
use Rattle.shim_laws_table.specs.Enabled.{Can, EnabledByRecords, at_step, at_end, at_close, at_home, at_child}
use Rattle.shim_laws_table.proofs.CanHappen.{enabled_by_records}
use Rattle.shim_laws_table.proofs.MinLabels.{min_labels_decide, shared_not_below}
use Rattle.shim_laws_table.proofs.OneChange.{one_state}
use Rattle.shim_laws_table.proofs.Readiness.{by_counts}
use Rattle.shim_laws_table.proofs.SameTrees.{seen_some, seen_fork}
use Rattle.shim_records.specs.Pairs.{tally, pair_of, counts_in}
use Rattle.shim_records.specs.declared.pair.Pair.{Pair}
use Rattle.shim_records.specs.declared.record.Record.{Record}
use Rattle.shim_laws_table_events.specs.keeping.Tables.{TableView, HasProcessState, TableInvariant, views}
use Rattle.shim_laws_table_events.specs.queues.Requeueing.{IsAtNumber}
use Rattle.shim_laws_table_events.specs.queues.RecordDecisions.{CanHappenAt, to_step, to_end, to_meet, to_close, to_meet_below, to_poison}
use Rattle.shim_laws_table_events.proofs.queues.PairsFound.{pair_at, place_of_pair, record_of, counts_of, label_by, pair_by, counts_there}
use Rattle.shim_laws_table_events.proofs.queues.Readiness.{is_child, fork_ready, ready_is}

next_is : (s : StopView) (c : Channel) → is_next s c ≡ true → (d : NamedChannel) × (s ≡ AtNext d) × (d.channel ≡ c)
next_is AtQuiet c e = absurd cc
next_is AtPut c e = absurd cc
next_is AtFork c e = absurd cc
next_is AtFinish c e = absurd cc
next_is (AtNext d) c e = (d, refl, same_channel_is d.channel c e)
next_is (AtThrow x) c e = absurd cc
next_is (AtTrap a b) c e = absurd cc

pub all_by : (y : Pair) (z : Tally) → tally y ≡ z → tally_ready z ≡ true → tally_ready (tally y) ≡ true
all_by y z e f = ap tally_ready e ∙ f

pub low_by : (x y : Option ℕ) (h : ℕ) → x ≡ y → is_below y h ≡ true → is_below x h ≡ true
low_by x y h e f = ap (λ z. is_below z h) e ∙ f

module _ {S : Type 0} (o : Ops S) (law : LocalLaws o) (rp : Path) (v : TableView S) (t : Tree S) (kept : TableInvariant o rp v t.root) where
  by : EnabledByRecords o
  by = enabled_by_records o law

  -- the children of a fork's record
  fork_node : (i f n : ℕ) (l : S) → HasProcessState v i f l (forks n) → (ks : Nodes S) × (at (place o rp l) t.root ≡ Some (Forked l ks)) × (how_many_nodes ks ≡ n)
  fork_node i f n l has = seen_fork (at (place o rp l) t.root) l n (kept.represents.agrees.shown i f l (forks n) has)

  declared_here : (c : Channel) (l : S) → o.path l ≡ c.home → NotBelow c (o.path l)
  declared_here c l home x r e = no_further (o.path l) x r (home ∙ e)

  -- a pair of a record, by its channel
  pair_found : (i q : ℕ) (r : Record) (y : Pair) (c : Channel) → slice_get v.records i ≡ Some r → slice_get r.pairs.items q ≡ Some y → y.chan.channel ≡ c → pair_of c r.pairs.items ≡ Some y
  pair_found i q r y c re e same = subst (λ z. pair_of z r.pairs.items ≡ Some y) same (pair_at r.pairs.items q y (kept.ordered i r re) e)

  -- the child of a fork with this record
  record Child (l : S) (ks : Nodes S) (b : ℕ) (k : S) : Type 0 where
    node : Node S
    child : child_at b [] ks ≡ Some node
    there : at (place o rp k) t.root ≡ Some node
    further : (c : Channel) → NotBelow c (o.path l) → NotBelow c (o.path k)

  child_of : (i g n b f : ℕ) (l k : S) (x : ProcessStatus) (ks : Nodes S) → HasProcessState v i g l (forks n) → b < n → HasProcessState v (g + b) f k x → at (place o rp l) t.root ≡ Some (Forked l ks) → Child l ks b k
  child_of i g n b f l k x ks fork less has there =
      let w = kept.represents.agrees.below i g n l fork b less in
      let same : w.1 ≡ k = one_state v.states (views v) (g + b) w.0 f w.1 k w.2 x w.3 has in
      let placed : place o rp k ≡ place o rp l ++ b ∷ [] = ap (place o rp) (sym same) ∙ w.4 in
      let m = seen_some (at (place o rp k) t.root) k x (kept.represents.agrees.shown (g + b) f k x has) in
      let child : child_at b [] ks ≡ Some m.0 = sym (child_there (place o rp l) b t.root l ks there) ∙ (ap (λ z. at z t.root) (sym placed) ∙ m.1) in
      let s = sound_at o (place o rp l) t.root (Forked l ks) kept.represents.sound.below there in
      let h = is_child o l s.number 0 b ks m.0 s.children child in
      record {
        node = m.0;
        child = child;
        there = m.1;
        further = λ c out y r e. out (s.number, h.0) (y ∷ r) (e ∙ (ap (λ z. o.path z ++ y ∷ r) (sym m.2) ∙ child_further o l (state m.0) s.number h.0 (y ∷ r) h.1));
      }

  -- ---- what can happen by a record

  -- a pair of a fork that has its pairs right
  record Counted (i : ℕ) (l : S) (ks : Nodes S) (y : Pair) (c : Channel) : Type 0 where
    shared : o.shares l c ≡ true
    counts : tally y ≡ tally_of o c ks
    label : y.min_dead_label ≡ min_dead_label_among o c ks

  counted : (i f n q : ℕ) (l : S) (ks : Nodes S) (r : Record) (y : Pair) (c : Channel) → HasProcessState v i f l (forks n) → at (place o rp l) t.root ≡ Some (Forked l ks) → slice_get v.records i ≡ Some r → slice_get r.pairs.items q ≡ Some y → y.chan.channel ≡ c → Counted i l ks y c
  counted i f n q l ks r y c has there re e same =
      let p = pair_found i q r y c re e same in
      let w = counts_of c v.records i r y re p in
      let some : counts_in c v.records i ≢ None = λ z. none_some (tally y) (sym z ∙ w) in
      record {
        shared = (((kept.right c).there i f n l l ks has there).0 some).0;
        counts = (kept.right c).counts i f n l (tally y) l ks has w there;
        label = sym (label_by c v.records i r y re p) ∙ (kept.right c).labels i f n l l ks has some there;
      }

  pub due_can : {e : Event} (i : ℕ) → CanHappenAt o v i e → Can o t e × IsAtNumber o v e i
  due_can i (to_step f l p has stop path) = (subst (λ z. Can o t (Own z)) path ((by.steps rp v.states (views v) t i f l kept.represents has).1 stop), at_step i f l p has path)
  due_can i (to_end f l p has stop path) = (subst (λ z. Can o t (End z)) path ((by.ends rp v.states (views v) t i f l kept.represents has).1 stop), at_end i f l p has path)
  due_can i (to_meet f l d c has stop same home) = (
    (by.meets_alone rp v.states (views v) t c i f l kept.represents has home).1 (ap (λ z. is_next z c) stop ∙ (subst (λ z. is_next (AtNext d) z ≡ true) same (same_channel_refl d.channel))),
    at_home i f l lives c has (inl refl) home,
  )
  due_can i (to_close f n l r p has re none path) =
      let w = fork_node i f n l has in (
        subst (λ z. Can o t (Close z)) path ((by.closes rp v.states (views v) t i f n l w.0 kept.represents has w.1).1 (sym (kept.going_children i f n l l w.0 r has re w.1) ∙ none)),
        at_close i f n l p has path,
      )
  due_can i (to_meet_below f n q l r y c has re e same home all) =
      let w = fork_node i f n l has in
      let u = counted i f n q l w.0 r y c has w.1 re e same in (
        (by.meets_forked rp v.states (views v) t c i f n l w.0 kept.represents has home w.1).1 (ap tally_ready (sym u.counts) ∙ all),
        at_home i f l (forks n) c has (inr (n, refl)) home,
      )
  due_can i (to_poison g n q b f l k x r y p c has re e same low less child ready_on path) =
      let w = fork_node i g n l has in
      let u = counted i g n q l w.0 r y c has w.1 re e same in
      let m = child_of i g n b f l k x w.0 has less child w.1 in
      let out : NotBelow c (o.path l) = shared_not_below o t.root (place o rp l) (Forked l w.0) c kept.represents.sound w.1 u.shared in
      let is : ready o c m.node ≡ true = ready_is o law rp v t.root kept (g + b) f k x m.node c child m.there (m.further c out) ∙ ready_on in (
        subst (λ z. Can o t (Poison z c)) path ((by.poisons rp v.states (views v) t c i g n b f l k x w.0 m.node kept.represents has child less w.1 m.child).1 (u.shared, is, ap (λ z. is_below z (o.handlers l)) (sym u.label) ∙ low)),
        at_child i g n b f l k x p c has less child path,
      )

  -- ---- what can happen is decided by a record

  forked_due : (i f n : ℕ) (l : S) (c : Channel) → HasProcessState v i f l (forks n) → o.path l ≡ c.home → Can o t (Meet c) → CanHappenAt o v i (Meet c)
  forked_due i f n l c has home can =
      let w = fork_node i f n l has in
      let all : tally_ready (tally_of o c w.0) ≡ true = (by.meets_forked rp v.states (views v) t c i f n l w.0 kept.represents has home w.1).0 can in
      let y = counts_there (counts_in c v.records i) (sym (fork_ready o law rp v t.root kept i f n l w.0 c has w.1 (declared_here c l home)) ∙ (by_counts o c l w.0 ∙ all)) in
      let r = record_of v.records i f (forks n) has.view_is in
      let p = pair_by c v.records i r.0 y.0 r.1 y.1 in
      let q = place_of_pair c r.0.pairs.items p.0 p.1 in
      to_meet_below f n q.0 l r.0 p.0 c has r.1 q.1 q.2 home (all_by p.0 y.0 p.2 y.2)

  -- the pair by which the fork of a child that can be poisoned counts
  doomed_pair : (i g n : ℕ) (l : S) (ks : Nodes S) (c : Channel) → HasProcessState v i g l (forks n) → at (place o rp l) t.root ≡ Some (Forked l ks) → o.shares l c ≡ true → is_below (min_dead_label_among o c ks) (o.handlers l) ≡ true → (y : Tally) × (counts_in c v.records i ≡ Some y)
  doomed_pair i g n l ks c has there shared low = on (counts_in c v.records i) refl
    where
      nothing_below : (x : Option ℕ) → x ≡ None → is_below x (o.handlers l) ≡ true → ⊥
      nothing_below None e f = absurd cc
      nothing_below (Some z) e f = absurd cc

      on : (x : Option Tally) → counts_in c v.records i ≡ x → (y : Tally) × (counts_in c v.records i ≡ Some y)
      on (Some y) e = (y, e)
      on None e =
          absurd (nothing_below (min_dead_label_among o c ks)
          ((min_labels_decide o law).uncounted t.root (place o rp l) l ks c kept.represents.sound there (shared_not_below o t.root (place o rp l) (Forked l ks) c kept.represents.sound there shared) (λ w. ((kept.right c).there i g n l l ks has there).1 w e))
          low)

  pub can_due : {e : Event} {i : ℕ} → Can o t e → IsAtNumber o v e i → CanHappenAt o v i e
  can_due can (at_step i f l p has path) = to_step f l p has ((by.steps rp v.states (views v) t i f l kept.represents has).0 (subst (λ z. Can o t (Own z)) (sym path) can)) path
  can_due can (at_end i f l p has path) = to_end f l p has ((by.ends rp v.states (views v) t i f l kept.represents has).0 (subst (λ z. Can o t (End z)) (sym path) can)) path
  can_due can (at_close i f n l p has path) =
      let w = fork_node i f n l has in
      let r = record_of v.records i f (forks n) has.view_is in
      to_close f n l r.0 p has r.1 (kept.going_children i f n l l w.0 r.0 has r.1 w.1 ∙ (by.closes rp v.states (views v) t i f n l w.0 kept.represents has w.1).0 (subst (λ z. Can o t (Close z)) (sym path) can)) path
  can_due can (at_home i f l k c has (inl lively) home) =
      let is : HasProcessState v i f l lives = subst (HasProcessState v i f l) lively has in
      let d = next_is (o.stop l) c ((by.meets_alone rp v.states (views v) t c i f l kept.represents is home).0 can) in
      to_meet f l d.0 c is d.1 d.2 home
  can_due can (at_home i f l k c has (inr fork) home) = forked_due i f fork.0 l c (subst (HasProcessState v i f l) fork.1 has) home can
  can_due can (at_child i g n b f l k x p c has less child path) =
      let w = fork_node i g n l has in
      let m = child_of i g n b f l k x w.0 has less child w.1 in
      let h = (by.poisons rp v.states (views v) t c i g n b f l k x w.0 m.node kept.represents has child less w.1 m.child).0 (subst (λ z. Can o t (Poison z c)) (sym path) can) in
      let out : NotBelow c (o.path l) = shared_not_below o t.root (place o rp l) (Forked l w.0) c kept.represents.sound w.1 h.0 in
      let y = doomed_pair i g n l w.0 c has w.1 h.0 h.2 in
      let r = record_of v.records i g (forks n) has.view_is in
      let z = pair_by c v.records i r.0 y.0 r.1 y.1 in
      let q = place_of_pair c r.0.pairs.items z.0 z.1 in
      let u = counted i g n q.0 l w.0 r.0 z.0 c has w.1 r.1 q.1 q.2 in
      to_poison g n q.0 b f l k x r.0 z.0 p c has r.1 q.1 q.2 (low_by z.0.min_dead_label (min_dead_label_among o c w.0) (o.handlers l) u.label h.2) less child
      (sym (ready_is o law rp v t.root kept (g + b) f k x m.node c child m.there (m.further c out)) ∙ h.1) path
