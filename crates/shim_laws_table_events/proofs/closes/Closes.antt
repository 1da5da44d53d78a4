-- A fork has closed, and all above it was brought up to date: the records keep all that they kept.
use Rattle.std.proofs.Common.{◌≡◌, ◌≢◌, ◌+◌, ◌-◌, ℕ, Bool, true, false, Option, Some, None, List, map, length, slice_set, inl, inr, refl, sym, ap, subst, ◌∙◌, arith}
use Rattle.std.specs.Prelude.{slice_get}
use Rattle.std.specs.Option.{option_map}
use Rattle.std.proofs.lemmas.List.{length-set}
use Rattle.shim_base.specs.Paths.{Path, Channel}
use Rattle.shim_base.proofs.Facts.{some_same}
use Rattle.shim_local.specs.Process.{Ops}
use Rattle.shim_local.specs.Laws.{LocalLaws}
use Rattle.shim_semantics.specs.Nodes.{Node, Nodes, Live, Forked, Ended, Dead, Death, state, goes}
use Rattle.shim_semantics.specs.Acts.{Acted, closed}
use Rattle.shim_semantics.specs.Places.{at}
use Rattle.shim_semantics.specs.Trees.{Tree}
use Rattle.shim_semantics.proofs.Replaced.{sound_at}
use Rattle.shim_laws_table.specs.NodeStatus.{ProcessStatus, lives, forks, ends, dies, process_status, place}
use Rattle.shim_laws_table.specs.Agrees.{RecordView, Has, Represents}
use Rattle.shim_laws_table.specs.Places.{IsReplaced}
use Rattle.shim_laws_table.specs.Changes.{segment, prevailing_among}
use Rattle.shim_laws_table.specs.Counts.{ChildStatus as Read, going_of}
use Rattle.shim_laws_table.specs.Tallied.{Tallied, HaveCounts}
use Rattle.shim_laws_table.specs.Updating.{AreLinked, AreAtMost}
use Rattle.shim_laws_table.specs.Dooms.{min_dead_label}
use Rattle.shim_laws_table.specs.LoweredLabels.{Labelled, LabelsOnTheWay}
use Rattle.shim_laws_table.proofs.SameTrees.{no_fork}
use Rattle.shim_laws_table.proofs.Foreign.{foreign_stays}
use Rattle.shim_laws_table.proofs.Suffices.{given_suffice}
use Rattle.shim_laws_table.specs.Sufficing.{leaf_status}
use Rattle.shim_records.specs.Acted.{acting, AllUpdated}
use Rattle.shim_records.specs.UpdatesAbove.{AllUpdatedAbove, none_left, one_more}
use Rattle.shim_records.specs.Pairs.{record_view, up_in, counts_in, min_labels_in, known_of, known_in, rest_of, UncountedRecord}
use Rattle.shim_records.specs.CountingOff.{HasCountedOff}
use Rattle.shim_records.specs.declared.record.Record.{Record}
use Rattle.shim_records.proofs.Acting.{step_updates_counts}
use Rattle.shim_records.proofs.ManyPropagations.{rest_same, among_or_not}
use Rattle.shim_records.proofs.ReadOff.{same_views}
use Rattle.shim_records.proofs.FullPropagation.{rest_ups, kept_order}
use Rattle.shim_records.proofs.SharingFound.{rest_known, same_known_at}
use Rattle.shim_laws_table_events.specs.keeping.Tables.{IsFit, TableInvariant}
use Rattle.shim_laws_table_events.specs.keeping.Knowing.{AreKnown}
use Rattle.shim_laws_table_events.proofs.keeping.Forks.{as_many}
use Rattle.shim_laws_table_events.proofs.keeping.Knowing.{known_on, acts_fewer}
use Rattle.shim_laws_table_events.specs.closes.Laws.{ClosePreserves}
use Rattle.shim_laws_table_events.specs.closes.Closing.{RecordWithoutStatus, without_status, CountsOffIfOver, RecomputedIf}
use Rattle.shim_laws_table_events.proofs.closes.Saying.{leaves_said, map_length, said_alike, part, was_item, from_map, RecordBody, record_body, views_alike, going_elsewhere, going_less}
use Rattle.shim_laws_table_events.proofs.closes.Closed.{Begins, begins_too, Behind, behind as behind_close}
use Rattle.shim_laws_table_events.proofs.closes.RunningChildren.{still_go}
use Rattle.shim_laws_table_events.proofs.closes.Labels.{on_other_counts, as_before, at_first, brings_right, others, rest_recomputed, counts_recomputed}

-- labels stay where counts were updated
same_labels : {was is : Channel → Read} {n x : ℕ} {cs : List Channel} {before behind : List Record} (c : Channel) → AllUpdatedAbove was is n x cs before behind → min_labels_in c behind ≡ min_labels_in c before
same_labels c (none_left rs) = refl
same_labels c (one_more d cs read reads before between behind once u v way more) = same_labels c more ∙ (λ t i. way.1.labels c i t)

-- labels that were read off again leave all else
rest_if : {S : Type 0} (o : Ops S) (states : List S) (s : S) (n x : ℕ) (between behind : List Record) (d : Option Death) → RecomputedIf d o states s n x between behind → map rest_of behind ≡ map rest_of between
rest_if o states s n x between behind None e = ap (map rest_of) e
rest_if o states s n x between behind (Some d) e = rest_recomputed o states n x e.recomputed

-- what came of processes is as where the close began
pub views_stay : {S : Type 0} (o : Ops S) (states : List S) (s : S) (k : ProcessStatus) (n x : ℕ) (now left between behind : List Record) (d : Option Death) → CountsOffIfOver k x now left → AllUpdated o s k n x left between → RecomputedIf d o states s n x between behind
    → map record_view behind ≡ map record_view now
views_stay o states s k n x now left between behind d leaves walked again =
    same_views left behind (rest_if o states s n x between behind d again ∙ rest_same (acting o s) (λ c. leaf_status o c s k) n x walked.updated) ∙ views_alike now left (leaves_said k x now left leaves)

-- whether a process of this status goes on
abbrev goes_on : ProcessStatus → Bool
goes_on lives = true
goes_on (forks n) = true
goes_on ends = false
goes_on (dies d) = false

goes_by_status : {S : Type 0} (n : Node S) → goes n ≡ goes_on (process_status n)
goes_by_status (Live l) = refl
goes_by_status (Forked l ks) = refl
goes_by_status (Ended l) = refl
goes_by_status (Dead l d) = refl

no_label : {S : Type 0} (o : Ops S) (c : Channel) (l : S) (ks : List S) (a : Acted S) (d : Option Death) → a ≡ closed o l ks d → d ≡ None → min_dead_label o c a.node ≡ None
no_label o c l ks a d e f = ap (λ (z : Acted _). min_dead_label o c z.node) (e ∙ ap (closed o l ks) f)

one_less : (x y z : ℕ) → x ≡ z - 1 → y + 1 ≡ z → x ≡ y
one_less x y z e f = omega (arith, e, f)

module _ {S : Type 0} (o : Ops S) (law : LocalLaws o) (rp : Path) (t : Tree S) (states : List S) (rs now left between behind : List Record) (i g n : ℕ) (l : S) (a : Acted S)
    (kept : TableInvariant o rp (record { states = states; records = rs }) t.root) (has : Has states (map record_view rs) i g l (forks n)) (is : a ≡ closed o l (segment g n states) (prevailing_among (segment g n (map record_view rs))))
    (b : Behind o rp t states rs i g n l a now) (leaves : CountsOffIfOver (process_status a.node) i now left) (walked : AllUpdated o (state a.node) (process_status a.node) 4294967295 i left between)
    (again : RecomputedIf (prevailing_among (segment g n (map record_view rs))) o (slice_set states i (state a.node)) (state a.node) 4294967295 i between behind) where
  abbrev s : S
  s = state a.node

  abbrev k : ProcessStatus
  k = process_status a.node

  abbrev states' : List S
  states' = slice_set states i (state a.node)

  abbrev m : Node S
  m = Forked l b.children

  abbrev new : Node S
  new = b.tree.root

  abbrev q : List ℕ
  q = place o rp (state a.node)

  abbrev died : Option Death
  died = prevailing_among (segment g n (map record_view rs))

  -- ---- where one child less goes on

  said_same : map record_body left ≡ map record_body now
  said_same = leaves_said k i now left leaves

  begun : Begins o rp states' t.root new q i s k left
  begun = begins_too o rp states' t.root new q i s k now left said_same b.begins

  -- ---- where the counts were brought up to date

  brought : (map rest_of between ≡ map rest_of left) × ((c : Channel) → Tallied o rp states' (map record_view between) c (counts_in c between) new × HaveCounts o rp states' (map record_view between) c (counts_in c between) new)
  brought = step_updates_counts o law rp states' left between t.root new m a 4294967295 i begun.first s k kept.represents.sound begun.shown begun.linked begun.few begun.has b.replaced b.acts b.leaf b.near begun.there begun.counts walked

  abbrev views : List RecordView
  views = map record_view between

  st : map record_view left ≡ views
  st = sym (same_views left between brought.0)

  shown : Represents o rp states' views new
  shown = subst (λ z. Represents o rp states' z new) st begun.shown

  linked : AreLinked states' views (up_in between)
  linked = subst (AreLinked states' views) (sym (rest_ups left between brought.0)) (subst (λ z. AreLinked states' z (up_in left)) st begun.linked)

  mine : Has states' views i begun.first s k
  mine = subst (λ z. Has states' z i begun.first s k) st begun.has

  labels_on_way : (c : Channel) → LabelsOnTheWay o rp states' views c (counts_in c between) (min_labels_in c between) t.root new q
  labels_on_way c =
      subst (λ z. LabelsOnTheWay o rp states' views c (counts_in c between) z t.root new q) (sym (same_labels c walked.updated))
      (on_other_counts o rp states' views c (counts_in c left) (counts_in c between) (min_labels_in c left) t.root new q shown (subst (λ z. HaveCounts o rp states' z c (counts_in c left) new) st (begun.there c)) (brought.1 c).1
      (subst (λ z. LabelsOnTheWay o rp states' z c (counts_in c left) (min_labels_in c left) t.root new q) st (begun.labels c)))

  -- ---- where the labels were

  rest : map rest_of behind ≡ map rest_of between
  rest = rest_if o states' s 4294967295 i between behind died again

  counts : (c : Channel) → counts_in c behind ≡ counts_in c between
  counts c = on died again
    where
      on : (d : Option Death) → RecomputedIf d o states' s 4294967295 i between behind → counts_in c behind ≡ counts_in c between
      on None e = ap (counts_in c) e
      on (Some d) e = counts_recomputed o states' 4294967295 i c e.recomputed

  labelled : (c : Channel) → Labelled o rp states' views c (counts_in c between) (min_labels_in c behind) new
  labelled c = on died refl again
    where
      on : (d : Option Death) → died ≡ d → RecomputedIf d o states' s 4294967295 i between behind → Labelled o rp states' views c (counts_in c between) (min_labels_in c behind) new
      on None e same = subst (λ z. Labelled o rp states' views c (counts_in c between) (min_labels_in c z) new) (sym same)
          (as_before o rp states' views c (counts_in c between) (min_labels_in c between) t.root new a.node q l b.children b.replaced b.leaf b.done (b.prevails ∙ e) (no_label o c l (segment g n states) a died is e) (labels_on_way c))
      on (Some d) e y = elim (among_or_not c y.chans) [
        | inl w ↦ brings_right o law rp states' between t.root new m a.node 4294967295 i begun.first s k shown linked mine b.replaced (λ c. (brought.1 c).1) b.near c y.recomputed y.shared w
            (at_first o law rp states' between t.root new m a.node 4294967295 i begun.first s k shown linked mine b.replaced (λ c. (brought.1 c).1) b.near) (labels_on_way c)
        | inr out ↦ subst (λ z. Labelled o rp states' views c (counts_in c between) z new) (sym (others o states' 4294967295 i c y.recomputed out))
            ((given_suffice o law).labels rp states' views c t.root new m a i begun.first s k (counts_in c between) (min_labels_in c between) kept.represents.sound shown mine b.replaced b.acts (λ given shares. out (y.all c given shares)) (brought.1 c).1 (labels_on_way c))
      ]

  -- ---- all records

  rest_left : map rest_of behind ≡ map rest_of left
  rest_left = rest ∙ brought.0

  st_behind : views ≡ map record_view behind
  st_behind = sym (same_views between behind rest)

  st_now : map record_view behind ≡ map record_view now
  st_now = same_views left behind rest_left ∙ views_alike now left said_same

  -- what a record said before
  was_left : (j : ℕ) (w : Record) → slice_get behind j ≡ Some w → (x : Record) × (slice_get left j ≡ Some x) × (rest_of x ≡ rest_of w)
  was_left j w e = was_item rest_of left behind rest_left j w e

  was_now : (j : ℕ) (x : Record) → slice_get left j ≡ Some x → (z : Record) × (slice_get now j ≡ Some z) × (record_body z ≡ record_body x)
  was_now j x e = was_item record_body now left said_same j x e

  was_first : (j : ℕ) (z : Record) → j ≢ i → slice_get now j ≡ Some z → (y : Record) × (slice_get rs j ≡ Some y) × (without_status y ≡ without_status z)
  was_first j z far e = from_map without_status (slice_get rs j) (without_status z) (sym (b.other j far) ∙ ap (option_map without_status) e)

  going_children : (j d w : ℕ) (u v : S) (ks : Nodes S) (r : Record) → Has states' (map record_view now) j d u (forks w) → slice_get behind j ≡ Some r → at (place o rp u) new ≡ Some (Forked v ks) → r.going_children ≡ going_of ks
  going_children j d w u v ks r fork e there = elim (b.closes.only j d u (forks w) fork) [
    | inl x ↦ no_fork a.node w b.leaf (sym x.2)
    | inr x ↦
        let y = was_left j r e in
        let z = was_now j y.0 y.1 in
        let p = was_first j z.0 x.0 z.1 in
        ap (λ (z : UncountedRecord). z.going_children) (sym y.2) ∙ on k refl leaves y.0 z.0 p.0 y.1 z.1 p.1 (ap (λ (z : RecordWithoutStatus). z.going_children) p.2) x.2
  ]
    where
      less : goes a.node ≡ false → HasCountedOff i now left → (y z p : Record) → slice_get left j ≡ Some y → slice_get now j ≡ Some z → slice_get rs j ≡ Some p → p.going_children ≡ z.going_children → Has states (map record_view rs) j d u (forks w) → y.going_children ≡ going_of ks
      less f fewer y z p ey ez ep so was =
          let h = still_go o rp states (map record_view rs) (up_in rs) t.root new m a.node i g l (forks n) kept.represents kept.linked has (subst (λ z. IsReplaced z m a.node t.root new) b.same_place b.replaced) b.leaf refl f j d w u v ks was there in
          let first = kept.going_children j d w u v h.children p was ep h.there in
          elim h.so_many [
            | inl x ↦ one_less y.going_children (going_of ks) (going_of h.children) (going_less i now left fewer j z y (ap (λ f. f i) b.ups ∙ x.0) ez ey ∙ ap (λ n. n - 1) (sym so ∙ first)) x.1
            | inr x ↦ ap (λ (z : Record). z.going_children) (some_same y z (sym ey ∙ (going_elsewhere i now left fewer j (λ e. x.0 (ap (λ f. f i) (sym b.ups) ∙ e)) ∙ ez))) ∙ (sym so ∙ (first ∙ sym x.1))
          ]

      on : (h : ProcessStatus) → k ≡ h → CountsOffIfOver h i now left → (y z p : Record) → slice_get left j ≡ Some y → slice_get now j ≡ Some z → slice_get rs j ≡ Some p → p.going_children ≡ z.going_children → Has states (map record_view rs) j d u (forks w) → y.going_children ≡ going_of ks
      on lives f same y z p ey ez ep so was =
          let h = as_many o q m a.node t.root new b.replaced b.leaf (goes_by_status a.node ∙ ap goes_on f) (place o rp u) v ks there in
          ap (λ (z : Record). z.going_children) (some_same y z (sym ey ∙ (ap (λ z. slice_get z j) same ∙ ez))) ∙ (sym so ∙ (kept.going_children j d w u v h.children p was ep h.there ∙ sym h.same))
      on (forks c) f same y z p ey ez ep so was =
          let h = as_many o q m a.node t.root new b.replaced b.leaf (goes_by_status a.node ∙ ap goes_on f) (place o rp u) v ks there in
          ap (λ (z : Record). z.going_children) (some_same y z (sym ey ∙ (ap (λ z. slice_get z j) same ∙ ez))) ∙ (sym so ∙ (kept.going_children j d w u v h.children p was ep h.there ∙ sym h.same))
      on ends f fewer y z p ey ez ep so was = less (goes_by_status a.node ∙ ap goes_on f) fewer y z p ey ez ep so was
      on (dies x) f fewer y z p ey ez ep so was = less (goes_by_status a.node ∙ ap goes_on f) fewer y z p ey ez ep so was

  -- what is known stays, but at the fork that has closed
  known_same : (c : Channel) (j : ℕ) → j ≢ i → known_in c behind j ≡ known_in c rs j
  known_same c j far =
      rest_known left behind rest_left c j
      ∙ (same_known_at c (slice_get left j) (slice_get now j) (part record_body (λ (z : RecordBody). known_of z.pairs) (slice_get left j) (slice_get now j) (said_alike record_body now left said_same j))
      ∙ same_known_at c (slice_get now j) (slice_get rs j) (part without_status (λ (z : RecordWithoutStatus). known_of z.pairs) (slice_get now j) (slice_get rs j) (b.other j far)))

  was_fork : (j d w : ℕ) (u : S) → Has states' (map record_view now) j d u (forks w) → (j ≢ i) × Has states (map record_view rs) j d u (forks w)
  was_fork j d w u fork = elim (b.closes.only j d u (forks w) fork) [
    | inl x ↦ no_fork a.node w b.leaf (sym x.2)
    | inr x ↦ (x.0, x.2)
  ]

  known : (c : Channel) → AreKnown o rp states' (map record_view now) c (known_in c behind) new
  known c =
      known_on o rp (record { states = states; records = rs }) t.root new kept i g l (forks n) has m a.node (subst (λ z. IsReplaced z m a.node t.root new) b.same_place b.replaced)
      ((foreign_stays o law).given t.root m q a kept.represents.sound b.replaced.was b.acts) c (λ far. acts_fewer o law m a c (sound_at o q t.root m kept.represents.sound.below b.replaced.was) b.acts far) b.leaf states' (map record_view now) (known_in c behind)
      (λ j d w u fork. (was_fork j d w u fork).1) (λ j d w u fork. known_same c j (was_fork j d w u fork).0)

  fit : (j d : ℕ) (u : S) (h : ProcessStatus) (r : Record) → Has states' (map record_view now) j d u h → slice_get behind j ≡ Some r → IsFit o rp u r
  fit j d u h r has_it e =
      let y = was_left j r e in
      let z = was_now j y.0 y.1 in
      let path : r.path ≡ z.0.path = ap (λ (z : UncountedRecord). z.path) (sym y.2) ∙ ap (λ (z : RecordBody). z.path) (sym z.2) in
      elim (b.closes.only j d u h has_it) [
        | inl x ↦ subst (λ w. IsFit o rp w r) (sym x.1) (b.fits z.0 r (ap (slice_get now) (sym x.0) ∙ z.1) path)
        | inr x ↦
            let p = was_first j z.0 x.0 z.1 in
            let was = kept.fit j d u h p.0 x.2 p.1 in
            record { path = path ∙ (ap (λ (z : RecordWithoutStatus). z.path) (sym p.2) ∙ was.path); near = was.near; few = was.few }
      ]

  pub keeps : TableInvariant o rp (record { states = states'; records = behind }) new
  keeps = record {
    represents = subst (λ z. Represents o rp states' z new) st_behind shown;
    linked = subst (λ z. AreLinked states' (map record_view behind) z) (sym (rest_ups between behind rest)) (subst (λ z. AreLinked states' z (up_in between)) st_behind linked);
    few = subst (AreAtMost 4294967295 states') (st ∙ st_behind) begun.few;
    ordered = kept_order left behind rest_left begun.ordered;
    right = λ c. record {
      there = subst (λ z. HaveCounts o rp states' (map record_view behind) c z new) (sym (counts c)) (subst (λ z. HaveCounts o rp states' z c (counts_in c between) new) st_behind (brought.1 c).1);
      counts = subst (λ z. Tallied o rp states' (map record_view behind) c z new) (sym (counts c)) (subst (λ z. Tallied o rp states' z c (counts_in c between) new) st_behind (brought.1 c).0);
      labels = subst (λ z. Labelled o rp states' (map record_view behind) c z (min_labels_in c behind) new) (sym (counts c)) (subst (λ z. Labelled o rp states' z c (counts_in c between) (min_labels_in c behind) new) st_behind (labelled c));
    };
    going_children = λ j d w u v ks r fork e there. going_children j d w u v ks r (subst (λ z. Has states' z j d u (forks w)) st_now fork) e there;
    known = λ c. subst (λ z. AreKnown o rp states' z c (known_in c behind) new) (sym st_now) (known c);
    fit = λ j d u h r has_it e. fit j d u h r (subst (λ z. Has states' z j d u h) st_now has_it) e;
    beside = length-set states i s ∙ (kept.beside ∙ sym (sym (map_length rest_of behind) ∙ (ap length rest_left ∙ (map_length rest_of left ∙ (sym (map_length record_body left) ∙ (ap length said_same ∙ (map_length record_body now ∙ b.long)))))));
  }

-- The fork can close, and the tree behind is shown.
pub close_preserves : {S : Type 0} (o : Ops S) → LocalLaws o → ClosePreserves o
close_preserves o law rp t states rs freed left between behind i g n l q r a kept has at_q none is free come leaves walked again =
    let b = behind_close o law rp t states rs i g n l q a kept has at_q none is freed r free come in
    (b.tree, b.enabled, keeps o law rp t states rs (slice_set freed i r) left between behind i g n l a kept has is b leaves walked again)
