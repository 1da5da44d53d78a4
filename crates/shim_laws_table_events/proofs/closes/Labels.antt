-- The labels above a fork that has closed: read off again for several channels one after another, or as before where no child died.
use Rattle.std.proofs.Common.{◌≡◌, ◌≤◌, ℕ, zero, suc, Bool, true, false, cond, Option, Some, None, List, ◌∷◌, map, length, refl, sym, ap, subst, ◌∙◌}
use Rattle.std.specs.Prelude.{slice_get}
use Rattle.std.specs.Option.{option_map}
use Rattle.shim_base.specs.Paths.{Path, Channel, same_channel}
use Rattle.shim_base.proofs.Facts.{some_same, none_some}
use Rattle.shim_base.proofs.SamePaths.{same_channel_is, same_channel_refl}
use Rattle.shim_local.specs.Process.{Ops}
use Rattle.shim_local.specs.Laws.{LocalLaws}
use Rattle.shim_semantics.specs.Nodes.{Node, Nodes, Live, Forked, Ended, Dead, Death, no_node, node_and, all_done, prevailing, prevailing_death}
use Rattle.shim_semantics.specs.Places.{at}
use Rattle.shim_semantics.proofs.HowMany.{clash}
use Rattle.shim_laws_table.specs.NodeStatus.{ProcessStatus, forks, is_leaf, place}
use Rattle.shim_laws_table.specs.Agrees.{RecordView, Has, Represents}
use Rattle.shim_laws_table.specs.Places.{IsReplaced}
use Rattle.shim_laws_table.specs.Counts.{Tally}
use Rattle.shim_laws_table.specs.Tallied.{HaveCounts, is_above}
use Rattle.shim_laws_table.specs.Updating.{AreLinked}
use Rattle.shim_laws_table.specs.Dooms.{min_dead_label, min_dead_label_among}
use Rattle.shim_laws_table.specs.LoweredLabels.{Labelled, LabelsOnTheWay}
use Rattle.shim_laws_table.specs.Recomputing.{Recomputed, NoneUncounted}
use Rattle.shim_laws_table.proofs.MinLabels.{min_labels_follow}
use Rattle.shim_laws_table.proofs.Recomputes.{labels_recomputed}
use Rattle.shim_laws_table.proofs.SameTrees.{seen_fork}
use Rattle.shim_records.specs.Members.{IsAmong}
use Rattle.shim_records.specs.Labels.{OnlyLabels}
use Rattle.shim_records.specs.Pairs.{record_view, up_in, counts_at, counts_in, min_label_at, min_labels_in, rest_of, pair_of, min_label_of, tally}
use Rattle.shim_records.specs.Recomputing.{IsRecomputed}
use Rattle.shim_records.specs.declared.pair.Pair.{Pair}
use Rattle.shim_records.specs.declared.record.Record.{Record}
use Rattle.shim_records.proofs.ReadOff.{same_views}
use Rattle.shim_records.proofs.FullPropagation.{rest_ups}
use Rattle.shim_laws_table_events.proofs.keeping.Forks.{carried}
use Rattle.shim_laws_table_events.specs.closes.Closing.{AllRecomputed, none_left, one_more}

-- another channel than the first is among those after it
among_rest : (c d : Channel) (cs : List Channel) → same_channel d c ≡ false → IsAmong c (d ∷ cs) → IsAmong c cs
among_rest c d cs far (zero, e) = absurd (clash (same_channel d c) (ap (λ z. same_channel z c) (some_same d c e) ∙ same_channel_refl c) far)
among_rest c d cs far (suc i, e) = (i, e)

-- no label is kept where none is counted
unlabelled : (c : Channel) (x : Option Record) → counts_at c x ≡ None → min_label_at c x ≡ None
unlabelled c None e = refl
unlabelled c (Some r) e = on (pair_of c r.pairs.items) e
  where
    on : (p : Option Pair) → option_map tally p ≡ None → min_label_of p ≡ None
    on None e = refl
    on (Some p) e = none_some (tally p) (sym e)

-- counts just where the others are: the same labels are on the way
pub on_other_counts : {S : Type 0} (o : Ops S) (rp : Path) (states : List S) (views : List RecordView) (c : Channel) (counts others : ℕ → Option Tally) (labels : ℕ → Option ℕ) (old new : Node S) (q : List ℕ) → Represents o rp states views new
    → HaveCounts o rp states views c counts new → HaveCounts o rp states views c others new → LabelsOnTheWay o rp states views c counts labels old new q → LabelsOnTheWay o rp states views c others labels old new q
on_other_counts o rp states views c counts others labels old new q shown have too way i f n s l ks h counted there =
    let w = seen_fork (at (place o rp s) new) s n (shown.agrees.shown i f s (forks n) h) in
    way i f n s l ks h ((have i f n s s w.0 h w.1).1 ((too i f n s s w.0 h w.1).0 counted)) there

-- ---- where no child died

no_death : (d : Death) (x : Option Death) → prevailing d x ≡ None → ⊥
no_death d None e = absurd cc
no_death d (Some y) e = absurd cc

none_dead : {S : Type 0} (o : Ops S) (c : Channel) (ks : Nodes S) → all_done ks ≡ true → prevailing_death ks ≡ None → min_dead_label_among o c ks ≡ None
none_dead o c no_node e p = refl
none_dead o c (node_and (Live l) ks) e p = absurd cc
none_dead o c (node_and (Forked l js) ks) e p = absurd cc
none_dead o c (node_and (Ended l) ks) e p = none_dead o c ks e p
none_dead o c (node_and (Dead l d) ks) e p = absurd (no_death d (prevailing_death ks) p)

pub as_before : {S : Type 0} (o : Ops S) (rp : Path) (states : List S) (views : List RecordView) (c : Channel) (counts : ℕ → Option Tally) (labels : ℕ → Option ℕ) (old new a : Node S) (q : List ℕ) (l : S) (ks : Nodes S) → IsReplaced q (Forked l ks) a old new → is_leaf a ≡ true
    → all_done ks ≡ true → prevailing_death ks ≡ None → min_dead_label o c a ≡ None → LabelsOnTheWay o rp states views c counts labels old new q → Labelled o rp states views c counts labels new
as_before o rp states views c counts labels old new a q l ks rep leaf done none nothing way j d n t u us fork counted there = on (is_above (place o rp t) q) refl
  where
    same : min_dead_label o c a ≡ min_dead_label o c (Forked l ks)
    same = nothing ∙ sym (none_dead o c ks done none)

    on : (b : Bool) → is_above (place o rp t) q ≡ b → labels j ≡ min_dead_label_among o c us
    on false w = way j d n t u us fork counted (ap (λ z. at (place o rp t) (cond z old new)) w ∙ there)
    on true w =
        let v = carried o q (Forked l ks) a old new rep leaf (min_dead_label_among o c) (λ r v is js above was now. (min_labels_follow o).stays c old new (Forked l ks) a q r v is js rep same above was now) (place o rp t) u us there in
        way j d n t u v.children fork counted (ap (λ z. at (place o rp t) (cond z old new)) w ∙ v.there) ∙ sym v.same

-- ---- where some were read off again

module _ {S : Type 0} (o : Ops S) (law : LocalLaws o) (rp : Path) (states : List S) (base : List Record) (old new m a : Node S) (n x f : ℕ) (s : S) (k : ProcessStatus) (shown : Represents o rp states (map record_view base) new)
    (linked : AreLinked states (map record_view base) (up_in base)) (has : Has states (map record_view base) x f s k) (rep : IsReplaced (place o rp s) m a old new)
    (have : (c : Channel) → HaveCounts o rp states (map record_view base) c (counts_in c base) new) (near : length (place o rp s) ≤ n) where
  abbrev views : List RecordView
  views = map record_view base

  -- beside labels records say what they did at first
  pub record AsAtFirst (now : List Record) : Type 0 where
    pub statuses : map record_view now ≡ views
    pub ups : up_in now ≡ up_in base
    pub counts : (c : Channel) → counts_in c now ≡ counts_in c base

  pub at_first : AsAtFirst base
  at_first = record { statuses = refl; ups = refl; counts = λ c. refl }

  still : (c : Channel) (before behind : List Record) → OnlyLabels c before behind → AsAtFirst before → AsAtFirst behind
  still c before behind h y = record {
    statuses = same_views before behind h.rest ∙ y.statuses;
    ups = rest_ups before behind h.rest ∙ y.ups;
    counts = λ d. (λ t i. h.counts d i t) ∙ y.counts d;
  }

  abbrev OnWay : Channel → List Record → Type 0
  OnWay c now = LabelsOnTheWay o rp states views c (counts_in c base) (min_labels_in c now) old new (place o rp s)

  abbrev pub Right : Channel → List Record → Type 0
  Right c now = Labelled o rp states views c (counts_in c base) (min_labels_in c now) new

  its_way : (c : Channel) (before behind : List Record) → AsAtFirst before → IsRecomputed o c states n x before behind → Recomputed o c states views (up_in base) (counts_in c base) n (min_labels_in c before) x (min_labels_in c behind)
  its_way c before behind y h =
      subst (λ z. Recomputed o c states z (up_in base) (counts_in c base) n (min_labels_in c before) x (min_labels_in c behind)) y.statuses
      (subst (λ z. Recomputed o c states (map record_view before) z (counts_in c base) n (min_labels_in c before) x (min_labels_in c behind)) y.ups
      (subst (λ z. Recomputed o c states (map record_view before) (up_in before) z n (min_labels_in c before) x (min_labels_in c behind)) (y.counts c) h.0))

  uncounted : (c : Channel) (now : List Record) → AsAtFirst now → NoneUncounted (counts_in c base) (min_labels_in c now)
  uncounted c now y i e = unlabelled c (slice_get now i) (ap (λ z. z i) (y.counts c) ∙ e)

  first : (c : Channel) (before behind : List Record) → o.shares s c ≡ true → AsAtFirst before → IsRecomputed o c states n x before behind → OnWay c before → Right c behind
  first c before behind shares y h way =
      labels_recomputed o law rp states views (up_in base) c old new m a n x f s k (counts_in c base) (min_labels_in c before) (min_labels_in c behind) shown linked has rep shares (have c) (uncounted c before y) near way (its_way c before behind y h)

  -- where they are right already they stay
  again : (c : Channel) (before behind : List Record) → o.shares s c ≡ true → AsAtFirst before → IsRecomputed o c states n x before behind → Right c before → Right c behind
  again c before behind shares y h right =
      labels_recomputed o law rp states views (up_in base) c new new a a n x f s k (counts_in c base) (min_labels_in c before) (min_labels_in c behind) shown linked has
      (record { was = rep.is; is = rep.is; aside = λ p far. refl }) shares (have c) (uncounted c before y) near
      (λ i d w t l ks fork counted there. right i d w t l ks fork counted (ap (at (place o rp t)) (sym (either (is_above (place o rp t) (place o rp s)))) ∙ there)) (its_way c before behind y h)
    where
      either : (b : Bool) → cond b new new ≡ new
      either true = refl
      either false = refl

  elsewhere : (c d : Channel) (before behind : List Record) → OnlyLabels d before behind → same_channel d c ≡ false → min_labels_in c behind ≡ min_labels_in c before
  elsewhere c d before behind h far = λ t i. h.elsewhere c far i t

  keeps_right : {cs : List Channel} {before behind : List Record} (c : Channel) → AllRecomputed o states n x cs before behind → ((d : Channel) → IsAmong d cs → o.shares s d ≡ true) → AsAtFirst before → Right c before → Right c behind
  keeps_right c (none_left rs) share y right = right
  keeps_right c (one_more d cs before between behind h more) share y right =
      keeps_right c more (λ e g. share e (suc g.0, g.1)) (still d before between h.1 y) (on (same_channel d c) refl)
    where
      on : (b : Bool) → same_channel d c ≡ b → Right c between
      on true e =
          let same = same_channel_is d c e in
          again c before between (share c (0, ap Some same)) y (subst (λ z. IsRecomputed o z states n x before between) same h) right
      on false e = subst (λ z. Labelled o rp states views c (counts_in c base) z new) (sym (elsewhere c d before between h.1 e)) right

  pub brings_right : {cs : List Channel} {before behind : List Record} (c : Channel) → AllRecomputed o states n x cs before behind → ((d : Channel) → IsAmong d cs → o.shares s d ≡ true) → IsAmong c cs → AsAtFirst before → OnWay c before → Right c behind
  brings_right c (none_left rs) share g y way = none_some c g.1
  brings_right c (one_more d cs before between behind h more) share g y way = on (same_channel d c) refl (λ g way. brings_right c more (λ e g. share e (suc g.0, g.1)) g (still d before between h.1 y) way)
    where
      on : (b : Bool) → same_channel d c ≡ b → (IsAmong c cs → OnWay c between → Right c behind) → Right c behind
      on true e later =
          let same = same_channel_is d c e in
          keeps_right c more (λ e g. share e (suc g.0, g.1)) (still d before between h.1 y)
          (first c before between (share c (0, ap Some same)) y (subst (λ z. IsRecomputed o z states n x before between) same h) way)
      on false e later = later (among_rest c d cs e g) (subst (λ z. LabelsOnTheWay o rp states views c (counts_in c base) z old new (place o rp s)) (sym (elsewhere c d before between h.1 e)) way)

module _ {S : Type 0} (o : Ops S) (states : List S) (n x : ℕ) where
  -- no labels of other channels have changed
  pub others : {cs : List Channel} {before behind : List Record} (c : Channel) → AllRecomputed o states n x cs before behind → (IsAmong c cs → ⊥) → min_labels_in c behind ≡ min_labels_in c before
  others c (none_left rs) out = refl
  others c (one_more d cs before between behind h more) out = others c more (λ g. out (suc g.0, g.1)) ∙ (λ t i. h.1.elsewhere c (on (same_channel d c) refl) i t)
    where
      on : (b : Bool) → same_channel d c ≡ b → same_channel d c ≡ false
      on true e = absurd (out (0, ap Some (same_channel_is d c e)))
      on false e = e

  -- and nothing else
  pub rest_recomputed : {cs : List Channel} {before behind : List Record} → AllRecomputed o states n x cs before behind → map rest_of behind ≡ map rest_of before
  rest_recomputed (none_left rs) = refl
  rest_recomputed (one_more d cs before between behind h more) = rest_recomputed more ∙ h.1.rest

  pub counts_recomputed : {cs : List Channel} {before behind : List Record} (c : Channel) → AllRecomputed o states n x cs before behind → counts_in c behind ≡ counts_in c before
  counts_recomputed c (none_left rs) = refl
  counts_recomputed c (one_more d cs before between behind h more) = counts_recomputed c more ∙ (λ t i. h.1.counts c i t)
