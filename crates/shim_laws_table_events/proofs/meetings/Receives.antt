-- A live process receives at the channel at which it is: the records keep all that they kept.
use Rattle.std.proofs.Common.{◌≡◌, ℕ, Bool, true, false, Option, Some, List, map, inl, inr, refl, sym, ap, subst, ◌∙◌}
use Rattle.std.specs.Prelude.{ℤ, slice_get, slice_set}
use Rattle.shim_base.specs.Paths.{Path, Channel, NamedChannel, same_channel}
use Rattle.shim_base.proofs.Facts.{true_or_false}
use Rattle.shim_base.proofs.SamePaths.{same_channel_is, same_channel_refl}
use Rattle.shim_local.specs.Process.{Ops, AtNext}
use Rattle.shim_local.specs.Laws.{LocalLaws, by_call, by_receive}
use Rattle.shim_semantics.specs.Nodes.{Node, Live, is_next}
use Rattle.shim_semantics.specs.Places.{at}
use Rattle.shim_semantics.proofs.Replaced.{sound_at}
use Rattle.shim_semantics.proofs.CallStays.{call_carries_less}
use Rattle.shim_semantics.proofs.HowMany.{clash, one_for_one}
use Rattle.shim_semantics.proofs.ReplacedNodes.{put}
use Rattle.shim_laws_table.specs.NodeStatus.{lives, place}
use Rattle.shim_laws_table.specs.Agrees.{Has, Represents}
use Rattle.shim_laws_table.specs.Places.{IsReplaced}
use Rattle.shim_laws_table.specs.Changes.{HasChanged}
use Rattle.shim_laws_table.specs.Counts.{Tally, ChildStatus as Read, going_child_status, child_status}
use Rattle.shim_laws_table.specs.Updating.{UpdatedAbove}
use Rattle.shim_laws_table.proofs.SameTrees.{seen_live, put_replaces}
use Rattle.shim_laws_table.proofs.Singles.{single_changes_are_represented}
use Rattle.shim_records.specs.Pairs.{record_view, up_in, counts_in, min_labels_in, rest_of, child_status_of, UncountedRecord}
use Rattle.shim_records.specs.declared.record.Record.{Record}
use Rattle.shim_records.proofs.Stepping.{set_there, set_elsewhere}
use Rattle.shim_records.proofs.ReadOff.{same_views}
use Rattle.shim_records.proofs.FullPropagation.{rest_ups, kept_order}
use Rattle.shim_records.proofs.SharingFound.{rest_known}
use Rattle.shim_laws_table_events.specs.keeping.Tables.{GoRight, TableInvariant}
use Rattle.shim_laws_table_events.proofs.keeping.Forks.{as_many}
use Rattle.shim_laws_table_events.specs.meetings.Receiving.{UpdatesOtherNext, no_other, other, MovesOn}
use Rattle.shim_laws_table_events.specs.meetings.Laws.{ReceivePreserves}
use Rattle.shim_laws_table.specs.LoweredLabels.{Labelled}
use Rattle.shim_laws_table_events.proofs.keeping.Moved.{set_length, was_record}
use Rattle.shim_laws_table_events.proofs.meetings.Lists.{same_length, rest_paths}
use Rattle.shim_laws_table_events.proofs.meetings.Replacing.{Both, was_fork, unread, walked, unlabelled, keeps}

-- beside counts the records stay as they are
pub moves_on_rest : {S : Type 0} {o : Ops S} {s : S} {c : Channel} {n x : ℕ} {before behind : List Record} → MovesOn o s c n x before behind → map rest_of behind ≡ map rest_of before
moves_on_rest {o = o} {s = s} {c = c} {n = n} {x = x} {behind = behind} on = came_rest on.came ∙ on.left.1.rest
  where
    came_rest : UpdatesOtherNext o s c n x on.between behind → map rest_of behind ≡ map rest_of on.between
    came_rest (no_other e same) = ap (map rest_of) same
    came_rest (other e was is g far u w updated) = updated.1.rest

module _ {S : Type 0} (o : Ops S) (law : LocalLaws o) (rp : Path) (root : Node S) (states : List S) (rs behind : List Record) (x f : ℕ) (l : S) (d : NamedChannel) (v : ℤ)
    (kept : TableInvariant o rp (record { states = states; records = rs }) root) (has : Has states (map record_view rs) x f l lives) (stop : o.stop l ≡ AtNext d) (on : MovesOn o (o.receive l v) d.channel 4294967295 x rs behind) where
  abbrev s : S
  s = o.receive l v

  abbrev states' : List S
  states' = slice_set states x s

  there : at (place o rp l) root ≡ Some (Live l)
  there = seen_live (at (place o rp l) root) l (kept.represents.agrees.shown x f l lives has)

  abbrev new : Node S
  new = put (place o rp l) (Live s) root

  rep : IsReplaced (place o rp l) (Live l) (Live s) root new
  rep = put_replaces (place o rp l) (Live l) (Live s) root there

  sound : o.sound l
  sound = sound_at o (place o rp l) root (Live l) kept.represents.sound.below there

  rest : map rest_of behind ≡ map rest_of rs
  rest = moves_on_rest on

  same : map record_view behind ≡ map record_view rs
  same = same_views rs behind rest

  mine : Has states' (map record_view behind) x f s lives
  mine = record { state_is = set_there states x l s has.state_is; view_is = ap (λ z. slice_get z x) same ∙ has.view_is }

  changed : HasChanged states states' (map record_view rs) (map record_view behind) x s lives
  changed = record {
    first = f;
    mine = mine;
    others = λ j g t k n h. record { state_is = set_elsewhere states x j s n ∙ h.state_is; view_is = ap (λ z. slice_get z j) same ∙ h.view_is };
    only = λ j g t k n h. record { state_is = sym (set_elsewhere states x j s n) ∙ h.state_is; view_is = sym (ap (λ z. slice_get z j) same) ∙ h.view_is };
  }

  shown : Represents o rp states' (map record_view behind) new
  shown = (single_changes_are_represented o law).received rp states states' (map record_view rs) (map record_view behind) root new x f l d v kept.represents has stop rep changed

  path : o.path s ≡ o.path l
  path = law.moved_path l s sound (by_call (by_receive d v stop refl))

  given : o.given s ≡ o.given l
  given = law.moved_given l s sound (by_call (by_receive d v stop refl))

  sound' : o.sound s
  sound' = law.moved_sound l s sound (by_call (by_receive d v stop refl))

  shares : (c : Channel) → o.shares s c ≡ o.shares l c
  shares c = law.call_shares l s c sound (by_receive d v stop refl)

  ups : up_in behind ≡ up_in rs
  ups = rest_ups rs behind rest

  ups_between : up_in on.between ≡ up_in rs
  ups_between = rest_ups rs on.between on.left.1.rest

  labels_same : (c : Channel) → min_labels_in c behind ≡ min_labels_in c rs
  labels_same c = on_came on.came ∙ (λ t i. on.left.1.labels c i t)
    where
      on_came : UpdatesOtherNext o s d.channel 4294967295 x on.between behind → min_labels_in c behind ≡ min_labels_in c on.between
      on_came (no_other e is) = ap (min_labels_in c) is
      on_came (other e was is g far u w updated) = λ t i. updated.1.labels c i t

  module _ (c : Channel) where
    abbrev B : (ℕ → Option Tally) → Type 0
    B counts = Both o law rp states states' rs behind root new l (Live s) x f kept has changed refl path given rep shown ups c counts

    -- a channel at which it neither was nor is
    still : same_channel d.channel c ≡ false → is_next (o.stop s) c ≡ false → B (counts_in c rs)
    still far e = unread o law rp states states' rs behind root new l (Live s) x f kept has changed refl path given rep shown ups c
        (λ i. let r : Read = record { going = sym (shares c) i; ready_on = (ap (λ z. is_next z c) stop ∙ (far ∙ sym e)) i; dead_on = false } in r)

    counts_above : (was is : Read) (after : ℕ → Option Tally) → child_status o c (Live l) ≡ was → child_status o c (Live s) ≡ is → o.shares s c ≡ true → UpdatedAbove (up_in rs) 4294967295 4294967295 (counts_in c rs) x was is after → B after
    counts_above was is after e g h updated = walked o law rp states states' rs behind root new l (Live s) x f kept has changed refl path given rep shown ups c was is after e g h
        (subst (λ z. UpdatedAbove z 4294967295 4294967295 (counts_in c rs) x was is after) (sym ups) updated)

    -- the one at which it was
    at_old_channel : same_channel d.channel c ≡ true → B (counts_in c behind)
    at_old_channel w = subst B (sym (kept_counts on.came)) (counts_above (going_child_status true) (going_child_status (is_next (o.stop s) c)) (counts_in c on.between)
        (λ i. let r : Read = record { going = shared i; ready_on = (ap (λ z. is_next z c) stop ∙ w) i; dead_on = false } in r)
        (λ i. let r : Read = record { going = (shares c ∙ shared) i; ready_on = is_next (o.stop s) c; dead_on = false } in r)
        (shares c ∙ shared) way)
      where
        is : d.channel ≡ c
        is = same_channel_is d.channel c w

        shared : o.shares l c ≡ true
        shared = ap (o.shares l) (sym is) ∙ law.next_shares l d sound stop

        way : UpdatedAbove (up_in rs) 4294967295 4294967295 (counts_in c rs) x (going_child_status true) (going_child_status (is_next (o.stop s) c)) (counts_in c on.between)
        way = subst (λ z. UpdatedAbove (up_in rs) 4294967295 4294967295 (counts_in z rs) x (going_child_status true) (going_child_status (is_next (o.stop s) z)) (counts_in z on.between)) is
            (subst (λ z. UpdatedAbove (up_in rs) 4294967295 4294967295 (counts_in d.channel rs) x (going_child_status true) z (counts_in d.channel on.between)) on.status_is
            (subst (λ z. UpdatedAbove (up_in rs) 4294967295 4294967295 (counts_in d.channel rs) x z (child_status_of on.is) (counts_in d.channel on.between)) on.status_was on.left.0))

        kept_counts : UpdatesOtherNext o s d.channel 4294967295 x on.between behind → counts_in c behind ≡ counts_in c on.between
        kept_counts (no_other e b) = ap (counts_in c) b
        kept_counts (other e was is' g far u y updated) = λ t i. updated.1.elsewhere c (ap (λ z. same_channel e.channel z) (sym is) ∙ not_same e.channel far) i t
          where
            not_same : (b : Channel) → same_channel d.channel b ≡ false → same_channel b d.channel ≡ false
            not_same b far = elim (true_or_false (same_channel b d.channel)) [
              | inl y ↦ clash (same_channel d.channel b) (ap (λ z. same_channel z b) (sym (same_channel_is b d.channel y)) ∙ same_channel_refl b) far
              | inr y ↦ y
            ]

    -- another one
    elsewhere : same_channel d.channel c ≡ false → B (counts_in c behind)
    elsewhere far = on_came on.came
      where
        between_same : counts_in c on.between ≡ counts_in c rs
        between_same = λ t i. on.left.1.elsewhere c far i t

        on_came : UpdatesOtherNext o s d.channel 4294967295 x on.between behind → B (counts_in c behind)
        on_came (no_other e b) = subst B (sym (ap (counts_in c) b ∙ between_same)) (still far (e c far))
        on_came (other e was is g out u y updated) = at_channel (same_channel e.channel c) refl
          where
            at_channel : (b : Bool) → same_channel e.channel c ≡ b → B (counts_in c behind)
            at_channel false w = subst B (sym ((λ t i. updated.1.elsewhere c w i t) ∙ between_same)) (still far (ap (λ z. is_next z c) g ∙ w))
            at_channel true w =
                let is' = same_channel_is e.channel c w in
                let shared : o.shares s c ≡ true = ap (o.shares s) (sym is') ∙ law.next_shares s e sound' g in
                counts_above (going_child_status false) (going_child_status true) (counts_in c behind)
                (λ i. let r : Read = record { going = (sym (shares c) ∙ shared) i; ready_on = (ap (λ z. is_next z c) stop ∙ far) i; dead_on = false } in r)
                (λ i. let r : Read = record { going = shared i; ready_on = (ap (λ z. is_next z c) g ∙ w) i; dead_on = false } in r)
                shared
                (subst (λ z. UpdatedAbove z 4294967295 4294967295 (counts_in c rs) x (going_child_status false) (going_child_status true) (counts_in c behind)) ups_between
                (subst (λ z. UpdatedAbove (up_in on.between) 4294967295 4294967295 z x (going_child_status false) (going_child_status true) (counts_in c behind)) between_same
                (subst (λ z. UpdatedAbove (up_in on.between) 4294967295 4294967295 (counts_in z on.between) x (going_child_status false) (going_child_status true) (counts_in z behind)) is'
                (subst (λ z. UpdatedAbove (up_in on.between) 4294967295 4294967295 (counts_in e.channel on.between) x (going_child_status false) z (counts_in e.channel behind)) y
                (subst (λ z. UpdatedAbove (up_in on.between) 4294967295 4294967295 (counts_in e.channel on.between) x z (child_status_of is) (counts_in e.channel behind)) u updated.0)))))

    counted : B (counts_in c behind)
    counted = elim (true_or_false (same_channel d.channel c)) [ inl w ↦ at_old_channel w | inr w ↦ elsewhere w ]

  going_children : GoRight o rp (record { states = states'; records = behind }) new
  going_children j g n t u ks r fork e now =
      let w = as_many o (place o rp l) (Live l) (Live s) root new rep refl refl (place o rp t) u ks now in
      let q = was_record rs behind j r rest e in
      ap (λ (z : UncountedRecord). z.going_children) (sym q.2) ∙ (kept.going_children j g n t u w.children q.0 (was_fork o law rp states states' rs behind root new l (Live s) x f kept has changed refl path given rep shown ups j g n t fork).1 q.1 w.there ∙ sym w.same)

  pub received : (new : Node S) × IsReplaced (place o rp l) (Live l) (Live s) root new × TableInvariant o rp (record { states = states'; records = behind }) new
  received = (
    new,
    rep,
    keeps o law rp states states' rs behind root new l (Live s) x f kept has changed refl path given rep shown ups (kept_order rs behind rest kept.ordered)
        (rest_paths rs behind rest)
        (set_length states x s ∙ (kept.beside ∙ same_length rs behind rest)) (rest_known rs behind rest)
        (λ c. one_for_one (λ k. o.carries k c) l s (call_carries_less o law l s sound (by_receive d v stop refl) c))
        (λ c. record {
          there = (counted c).1;
          counts = (counted c).0;
          labels = subst (λ z. Labelled o rp states' (map record_view behind) c (counts_in c behind) z new) (sym (labels_same c))
              (unlabelled o law rp states states' rs behind root new l (Live s) x f kept has changed refl path given rep shown ups c (counts_in c behind) (counted c).1 refl);
        })
        going_children,
  )

pub receive_preserves : {S : Type 0} (o : Ops S) → LocalLaws o → ReceivePreserves o
receive_preserves o law rp root states rs behind x f l d v kept has stop on = received o law rp root states rs behind x f l d v kept has stop on
