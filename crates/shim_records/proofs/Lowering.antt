-- A label on the way up through the records.
use Rattle.std.proofs.lemmas.Option.{slice_get_read}
use Rattle.shim_records.proofs.Pairing.{place_within}
use Rattle.std.proofs.Common.{◌≡◌, ◌≢◌, ◌≤◌, ℕ, zero, suc, ◌+◌, ◌-◌, ◌<◌, Bool, true, false, Option, Some, None, List, [], ◌∷◌, cond, get_or, slice_set, inl, inr, refl, sym, ap, subst, ◌∙◌, arith, length}
use Rattle.std.specs.Prelude.{slice_get}
use Rattle.std.specs.Option.{option_map}
use Rattle.shim_base.specs.Paths.{Channel, same_channel}
use Rattle.shim_base.proofs.Facts.{some_same, none_some}
use Rattle.shim_base.proofs.SamePaths.{same_channel_is}
use Rattle.shim_laws_table.specs.Dooms.{lesser}
use Rattle.shim_laws_table.specs.LoweredLabels.{IsLowered, LoweredAbove, all_the_way, at_the_root, uncounted, as_low, lowers}
use Rattle.shim_laws_table.proofs.SameTrees.{same_or_not}
use Rattle.shim_records.specs.Pairs.{tally, pair_index, pair_of, tally_for, min_label_of, counts_at, counts_in, min_label_at, min_labels_in, up_in, rest_of, chans_of, known_by, known_of}
use Rattle.shim_records.specs.Labels.{OnlyLabels, LowersOne, IsLoweredAbove}
use Rattle.shim_records.specs.declared.pair.Pair.{Pair}
use Rattle.shim_records.specs.declared.record.Record.{Record}
use Rattle.shim_records.proofs.Stepping.{set_there, set_elsewhere, map_set, with_pair, rest_with, known_with}
use Rattle.shim_records.proofs.FullPropagation.{rest_ups}

map_some : (o : Option ℕ) (i : ℕ) → option_map suc o ≡ Some i → (k : ℕ) × (o ≡ Some k) × (i ≡ suc k)
map_some None i e = none_some i e
map_some (Some k) i e = (k, refl, sym (some_same (suc k) i e))

-- the pair in the place of the channel, and another one with its channel and counts put there
pub record Put (c : Channel) (ps : List Pair) (i : ℕ) (p q : Pair) : Type 0 where
  pub found : pair_of c ps ≡ Some p
  pub finds : pair_of c (slice_set ps i q) ≡ Some q
  pub elsewhere : (d : Channel) → same_channel c d ≡ false → pair_of d (slice_set ps i q) ≡ pair_of d ps
  pub counts : (d : Channel) → tally_for d (slice_set ps i q) ≡ tally_for d ps

pub put_there : (c : Channel) (ps : List Pair) (i : ℕ) (p q : Pair) → pair_index c ps ≡ Some i → p ≡ get_or ps i p → q.chan ≡ p.chan → tally q ≡ tally p → Put c ps i p q
put_there c [] i p q e g h l = none_some i e
put_there c (x ∷ ps) i p q e g h l = on (same_channel x.chan.channel c) refl i e g (λ k u v. put_there c ps k p q u v h l)
  where
    first : (d : Channel) → q.chan.channel ≡ x.chan.channel → tally q ≡ tally x → option_map tally (cond (same_channel q.chan.channel d) (Some q) (pair_of d ps)) ≡ option_map tally (cond (same_channel x.chan.channel d) (Some x) (pair_of d ps))
    first d same says = ap (λ z. option_map tally (cond (same_channel z d) (Some q) (pair_of d ps))) same ∙ either (same_channel x.chan.channel d)
      where
        either : (b : Bool) → option_map tally (cond b (Some q) (pair_of d ps)) ≡ option_map tally (cond b (Some x) (pair_of d ps))
        either true = ap Some says
        either false = refl

    later : (d : Channel) (o r : Option Pair) → option_map tally o ≡ option_map tally r → option_map tally (cond (same_channel x.chan.channel d) (Some x) o) ≡ option_map tally (cond (same_channel x.chan.channel d) (Some x) r)
    later d o r e = either (same_channel x.chan.channel d)
      where
        either : (b : Bool) → option_map tally (cond b (Some x) o) ≡ option_map tally (cond b (Some x) r)
        either true = refl
        either false = e

    on : (b : Bool) → same_channel x.chan.channel c ≡ b → (i : ℕ) → cond b (Some 0) (option_map suc (pair_index c ps)) ≡ Some i → p ≡ get_or (x ∷ ps) i p
        → ((k : ℕ) → pair_index c ps ≡ Some k → p ≡ get_or ps k p → Put c ps k p q) → Put c (x ∷ ps) i p q
    on true w zero e g f =
        let same : q.chan.channel ≡ x.chan.channel = ap (λ z. z.channel) h ∙ ap (λ z. z.chan.channel) g in
        record {
          found = ap (λ z. cond z (Some x) (pair_of c ps)) w ∙ ap Some (sym g);
          finds = ap (λ z. cond (same_channel z c) (Some q) (pair_of c ps)) same ∙ ap (λ z. cond z (Some q) (pair_of c ps)) w;
          elsewhere = λ d far.
              let other : same_channel x.chan.channel d ≡ false = ap (λ z. same_channel z d) (same_channel_is x.chan.channel c w) ∙ far in
              ap (λ z. cond (same_channel z d) (Some q) (pair_of d ps)) same
              ∙ (ap (λ z. cond z (Some q) (pair_of d ps)) other ∙ sym (ap (λ z. cond z (Some x) (pair_of d ps)) other));
          counts = λ d. first d same (l ∙ ap tally g);
        }
    on true w (suc i) e g f = absurd cc
    on false w i e g f =
        let k = map_some (pair_index c ps) i e in
        subst (λ z. Put c (x ∷ ps) z p q) (sym k.2) (behind w k.0 (f k.0 k.1 (g ∙ ap (λ z. get_or (x ∷ ps) z p) k.2)))
      where
        behind : same_channel x.chan.channel c ≡ false → (k : ℕ) → Put c ps k p q → Put c (x ∷ ps) (suc k) p q
        behind w k y = record {
          found = ap (λ z. cond z (Some x) (pair_of c ps)) w ∙ y.found;
          finds = ap (λ z. cond z (Some x) (pair_of c (slice_set ps k q))) w ∙ y.finds;
          elsewhere = λ d far. ap (λ z. cond (same_channel x.chan.channel d) (Some x) z) (y.elsewhere d far);
          counts = λ d. later d (pair_of d (slice_set ps k q)) (pair_of d ps) (y.counts d);
        }

pub nothing_changed : (c : Channel) (rs : List Record) → OnlyLabels c rs rs
nothing_changed c rs = record { rest = refl; counts = λ d i. refl; elsewhere = λ d far i. refl }

-- one record keeps another label for the channel, and nothing else has changed
pub record Relabelled (c : Channel) (rs : List Record) (j : ℕ) (was is : Option ℕ) (now : List Record) : Type 0 where
  pub counted : counts_in c rs j ≢ None
  pub label_was : min_labels_in c rs j ≡ was
  pub label_is : min_labels_in c now j ≡ is
  pub others : (k : ℕ) → k ≢ j → min_labels_in c now k ≡ min_labels_in c rs k
  pub only : OnlyLabels c rs now

-- pointwise the labels are as before, where this one is
pub same_labels : (c : Channel) (rs : List Record) (j : ℕ) (was is : Option ℕ) (now : List Record) → Relabelled c rs j was is now → is ≡ was → min_labels_in c now ≡ min_labels_in c rs
same_labels c rs j was is now h same = λ t k. each k t
  where
    each : (k : ℕ) → min_labels_in c now k ≡ min_labels_in c rs k
    each k = elim (same_or_not k j) [
      | inl w ↦ ap (min_labels_in c now) w ∙ (h.label_is ∙ (same ∙ (sym h.label_was ∙ sym (ap (min_labels_in c rs) w))))
      | inr w ↦ h.others k w
    ]

module _ (c : Channel) (rs : List Record) (j i : ℕ) (r : Record) (p q : Pair) (record_before : slice_get rs j ≡ Some r) (place : pair_index c r.pairs.items ≡ Some i) (is_p : p ≡ get_or r.pairs.items i p)
    (chan : q.chan ≡ p.chan) (sharing : q.sharing ≡ p.sharing) (says : tally q ≡ tally p) where
  abbrev new : Record
  new = with_pair r i q

  abbrev now : List Record
  now = slice_set rs j new

  put : Put c r.pairs.items i p q
  put = put_there c r.pairs.items i p q place is_p chan says

  record_now : slice_get now j ≡ Some new
  record_now = set_there rs j r new record_before

  -- the channels of its pairs are as before
  same_chans : chans_of (slice_set r.pairs.items i q) ≡ chans_of r.pairs.items
  same_chans =
      map_set (λ z. z.chan.channel) r.pairs.items i p q (slice_get_read r.pairs.items (length r.pairs.items) i p refl (place_within c r.pairs.items i place) is_p) (ap (λ z. z.channel) chan)

  -- and so is what they know
  same_known : known_of (slice_set r.pairs.items i q) ≡ known_of r.pairs.items
  same_known =
      map_set known_by r.pairs.items i p q (slice_get_read r.pairs.items (length r.pairs.items) i p refl (place_within c r.pairs.items i place) is_p)
      (known_with p q chan sharing)

  pub relabelled : Relabelled c rs j p.min_dead_label q.min_dead_label now
  relabelled = record {
    counted = λ e. none_some (tally p) (sym e ∙ (ap (counts_at c) record_before ∙ ap (option_map tally) put.found));
    label_was = ap (min_label_at c) record_before ∙ ap min_label_of put.found;
    label_is = ap (min_label_at c) record_now ∙ ap min_label_of put.finds;
    others = λ k far. ap (min_label_at c) (set_elsewhere rs j k new far);
    only = record {
      rest = map_set rest_of rs j r new record_before (rest_with r (chans_of (slice_set r.pairs.items i q)) (known_of (slice_set r.pairs.items i q)) same_chans same_known);
      counts = λ d k. elim (same_or_not k j) [
        | inl w ↦ ap (λ z. counts_at d (slice_get now z)) w ∙ (ap (counts_at d) record_now ∙ (put.counts d ∙ (sym (ap (counts_at d) record_before) ∙ sym (ap (λ z. counts_at d (slice_get rs z)) w))))
        | inr w ↦ ap (counts_at d) (set_elsewhere rs j k new w)
      ];
      elsewhere = λ d far k. elim (same_or_not k j) [
        | inl w ↦ ap (λ z. min_label_at d (slice_get now z)) w ∙ (ap (min_label_at d) record_now ∙ (ap min_label_of (put.elsewhere d far) ∙ (sym (ap (min_label_at d) record_before) ∙ sym (ap (λ z. min_label_at d (slice_get rs z)) w))))
        | inr w ↦ ap (min_label_at d) (set_elsewhere rs j k new w)
      ];
    };
  }

module _ (c : Channel) (y : ℕ) (rs : List Record) (x : ℕ) where
  pub top : up_in rs x ≡ None → LowersOne c y rs x None rs
  top e = ((λ n. at_the_root n (min_labels_in c rs) x e), nothing_changed c rs)

  pub without : (j : ℕ) → up_in rs x ≡ Some j → counts_in c rs j ≡ None → LowersOne c y rs x None rs
  without j e f = ((λ n. uncounted n (min_labels_in c rs) x j e f), nothing_changed c rs)

  pub stops : (j : ℕ) (now : List Record) (was is : Option ℕ) → up_in rs x ≡ Some j → Relabelled c rs j was is now → is ≡ lesser was (Some y) → is ≡ was → LowersOne c y rs x None now
  stops j now was is up h taken same = (
    (λ n. subst (λ z. LoweredAbove (up_in rs) (counts_in c rs) (Some y) n (min_labels_in c rs) x z) (sym (same_labels c rs j was is now h same))
        (as_low n (min_labels_in c rs) x j up h.counted (ap (λ z. lesser z (Some y)) h.label_was ∙ (sym taken ∙ (same ∙ sym h.label_was))))),
    h.only,
  )

  pub goes : (j : ℕ) (now : List Record) (was is : Option ℕ) → up_in rs x ≡ Some j → Relabelled c rs j was is now → is ≡ lesser was (Some y) → LowersOne c y rs x (Some j) now
  goes j now was is up h taken =
      let lowered : IsLowered (min_labels_in c rs) j (Some y) (min_labels_in c now) = record { new = h.label_is ∙ (taken ∙ ap (λ z. lesser z (Some y)) (sym h.label_was)); others = h.others } in
      ((λ n end rest. lowers n (min_labels_in c rs) (min_labels_in c now) end x j up h.counted lowered rest), h.only)

pub only_both : (c : Channel) (a b d : List Record) → OnlyLabels c a b → OnlyLabels c b d → OnlyLabels c a d
only_both c a b d g h = record {
  rest = h.rest ∙ g.rest;
  counts = λ e i. h.counts e i ∙ g.counts e i;
  elsewhere = λ e far i. h.elsewhere e far i ∙ g.elsewhere e far i;
}

module _ (c : Channel) (y n x : ℕ) (start now : List Record) (here walked : ℕ) where
  abbrev pub OnIt : ℕ → List Record → ℕ → Type 0
  OnIt left now here = ((end : ℕ → Option ℕ) → LoweredAbove (up_in start) (counts_in c start) (Some y) left (min_labels_in c now) here end → LoweredAbove (up_in start) (counts_in c start) (Some y) n (min_labels_in c start) x end) × OnlyLabels c start now

  next_left : (n walked : ℕ) → walked < n → suc (n - (walked + 1)) ≡ n - walked
  next_left n walked h = omega (arith, h)

  same_ups : OnlyLabels c start now → up_in now ≡ up_in start
  same_ups h = rest_ups start now h.rest

  same_counts : OnlyLabels c start now → counts_in c now ≡ counts_in c start
  same_counts h = λ t i. h.counts c i t

  pub ended : (behind : List Record) → OnIt (n - walked) now here → LowersOne c y now here None behind → IsLoweredAbove c y n x start behind
  ended behind on step = (
    on.0 (min_labels_in c behind)
        (subst (λ u. LoweredAbove u (counts_in c start) (Some y) (n - walked) (min_labels_in c now) here (min_labels_in c behind)) (same_ups on.1) (subst (λ k. LoweredAbove (up_in now) k (Some y) (n - walked) (min_labels_in c now) here (min_labels_in c behind)) (same_counts on.1) (step.0 (n - walked)))),
    only_both c start now behind on.1 step.1,
  )

  pub further : (behind : List Record) (j : ℕ) → walked < n → OnIt (n - walked) now here → LowersOne c y now here (Some j) behind → OnIt (n - (walked + 1)) behind j
  further behind j less on step = (
    (λ end rest. on.0 end (subst (λ k. LoweredAbove (up_in start) (counts_in c start) (Some y) k (min_labels_in c now) here end) (next_left n walked less)
        (subst (λ u. LoweredAbove u (counts_in c start) (Some y) (suc (n - (walked + 1))) (min_labels_in c now) here end) (same_ups on.1) (subst (λ k. LoweredAbove (up_in now) k (Some y) (suc (n - (walked + 1))) (min_labels_in c now) here end) (same_counts on.1)
        (step.0 (n - (walked + 1)) end
        (subst (λ u. LoweredAbove u (counts_in c now) (Some y) (n - (walked + 1)) (min_labels_in c behind) j end) (sym (same_ups on.1)) (subst (λ k. LoweredAbove (up_in start) k (Some y) (n - (walked + 1)) (min_labels_in c behind) j end) (sym (same_counts on.1)) rest))))))),
    only_both c start now behind on.1 step.1,
  )

  pub stopped : n ≤ walked → OnIt (n - walked) now here → IsLoweredAbove c y n x start now
  stopped past on =
      let none : n - walked ≡ 0 = omega (arith, past) in
      (on.0 (min_labels_in c now) (subst (λ k. LoweredAbove (up_in start) (counts_in c start) (Some y) k (min_labels_in c now) here (min_labels_in c now)) (sym none) (all_the_way (min_labels_in c now) here)), on.1)
