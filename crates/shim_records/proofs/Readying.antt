-- Which records have become ready by a way up, and whether a fork above one of them has a label.
use Rattle.std.proofs.Common.{◌≡◌, ◌≤◌, ◌⊎◌, ℕ, suc, ◌+◌, Bool, true, false, if◌then◌else◌, Option, Some, None, List, inl, inr, refl, sym, ap, subst, ◌∙◌, arith}
use Rattle.shim_base.specs.Paths.{Channel}
use Rattle.shim_base.proofs.Facts.{some_same, none_some}
use Rattle.shim_semantics.proofs.HowMany.{clash}
use Rattle.shim_laws_table.specs.Counts.{going_child_status}
use Rattle.shim_laws_table.proofs.SameTrees.{same_or_not}
use Rattle.shim_records.specs.Pairs.{child_status_of, counts_in, counts_ready, min_labels_in, up_in}
use Rattle.shim_records.specs.Ways.{IsAbove, OnlyCounts, ChangesParent, BecomesUnready, ReadsParent, NoneReadied, HasReadied, ReadiesWithin}
use Rattle.shim_records.specs.declared.pair.ChildStatus.{ChildStatus}
use Rattle.shim_records.specs.declared.record.Record.{Record}
use Rattle.shim_records.specs.declared.upward.CountChange.{CountChange}
use Rattle.shim_records.proofs.Reaching.{among_more, Led}
use Rattle.shim_records.proofs.FullPropagation.{same_ups}

-- a number is that of the parent, or isn't
is_or_not : (x : Option ℕ) (i : ℕ) → (x ≡ Some i) ⊎ (x ≡ Some i → ⊥)
is_or_not None i = inr (λ e. none_some i e)
is_or_not (Some j) i = elim (same_or_not j i) [ inl e ↦ inl (ap Some e) | inr far ↦ inr (λ e. far (some_same j i e)) ]

-- ---- where a child isn't ready any more

-- so far no record has become ready
abbrev pub StillFalls : Channel → ChildStatus → ChildStatus → List Record → List Record → CountChange → Type 0
StillFalls c was is start now here = child_status_of was ≡ going_child_status true → child_status_of is ≡ going_child_status false → BecomesUnready here × NoneReadied c start now

pub falls_at_first : (c : Channel) (was is : ChildStatus) (x : ℕ) (start : List Record) → StillFalls c was is start start (record { at = x; was = was; is = is })
falls_at_first c was is x start e f = ((e, f), λ i ready. ready)

module _ (c : Channel) (was is : ChildStatus) (start now : List Record) (here : CountChange) (so : StillFalls c was is start now here) (next : Option CountChange) (due : Bool) (behind : List Record) (moves : ChangesParent c now here next behind) (reads : ReadsParent c now here next due behind) where
  none_readied : child_status_of was ≡ going_child_status true → child_status_of is ≡ going_child_status false → NoneReadied c start behind
  none_readied e f i ready =
      let w = so e f in
      elim (is_or_not (up_in now here.at) i) [
        | inl u ↦ clash (counts_ready (counts_in c behind i)) ready (reads.unready w.0 i u)
        | inr far ↦ w.1 i (ap counts_ready (sym (moves.others i far)) ∙ ready)
      ]

  pub no_more_fall : next ≡ None → child_status_of was ≡ going_child_status true → child_status_of is ≡ going_child_status false → NoneReadied c start behind
  no_more_fall end = none_readied

  pub still_falls : (above : CountChange) → next ≡ Some above → StillFalls c was is start behind above
  still_falls above e f g = (reads.falls (so f g).0 above e, none_readied f g)

-- ---- where one has become ready

module _ (c : Channel) (x : ℕ) (start : List Record) where
  -- After so many forks, of which so many are to be looked at again, the way is to go on from this record.
  pub record SoReady (walked again : ℕ) (now : List Record) (at : ℕ) : Type 0 where
    pub few : again ≤ walked
    pub counts : (i : ℕ) → (IsAbove (up_in start) again x i → ⊥) → counts_ready (counts_in c now i) ≡ true → counts_ready (counts_in c start i) ≡ true
    pub labels : (i j : ℕ) → up_in start j ≡ Some i → (IsAbove (up_in start) again x i → ⊥) → HasReadied c x start now j → (j ≡ at) ⊎ (min_labels_in c start i ≡ None)

  pub ready_at_first : SoReady 0 0 start x
  ready_at_first = record {
    few = omega arith;
    counts = λ i out ready. ready;
    labels = λ i j e out readied. elim readied [ inl same ↦ inl same | inr both ↦ clash (counts_ready (counts_in c start j)) both.0 both.1 ];
  }

  module _ (walked again : ℕ) (now : List Record) (here : CountChange) (so : SoReady walked again now here.at) (led : Led c x start walked now here.at) (only : OnlyCounts c start now) where
    one_more : suc walked ≡ walked + 1
    one_more = omega arith

    known : (i : ℕ) → up_in now here.at ≡ Some i → up_in start here.at ≡ Some i
    known i e = sym (ap (λ u. u here.at) (same_ups c start now only)) ∙ e

    known_now : (i : ℕ) → up_in start here.at ≡ Some i → up_in now here.at ≡ Some i
    known_now i e = ap (λ u. u here.at) (same_ups c start now only) ∙ e

    -- the parent is the next fork on the way
    walked_to : (i : ℕ) → up_in start here.at ≡ Some i → IsAbove (up_in start) (walked + 1) x i
    walked_to i e = subst (λ n. IsAbove (up_in start) n x i) one_more (led.next i e)

    -- Where more forks were updated than may be, all are to be looked at again.
    pub all_again : (most : ℕ) → walked ≤ most → most ≤ walked → ReadiesWithin c (most + 1) x start now
    all_again most less more = record {
      counts = λ i out ready. so.counts i (λ w. out (among_more (up_in start) (most + 1) (few_enough so.few less) w)) ready;
      labels = λ i j e out readied. elim (so.labels i j e (λ w. out (among_more (up_in start) (most + 1) (few_enough so.few less) w)) readied) [
        | inr none ↦ none
        | inl same ↦ absurd (out (among_more (up_in start) (most + 1) (omega (arith, less)) (walked_to i (ap (up_in start) (sym same) ∙ e))))
      ];
    }
      where
        few_enough : again ≤ walked → walked ≤ most → again ≤ most + 1
        few_enough a b = omega (arith, a, b)

    module _ (next : Option CountChange) (due : Bool) (behind : List Record) (moves : ChangesParent c now here next behind) (reads : ReadsParent c now here next due behind) where
      -- what isn't above so far wasn't above before
      module _ (i : ℕ) (out : IsAbove (up_in start) (if due then walked + 1 else again) x i → ⊥) where
        -- so the parent isn't due, where it is the parent
        is_closed : up_in start here.at ≡ Some i → due ≡ false
        is_closed e = on due out
          where
            on : (b : Bool) → (IsAbove (up_in start) (if b then walked + 1 else again) x i → ⊥) → b ≡ false
            on true f = absurd (f (walked_to i e))
            on false f = refl

        was_out : IsAbove (up_in start) again x i → ⊥
        was_out w = on due out
          where
            on : (b : Bool) → (IsAbove (up_in start) (if b then walked + 1 else again) x i → ⊥) → ⊥
            on true f = f (among_more (up_in start) (walked + 1) (let less = so.few in omega (arith, less)) w)
            on false f = f w

        counts_then : counts_ready (counts_in c behind i) ≡ true → counts_ready (counts_in c start i) ≡ true
        counts_then ready = elim (is_or_not (up_in now here.at) i) [
          | inl u ↦ clash (counts_ready (counts_in c behind i)) ready (reads.closed (is_closed (known i u)) i u).0
          | inr far ↦ so.counts i was_out (ap counts_ready (sym (moves.others i far)) ∙ ready)
        ]

        -- a record that was ready so far, or isn't the parent
        from_before : (j : ℕ) → up_in start j ≡ Some i → HasReadied c x start now j → min_labels_in c start i ≡ None
        from_before j e readied = elim (so.labels i j e was_out readied) [
          | inr none ↦ none
          | inl same ↦
              let u : up_in start here.at ≡ Some i = ap (up_in start) (sym same) ∙ e in
              sym (only.labels c i) ∙ (reads.closed (is_closed u) i (known_now i u)).1
        ]

        labels_then : (j : ℕ) → up_in start j ≡ Some i → HasReadied c x start behind j → ((above : CountChange) × (next ≡ Some above) × (j ≡ above.at)) ⊎ (min_labels_in c start i ≡ None)
        labels_then j e readied = elim readied [
          | inl same ↦ inr (from_before j e (inl same))
          | inr both ↦ elim (is_or_not (up_in now here.at) j) [
            | inr far ↦ inr (from_before j e (inr (ap counts_ready (sym (moves.others j far)) ∙ both.0, both.1)))
            | inl u ↦ on next refl u both
          ]
        ]
          where
            on : (z : Option CountChange) → next ≡ z → up_in now here.at ≡ Some j → (counts_ready (counts_in c behind j) ≡ true) × (counts_ready (counts_in c start j) ≡ false)
                → ((above : CountChange) × (next ≡ Some above) × (j ≡ above.at)) ⊎ (min_labels_in c start i ≡ None)
            on (Some above) z u both = inl (above, z, some_same j above.at (sym u ∙ moves.goes_on above z))
            on None z u both = inr (from_before j e (inr (sym (reads.same z j u) ∙ both.0, both.1)))

      -- the way ends
      pub readied : next ≡ None → ReadiesWithin c (if due then walked + 1 else again) x start behind
      readied end = record {
        counts = λ i out ready. counts_then i out ready;
        labels = λ i j e out h. elim (labels_then i out j e h) [ inr none ↦ none | inl w ↦ none_some w.0 (sym end ∙ w.1) ];
      }

      -- or it goes on
      pub readied_on : (above : CountChange) → next ≡ Some above → SoReady (walked + 1) (if due then walked + 1 else again) behind above.at
      readied_on above goes = record {
        few = few_then due;
        counts = λ i out ready. counts_then i out ready;
        labels = λ i j e out h. elim (labels_then i out j e h) [ inr none ↦ inr none | inl w ↦ inl (w.2 ∙ ap (λ z. z.at) (some_same w.0 above (sym w.1 ∙ goes))) ];
      }
        where
          few_then : (b : Bool) → (if b then walked + 1 else again) ≤ walked + 1
          few_then true = omega arith
          few_then false = let less = so.few in omega (arith, less)
