-- A label taken in for several channels, one after the other: it changes the labels of each channel alone.
use Rattle.std.proofs.Common.{◌≡◌, ◌≤◌, ℕ, suc, ◌+◌, Bool, true, false, Some, None, List, [], ◌∷◌, ◌++◌, inl, inr, length, map, refl, sym, ap, subst, ◌∙◌, arith}
use Rattle.std.specs.Prelude.{slice_get}
use Rattle.shim_base.specs.Paths.{Channel, NamedChannel, same_channel}
use Rattle.shim_base.proofs.Facts.{some_same, none_some}
use Rattle.shim_base.proofs.SamePaths.{same_channel_is}
use Rattle.shim_local.specs.Process.{Ops}
use Rattle.shim_laws_table.specs.LoweredLabels.{LoweredAbove}
use Rattle.shim_records.specs.Members.{IsAmong}
use Rattle.shim_records.specs.Pairs.{counts_in, min_labels_in, up_in, rest_of}
use Rattle.shim_records.specs.Labels.{IsLoweredAbove}
use Rattle.shim_records.specs.Acted.{Earlier}
use Rattle.shim_records.specs.Died.{AllLoweredAbove, none_left, one_more, LowersForOne, unshared, again, is_lowered, IsTaken}
use Rattle.shim_records.specs.declared.record.Record.{Record}
use Rattle.shim_records.proofs.FullPropagation.{rest_ups}
use Rattle.shim_records.proofs.ManyPropagations.{among_rest}
use Rattle.shim_records.proofs.Walked.{past_none, inside, less_or_not, last_or_before, among_left, among_last, among_either, none_earlier}

none_there : (c : Channel) → IsAmong c [] → ⊥
none_there c g = none_some c g.1

module _ (y n x : ℕ) where
  -- beside the labels they say what they did
  pub rest_same : {cs : List Channel} {rs behind : List Record} → AllLoweredAbove y n x cs rs behind → map rest_of behind ≡ map rest_of rs
  rest_same (none_left rs) = refl
  rest_same (one_more c cs before between behind once way more) = rest_same more ∙ way.1.rest

  pub counts_same : {cs : List Channel} {rs behind : List Record} (c : Channel) (i : ℕ) → AllLoweredAbove y n x cs rs behind → counts_in c behind i ≡ counts_in c rs i
  counts_same c i (none_left rs) = refl
  counts_same c i (one_more d cs before between behind once way more) = counts_same c i more ∙ way.1.counts c i

  -- no labels of other channels have changed
  pub others : {cs : List Channel} {rs behind : List Record} (c : Channel) → AllLoweredAbove y n x cs rs behind → (IsAmong c cs → ⊥) → min_labels_in c behind ≡ min_labels_in c rs
  others c (none_left rs) out = refl
  others c (one_more d cs before between behind once way more) out =
      let far : same_channel d c ≡ false = on (same_channel d c) refl in
      others c more (λ g. out (suc g.0, g.1)) ∙ (λ t i. way.1.elsewhere c far i t)
    where
      on : (b : Bool) → same_channel d c ≡ b → same_channel d c ≡ false
      on true e = absurd (out (0, ap Some (same_channel_is d c e)))
      on false e = e

  -- into those of one of the channels it was taken in once
  pub record Lowered_by (c : Channel) (rs behind : List Record) : Type 0 where
    pub way : LoweredAbove (up_in rs) (counts_in c rs) (Some y) n (min_labels_in c rs) x (min_labels_in c behind)

  pub its_way : {cs : List Channel} {rs behind : List Record} (c : Channel) → AllLoweredAbove y n x cs rs behind → IsAmong c cs → Lowered_by c rs behind
  its_way c (none_left rs) g = absurd (none_there c g)
  its_way c (one_more d cs before between behind once way more) g = on (same_channel d c) refl (λ h. its_way c more h)
    where
      on : (b : Bool) → same_channel d c ≡ b → (IsAmong c cs → Lowered_by c between behind) → Lowered_by c before behind
      on true e ih =
          subst (λ z. Lowered_by z before behind) (same_channel_is d c e) (record { way = subst (λ z. LoweredAbove (up_in before) (counts_in d before) (Some y) n (min_labels_in d before) x z) (sym (others d more once)) way.0 })
      on false e ih = record {
        way = subst (λ z. LoweredAbove z (counts_in c before) (Some y) n (min_labels_in c before) x (min_labels_in c behind)) (rest_ups before between way.1.rest)
            (subst (λ z. LoweredAbove (up_in between) z (Some y) n (min_labels_in c before) x (min_labels_in c behind)) (λ t i. way.1.counts c i t)
            (subst (λ z. LoweredAbove (up_in between) (counts_in c between) (Some y) n z x (min_labels_in c behind)) (λ t i. way.1.elsewhere c e i t) (ih (among_rest c d cs e g)).way));
      }

-- one more channel behind others
one_behind : (y n x : ℕ) {cs : List Channel} {a b : List Record} (d : List Record) (c : Channel) → AllLoweredAbove y n x cs a b → (IsAmong c cs → ⊥) → IsLoweredAbove c y n x b d → AllLoweredAbove y n x (cs ++ c ∷ []) a d
one_behind y n x d c (none_left rs) out way = one_more c [] rs d d (none_there c) way (none_left d)
one_behind y n x d c (one_more h cs before between behind once first more) out way =
    one_more h (cs ++ c ∷ []) before between d (λ g. elim (among_either h c cs g) [ inl w ↦ once w | inr w ↦ out (0, ap Some (sym w)) ]) first (one_behind y n x d c more (λ g. out (suc g.0, g.1)) way)

-- ---- for the first ones of those that a process was given

module _ {S : Type 0} (o : Ops S) (s : S) (y n x : ℕ) (start : List Record) where
  pub record SoFar (place : ℕ) (now : List Record) : Type 0 where
    pub chans : List Channel
    pub lowered_for : AllLoweredAbove y n x chans start now
    pub all : (c : Channel) → Earlier o s c place → o.shares s c ≡ true → IsAmong c chans
    pub only : (c : Channel) → IsAmong c chans → (o.shares s c ≡ true) × Earlier o s c place

  pub at_first : SoFar 0 start
  at_first = record { chans = []; lowered_for = none_left start; all = λ c h shares. absurd (none_earlier o s c h); only = λ c g. none_some c g.1 }

  later : (c : Channel) (place : ℕ) → Earlier o s c place → Earlier o s c (place + 1)
  later c place h = let w = h.2 in (h.0, h.1, omega (arith, w), h.3, h.4)

  pub next : (place : ℕ) (now behind : List Record) (d : NamedChannel) → slice_get (o.given s) place ≡ Some d → LowersForOne o s y n x d.channel place now behind → SoFar place now → SoFar (place + 1) behind
  next place now behind d e (unshared lacks same) so = subst (SoFar (place + 1)) (sym same) (record {
    chans = so.chans;
    lowered_for = so.lowered_for;
    all = λ c h shares. elim (last_or_before h.0 place h.2) [
      | inl w ↦ so.all c (h.0, h.1, w, h.3, h.4) shares
      | inr w ↦
          let is : d.channel ≡ c = ap (λ z. z.channel) (some_same d h.1 (sym e ∙ (ap (slice_get (o.given s)) (sym w) ∙ h.3))) ∙ h.4 in
          let both : true ≡ false = sym shares ∙ (ap (o.shares s) (sym is) ∙ lacks) in
          absurd cc
    ];
    only = λ c g. let w = so.only c g in (w.0, later c place w.1);
  })
  next place now behind d e (again before same) so = subst (SoFar (place + 1)) (sym same) (record {
    chans = so.chans;
    lowered_for = so.lowered_for;
    all = λ c h shares. elim (last_or_before h.0 place h.2) [
      | inl w ↦ so.all c (h.0, h.1, w, h.3, h.4) shares
      | inr w ↦
          let is : d.channel ≡ c = ap (λ z. z.channel) (some_same d h.1 (sym e ∙ (ap (slice_get (o.given s)) (sym w) ∙ h.3))) ∙ h.4 in
          so.all c (before.0, before.1, before.2, before.3, before.4 ∙ is) shares
    ];
    only = λ c g. let w = so.only c g in (w.0, later c place w.1);
  })
  next place now behind d e (is_lowered shares first way) so = record {
    chans = so.chans ++ d.channel ∷ [];
    lowered_for = one_behind y n x behind d.channel so.lowered_for (λ g. first (so.only d.channel g).1) way;
    all = λ c h has. elim (last_or_before h.0 place h.2) [
      | inl w ↦ among_left c d.channel so.chans (so.all c (h.0, h.1, w, h.3, h.4) has)
      | inr w ↦
          let is : d.channel ≡ c = ap (λ z. z.channel) (some_same d h.1 (sym e ∙ (ap (slice_get (o.given s)) (sym w) ∙ h.3))) ∙ h.4 in
          subst (λ z. IsAmong z (so.chans ++ d.channel ∷ [])) is (among_last d.channel so.chans)
    ];
    only = λ c g. elim (among_either c d.channel so.chans g) [
      | inl w ↦ let u = so.only c w in (u.0, later c place u.1)
      | inr w ↦ (ap (o.shares s) (sym w) ∙ shares, (place, d, omega arith, e, w))
    ];
  }

  -- there are no more
  pub no_more : (place : ℕ) (now : List Record) → slice_get (o.given s) place ≡ None → SoFar place now → IsTaken o s y n x start now
  no_more place now e so = record {
    chans = so.chans;
    is_lowered = so.lowered_for;
    all = λ c g shares. elim (less_or_not g.0 place) [
      | inl w ↦ so.all c (g.0, g.1, w, g.2, g.3) shares
      | inr w ↦ none_some g.1 (sym (past_none (o.given s) place g.0 e w) ∙ g.2)
    ];
    shared = λ c g. (so.only c g).0;
  }

  pub at_end : (place : ℕ) (now : List Record) → length (o.given s) ≤ place → SoFar place now → IsTaken o s y n x start now
  at_end place now few so = record {
    chans = so.chans;
    is_lowered = so.lowered_for;
    all = λ c g shares. let w = inside (o.given s) g.0 g.1 g.2 in so.all c (g.0, g.1, omega (arith, w, few), g.2, g.3) shares;
    shared = λ c g. (so.only c g).0;
  }

  -- beside the labels the records say what they did
  pub stays : (place : ℕ) (now : List Record) → SoFar place now → map rest_of now ≡ map rest_of start
  stays place now so = rest_same y n x so.lowered_for
