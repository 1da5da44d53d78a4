-- The ways up from a killed process for the channels that it was given, from the first ones of them.
use Rattle.std.proofs.Common.{map, ◌≡◌, ◌≤◌, inl, inr, ℕ, ◌+◌, true, false, Some, None, List, [], ◌∷◌, ◌++◌, length, sym, ap, subst, ◌∙◌, arith}
use Rattle.std.specs.Prelude.{slice_get}
use Rattle.shim_base.specs.Paths.{Channel, NamedChannel}
use Rattle.shim_base.proofs.Facts.{some_same, none_some}
use Rattle.shim_local.specs.Process.{Ops}
use Rattle.shim_records.specs.Members.{IsAmong}
use Rattle.shim_records.specs.Pairs.{rest_of}
use Rattle.shim_records.specs.UpdatesAbove.{AllUpdatedAbove, none_left}
use Rattle.shim_records.specs.Acted.{Earlier}
use Rattle.shim_records.specs.Killed.{living, as_dead, KillsOne, unshared, again, walked, IsKilled}
use Rattle.shim_records.specs.declared.record.Record.{Record}
use Rattle.shim_records.proofs.ManyPropagations.{rest_same}
use Rattle.shim_records.proofs.Walked.{past_none, inside, less_or_not, last_or_before, among_left, among_last, among_either, one_behind, none_earlier}

module _ {S : Type 0} (o : Ops S) (s : S) (n x : ℕ) (start : List Record) where
  pub record SoFar (place : ℕ) (now : List Record) : Type 0 where
    pub chans : List Channel
    pub updated : AllUpdatedAbove (living o s) (as_dead o s) n x chans start now
    pub all : (c : Channel) → Earlier o s c place → o.shares s c ≡ true → IsAmong c chans
    pub only : (c : Channel) → IsAmong c chans → (o.shares s c ≡ true) × Earlier o s c place

  pub at_first : SoFar 0 start
  at_first = record { chans = []; updated = none_left start; all = λ c h shares. absurd (none_earlier o s c h); only = λ c g. none_some c g.1 }

  later : (c : Channel) (place : ℕ) → Earlier o s c place → Earlier o s c (place + 1)
  later c place h = let w = h.2 in (h.0, h.1, omega (arith, w), h.3, h.4)

  pub next : (place : ℕ) (now behind : List Record) (d : NamedChannel) → slice_get (o.given s) place ≡ Some d → KillsOne o s n x d.channel place now behind → SoFar place now → SoFar (place + 1) behind
  next place now behind d e (unshared lacks same) so = subst (SoFar (place + 1)) (sym same) (record {
    chans = so.chans;
    updated = so.updated;
    all = λ c h shares. elim (last_or_before h.0 place h.2) [
      | inl w ↦ so.all c (h.0, h.1, w, h.3, h.4) shares
      | inr w ↦
          let is : d.channel ≡ c = ap (λ z. z.channel) (some_same d h.1 (sym e ∙ (ap (slice_get (o.given s)) (sym w) ∙ h.3))) ∙ h.4 in
          let both : true ≡ false = sym shares ∙ (ap (o.shares s) (sym is) ∙ lacks) in
          absurd cc
    ];
    only = λ c g. let w = so.only c g in (w.0, later c place w.1);
  })
  next place now behind d e (again before same) so = subst (SoFar (place + 1)) (sym same) (record {
    chans = so.chans;
    updated = so.updated;
    all = λ c h shares. elim (last_or_before h.0 place h.2) [
      | inl w ↦ so.all c (h.0, h.1, w, h.3, h.4) shares
      | inr w ↦
          let is : d.channel ≡ c = ap (λ z. z.channel) (some_same d h.1 (sym e ∙ (ap (slice_get (o.given s)) (sym w) ∙ h.3))) ∙ h.4 in
          so.all c (before.0, before.1, before.2, before.3, before.4 ∙ is) shares
    ];
    only = λ c g. let w = so.only c g in (w.0, later c place w.1);
  })
  next place now behind d e (walked shares first read reads was is way) so = record {
    chans = so.chans ++ d.channel ∷ [];
    updated = one_behind (living o s) (as_dead o s) n x behind d.channel read reads so.updated (λ g. first (so.only d.channel g).1) was is way;
    all = λ c h has. elim (last_or_before h.0 place h.2) [
      | inl w ↦ among_left c d.channel so.chans (so.all c (h.0, h.1, w, h.3, h.4) has)
      | inr w ↦
          let is : d.channel ≡ c = ap (λ z. z.channel) (some_same d h.1 (sym e ∙ (ap (slice_get (o.given s)) (sym w) ∙ h.3))) ∙ h.4 in
          subst (λ z. IsAmong z (so.chans ++ d.channel ∷ [])) is (among_last d.channel so.chans)
    ];
    only = λ c g. elim (among_either c d.channel so.chans g) [
      | inl w ↦ let u = so.only c w in (u.0, later c place u.1)
      | inr w ↦ (ap (o.shares s) (sym w) ∙ shares, (place, d, omega arith, e, w))
    ];
  }

  -- there are no more
  pub no_more : (place : ℕ) (now : List Record) → slice_get (o.given s) place ≡ None → SoFar place now → IsKilled o s n x start now
  no_more place now e so = record {
    chans = so.chans;
    updated = so.updated;
    all = λ c g shares. elim (less_or_not g.0 place) [
      | inl w ↦ so.all c (g.0, g.1, w, g.2, g.3) shares
      | inr w ↦ none_some g.1 (sym (past_none (o.given s) place g.0 e w) ∙ g.2)
    ];
    shared = λ c g. (so.only c g).0;
  }

  pub at_end : (place : ℕ) (now : List Record) → length (o.given s) ≤ place → SoFar place now → IsKilled o s n x start now
  at_end place now few so = record {
    chans = so.chans;
    updated = so.updated;
    all = λ c g shares. let w = inside (o.given s) g.0 g.1 g.2 in so.all c (g.0, g.1, omega (arith, w, few), g.2, g.3) shares;
    shared = λ c g. (so.only c g).0;
  }

  -- beside the pairs the records say what they did
  pub ways : (place : ℕ) (now : List Record) → SoFar place now → map rest_of now ≡ map rest_of start
  ways place now so = rest_same (living o s) (as_dead o s) n x so.updated
