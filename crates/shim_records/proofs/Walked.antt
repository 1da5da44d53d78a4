-- The ways up for the channels that a process was given, from the first ones of them.
use Rattle.std.proofs.Common.{map, ◌≡◌, ◌≢◌, ◌≤◌, ◌⊎◌, inl, inr, ℕ, zero, suc, ◌+◌, ◌<◌, true, false, Some, None, List, [], ◌∷◌, ◌++◌, length, refl, sym, ap, subst, ◌∙◌, arith}
use Rattle.std.specs.Prelude.{slice_get}
use Rattle.shim_base.specs.Paths.{Channel, NamedChannel}
use Rattle.shim_base.proofs.Facts.{some_same, none_some}
use Rattle.shim_local.specs.Process.{Ops}
use Rattle.shim_laws_table.specs.NodeStatus.{ProcessStatus}
use Rattle.shim_laws_table.specs.Counts.{ChildStatus as Read}
use Rattle.shim_laws_table.specs.Sufficing.{leaf_status}
use Rattle.shim_records.specs.Members.{IsAmong}
use Rattle.shim_records.specs.Pairs.{child_status_of, rest_of}
use Rattle.shim_records.specs.Ways.{IsUpdatedAbove}
use Rattle.shim_records.specs.UpdatesAbove.{AllUpdatedAbove, none_left, one_more}
use Rattle.shim_records.specs.Acted.{acting, Earlier, UpdatesForOne, unshared, again, walked, AllUpdated}
use Rattle.shim_records.specs.declared.pair.ChildStatus.{ChildStatus}
use Rattle.shim_records.specs.declared.record.Record.{Record}
use Rattle.shim_records.proofs.ManyPropagations.{rest_same}

-- ---- places in a list

pub past_none : {A : Type 0} (xs : List A) (i j : ℕ) → slice_get xs i ≡ None → i ≤ j → slice_get xs j ≡ None
past_none [] i j e h = refl
past_none (x ∷ xs) zero j e h = absurd cc
past_none (x ∷ xs) (suc i) zero e h = absurd (omega (arith, h))
past_none (x ∷ xs) (suc i) (suc j) e h = past_none xs i j e (omega (arith, h))

pub inside : {A : Type 0} (xs : List A) (i : ℕ) (x : A) → slice_get xs i ≡ Some x → i < length xs
inside [] i x e = none_some x e
inside (y ∷ xs) zero x e = omega arith
inside (y ∷ xs) (suc i) x e = let w = inside xs i x e in omega (arith, w)

pub less_or_not : (i j : ℕ) → (i < j) ⊎ (j ≤ i)
less_or_not i zero = inr (omega arith)
less_or_not zero (suc j) = inl (omega arith)
less_or_not (suc i) (suc j) = elim (less_or_not i j) [ inl h ↦ inl (omega (arith, h)) | inr h ↦ inr (omega (arith, h)) ]

pub last_or_before : (i j : ℕ) → i < j + 1 → (i < j) ⊎ (i ≡ j)
last_or_before zero zero h = inr refl
last_or_before zero (suc j) h = inl (omega arith)
last_or_before (suc i) zero h = absurd (omega (arith, h))
last_or_before (suc i) (suc j) h = elim (last_or_before i j (omega (arith, h))) [ inl w ↦ inl (omega (arith, w)) | inr w ↦ inr (ap suc w) ]

pub among_left : (c d : Channel) (cs : List Channel) → IsAmong c cs → IsAmong c (cs ++ d ∷ [])
among_left c d [] (i, e) = none_some c e
among_left c d (x ∷ cs) (zero, e) = (0, e)
among_left c d (x ∷ cs) (suc i, e) = let w = among_left c d cs (i, e) in (suc w.0, w.1)

pub among_last : (c : Channel) (cs : List Channel) → IsAmong c (cs ++ c ∷ [])
among_last c [] = (0, refl)
among_last c (x ∷ cs) = let w = among_last c cs in (suc w.0, w.1)

pub among_either : (c d : Channel) (cs : List Channel) → IsAmong c (cs ++ d ∷ []) → IsAmong c cs ⊎ (d ≡ c)
among_either c d [] (zero, e) = inr (some_same d c e)
among_either c d [] (suc i, e) = none_some c e
among_either c d (x ∷ cs) (zero, e) = inl (0, e)
among_either c d (x ∷ cs) (suc i, e) = elim (among_either c d cs (i, e)) [ inl w ↦ inl (suc w.0, w.1) | inr w ↦ inr w ]

-- one more way behind others
pub one_behind : (was is : Channel → Read) (n x : ℕ) {cs : List Channel} {a b : List Record} (d : List Record) (c : Channel) (read reads : ChildStatus) → AllUpdatedAbove was is n x cs a b → (IsAmong c cs → ⊥) → child_status_of read ≡ was c → child_status_of reads ≡ is c → IsUpdatedAbove c n x read reads b d
    → AllUpdatedAbove was is n x (cs ++ c ∷ []) a d
one_behind was is n x d c read reads (none_left rs) out e f way = one_more c [] read reads rs d d none_there e f way (none_left d)
  where
    none_there : IsAmong c [] → ⊥
    none_there g = none_some c g.1
one_behind was is n x d c read reads (one_more h cs r rs before between behind once u v first more) out e f way =
    one_more h (cs ++ c ∷ []) r rs before between d
    (λ g. elim (among_either h c cs g) [ inl w ↦ once w | inr w ↦ out (0, ap Some (sym w)) ])
    u v first (one_behind was is n x d c read reads more (λ g. out (suc g.0, g.1)) e f way)

module _ {S : Type 0} (o : Ops S) (s : S) where
  -- ---- whether a channel was before

  pub none_earlier : (c : Channel) → Earlier o s c 0 → ⊥
  none_earlier c h = let w = h.2 in omega (arith, w)

  pub still_none : (c : Channel) (place : ℕ) → slice_get (o.given s) place ≡ None → (Earlier o s c place → ⊥) → Earlier o s c (place + 1) → ⊥
  still_none c place e none h = elim (last_or_before h.0 place h.2) [
    | inl w ↦ none (h.0, h.1, w, h.3, h.4)
    | inr w ↦ none_some h.1 (sym e ∙ (ap (slice_get (o.given s)) (sym w) ∙ h.3))
  ]

  pub another : (c : Channel) (place : ℕ) (d : NamedChannel) → slice_get (o.given s) place ≡ Some d → d.channel ≢ c → (Earlier o s c place → ⊥) → Earlier o s c (place + 1) → ⊥
  another c place d e far none h = elim (last_or_before h.0 place h.2) [
    | inl w ↦ none (h.0, h.1, w, h.3, h.4)
    | inr w ↦ far (ap (λ z. z.channel) (some_same d h.1 (sym e ∙ (ap (slice_get (o.given s)) (sym w) ∙ h.3))) ∙ h.4)
  ]

  pub declared_before : (c : Channel) (at place : ℕ) (d : NamedChannel) → at < place → slice_get (o.given s) at ≡ Some d → d.channel ≡ c → Earlier o s c place
  declared_before c at place d less e same = (at, d, less, e, same)

  -- ---- the ways for the first ones

  module _ (k : ProcessStatus) (n x : ℕ) (start : List Record) where
    pub record SoFar (place : ℕ) (now : List Record) : Type 0 where
      pub chans : List Channel
      pub updated : AllUpdatedAbove (acting o s) (λ c. leaf_status o c s k) n x chans start now
      pub all : (c : Channel) → Earlier o s c place → o.shares s c ≡ true → IsAmong c chans
      pub only : (c : Channel) → IsAmong c chans → (o.shares s c ≡ true) × Earlier o s c place

    pub at_first : SoFar 0 start
    at_first = record { chans = []; updated = none_left start; all = λ c h shares. absurd (none_earlier c h); only = λ c g. none_some c g.1 }

    later : (c : Channel) (place : ℕ) → Earlier o s c place → Earlier o s c (place + 1)
    later c place h = let w = h.2 in (h.0, h.1, omega (arith, w), h.3, h.4)

    pub next : (place : ℕ) (now behind : List Record) (d : NamedChannel) → slice_get (o.given s) place ≡ Some d → UpdatesForOne o s k n x d.channel place now behind → SoFar place now → SoFar (place + 1) behind
    next place now behind d e (unshared lacks same) so = subst (SoFar (place + 1)) (sym same) (record {
      chans = so.chans;
      updated = so.updated;
      all = λ c h shares. elim (last_or_before h.0 place h.2) [
        | inl w ↦ so.all c (h.0, h.1, w, h.3, h.4) shares
        | inr w ↦
            let is : d.channel ≡ c = ap (λ z. z.channel) (some_same d h.1 (sym e ∙ (ap (slice_get (o.given s)) (sym w) ∙ h.3))) ∙ h.4 in
            let both : true ≡ false = sym shares ∙ (ap (o.shares s) (sym is) ∙ lacks) in
            absurd cc
      ];
      only = λ c g. let w = so.only c g in (w.0, later c place w.1);
    })
    next place now behind d e (again before same) so = subst (SoFar (place + 1)) (sym same) (record {
      chans = so.chans;
      updated = so.updated;
      all = λ c h shares. elim (last_or_before h.0 place h.2) [
        | inl w ↦ so.all c (h.0, h.1, w, h.3, h.4) shares
        | inr w ↦
            let is : d.channel ≡ c = ap (λ z. z.channel) (some_same d h.1 (sym e ∙ (ap (slice_get (o.given s)) (sym w) ∙ h.3))) ∙ h.4 in
            so.all c (before.0, before.1, before.2, before.3, before.4 ∙ is) shares
      ];
      only = λ c g. let w = so.only c g in (w.0, later c place w.1);
    })
    next place now behind d e (walked shares first read reads was is way) so = record {
      chans = so.chans ++ d.channel ∷ [];
      updated = one_behind (acting o s) (λ c. leaf_status o c s k) n x behind d.channel read reads so.updated (λ g. first (so.only d.channel g).1) was is way;
      all = λ c h has. elim (last_or_before h.0 place h.2) [
        | inl w ↦ among_left c d.channel so.chans (so.all c (h.0, h.1, w, h.3, h.4) has)
        | inr w ↦
            let is : d.channel ≡ c = ap (λ z. z.channel) (some_same d h.1 (sym e ∙ (ap (slice_get (o.given s)) (sym w) ∙ h.3))) ∙ h.4 in
            subst (λ z. IsAmong z (so.chans ++ d.channel ∷ [])) is (among_last d.channel so.chans)
      ];
      only = λ c g. elim (among_either c d.channel so.chans g) [
        | inl w ↦ let u = so.only c w in (u.0, later c place u.1)
        | inr w ↦ (ap (o.shares s) (sym w) ∙ shares, (place, d, omega arith, e, w))
      ];
    }

    -- there are no more
    pub no_more : (place : ℕ) (now : List Record) → slice_get (o.given s) place ≡ None → SoFar place now → AllUpdated o s k n x start now
    no_more place now e so = record {
      chans = so.chans;
      updated = so.updated;
      all = λ c g shares. elim (less_or_not g.0 place) [
        | inl w ↦ so.all c (g.0, g.1, w, g.2, g.3) shares
        | inr w ↦ none_some g.1 (sym (past_none (o.given s) place g.0 e w) ∙ g.2)
      ];
      shared = λ c g. (so.only c g).0;
    }

    pub at_end : (place : ℕ) (now : List Record) → length (o.given s) ≤ place → SoFar place now → AllUpdated o s k n x start now
    at_end place now few so = record {
      chans = so.chans;
      updated = so.updated;
      all = λ c g shares. let w = inside (o.given s) g.0 g.1 g.2 in so.all c (g.0, g.1, omega (arith, w, few), g.2, g.3) shares;
      shared = λ c g. (so.only c g).0;
    }

    -- beside the pairs the records say what they did
    pub ways : (place : ℕ) (now : List Record) → SoFar place now → map rest_of now ≡ map rest_of start
    ways place now so = rest_same (acting o s) (λ c. leaf_status o c s k) n x so.updated
