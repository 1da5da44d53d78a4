-- The least label of dead children, read from the last one on; and the labels above, read off again for the first of the channels that a process was given.
use Rattle.std.proofs.Common.{◌≡◌, ◌<◌, ◌≤◌, ◌+◌, ◌-◌, ◌⊎◌, inl, inr, ℕ, zero, suc, true, false, Option, Some, None, List, [], ◌∷◌, ◌++◌, map, length, take, drop, refl, sym, ap, subst, ◌∙◌, arith}
use Rattle.std.specs.Prelude.{slice_get}
use Rattle.std.specs.Option.{option_map}
use Rattle.shim_base.specs.Paths.{Channel, NamedChannel}
use Rattle.shim_base.proofs.Facts.{some_same, none_some}
use Rattle.shim_local.specs.Process.{Ops}
use Rattle.shim_semantics.specs.Nodes.{Death}
use Rattle.shim_laws_table.specs.Changes.{segment, prevailing_with, prevailing_among}
use Rattle.shim_records.specs.Members.{IsAmong}
use Rattle.shim_records.specs.Acted.{Earlier}
use Rattle.shim_records.specs.Pairs.{record_view, status_view, rest_of}
use Rattle.shim_records.specs.Recomputing.{IsRecomputed}
use Rattle.shim_records.specs.declared.record.Record.{Record}
use Rattle.shim_records.proofs.Walked.{none_earlier}
use Rattle.shim_records.proofs.Representing.{map_get}
use Rattle.shim_laws_table_events.specs.closes.Closing.{AllRecomputed, none_left, one_more, GivenRecomputed}
use Rattle.shim_laws_table_events.proofs.closes.Labels.{rest_recomputed}

-- where a list has an item, it begins with that
drop_at : {A : Type 0} (xs : List A) (g : ℕ) (x : A) → slice_get xs g ≡ Some x → drop g xs ≡ x ∷ drop (suc g) xs
drop_at [] g x e = none_some x e
drop_at (y ∷ xs) zero x e = ap (λ z. z ∷ xs) (some_same y x e)
drop_at (y ∷ xs) (suc g) x e = drop_at xs g x e

no_block : {A : Type 0} (xs : List A) → take 0 xs ≡ []
no_block [] = refl
no_block (x ∷ xs) = refl

pub none_read : (rs : List Record) (g n : ℕ) → None ≡ prevailing_among (segment (g + n) (n - n) (map record_view rs))
none_read rs g n =
    let none : n - n ≡ 0 = omega arith in
    sym (ap (λ z. prevailing_among (segment (g + n) z (map record_view rs))) none ∙ ap prevailing_among (no_block (drop (g + n) (map record_view rs))))

-- one more child
pub one_read : (rs : List Record) (g n i : ℕ) (r : Record) (min_dead_label now : Option Death) → i < n → slice_get rs (g + i) ≡ Some r → ((f : ℕ) → now ≡ prevailing_with (status_view f r.status) min_dead_label)
    → min_dead_label ≡ prevailing_among (segment (g + (i + 1)) (n - (i + 1)) (map record_view rs)) → now ≡ prevailing_among (segment (g + i) (n - i) (map record_view rs))
one_read rs g n i r min_dead_label now less there is so =
    let left : n - i ≡ suc (n - (i + 1)) = omega (arith, less) in
    let next : suc (g + i) ≡ g + (i + 1) = omega arith in
    let here : slice_get (map record_view rs) (g + i) ≡ Some (record_view r) = map_get record_view rs (g + i) ∙ ap (option_map record_view) there in
    is r.first
    ∙ (ap (prevailing_with (record_view r)) (so ∙ ap (λ z. prevailing_among (segment z (n - (i + 1)) (map record_view rs))) (sym next))
    ∙ sym (ap (λ z. prevailing_among (segment (g + i) z (map record_view rs))) left ∙ ap (λ z. prevailing_among (take (suc (n - (i + 1))) z)) (drop_at (map record_view rs) (g + i) (record_view r) here)))

pub all_read : (rs : List Record) (g n i : ℕ) (min_dead_label : Option Death) → i ≡ 0 → min_dead_label ≡ prevailing_among (segment (g + i) (n - i) (map record_view rs)) → min_dead_label ≡ prevailing_among (segment g n (map record_view rs))
all_read rs g n i min_dead_label e so =
    let first : g + i ≡ g = omega (arith, e) in
    let many : n - i ≡ n = omega (arith, e) in
    so ∙ (λ t. prevailing_among (segment (first t) (many t) (map record_view rs)))

-- ---- the labels above

inside : {A : Type 0} (xs : List A) (i : ℕ) (x : A) → slice_get xs i ≡ Some x → i < length xs
inside [] i x e = none_some x e
inside (y ∷ xs) zero x e = omega arith
inside (y ∷ xs) (suc i) x e = let w = inside xs i x e in omega (arith, w)

past_none : {A : Type 0} (xs : List A) (i j : ℕ) → slice_get xs i ≡ None → i ≤ j → slice_get xs j ≡ None
past_none [] i j e h = refl
past_none (x ∷ xs) zero j e h = absurd cc
past_none (x ∷ xs) (suc i) zero e h = absurd (omega (arith, h))
past_none (x ∷ xs) (suc i) (suc j) e h = past_none xs i j e (omega (arith, h))

less_or_not : (i j : ℕ) → (i < j) ⊎ (j ≤ i)
less_or_not i zero = inr (omega arith)
less_or_not zero (suc j) = inl (omega arith)
less_or_not (suc i) (suc j) = elim (less_or_not i j) [ inl h ↦ inl (omega (arith, h)) | inr h ↦ inr (omega (arith, h)) ]

last_or_before : (i j : ℕ) → i < j + 1 → (i < j) ⊎ (i ≡ j)
last_or_before zero zero h = inr refl
last_or_before zero (suc j) h = inl (omega arith)
last_or_before (suc i) zero h = absurd (omega (arith, h))
last_or_before (suc i) (suc j) h = elim (last_or_before i j (omega (arith, h))) [ inl w ↦ inl (omega (arith, w)) | inr w ↦ inr (ap suc w) ]

among_left : (c d : Channel) (cs : List Channel) → IsAmong c cs → IsAmong c (cs ++ d ∷ [])
among_left c d [] (i, e) = none_some c e
among_left c d (x ∷ cs) (zero, e) = (0, e)
among_left c d (x ∷ cs) (suc i, e) = let w = among_left c d cs (i, e) in (suc w.0, w.1)

among_last : (c : Channel) (cs : List Channel) → IsAmong c (cs ++ c ∷ [])
among_last c [] = (0, refl)
among_last c (x ∷ cs) = let w = among_last c cs in (suc w.0, w.1)

among_either : (c d : Channel) (cs : List Channel) → IsAmong c (cs ++ d ∷ []) → IsAmong c cs ⊎ (d ≡ c)
among_either c d [] (zero, e) = inr (some_same d c e)
among_either c d [] (suc i, e) = none_some c e
among_either c d (x ∷ cs) (zero, e) = inl (0, e)
among_either c d (x ∷ cs) (suc i, e) = elim (among_either c d cs (i, e)) [ inl w ↦ inl (suc w.0, w.1) | inr w ↦ inr w ]

module _ {S : Type 0} (o : Ops S) (states : List S) (n x : ℕ) where
  one_behind : {cs : List Channel} {a b : List Record} (d : List Record) (c : Channel) → AllRecomputed o states n x cs a b → IsRecomputed o c states n x b d → AllRecomputed o states n x (cs ++ c ∷ []) a d
  one_behind d c (none_left rs) way = one_more c [] rs d d way (none_left d)
  one_behind d c (one_more h cs before between behind first more) way = one_more h (cs ++ c ∷ []) before between d first (one_behind d c more way)

  module _ (s : S) (start : List Record) where
    pub record SoFar (place : ℕ) (now : List Record) : Type 0 where
      pub chans : List Channel
      pub recomputed : AllRecomputed o states n x chans start now
      pub all : (c : Channel) → Earlier o s c place → o.shares s c ≡ true → IsAmong c chans
      pub only : (c : Channel) → IsAmong c chans → o.shares s c ≡ true

    pub at_first : SoFar 0 start
    at_first = record { chans = []; recomputed = none_left start; all = λ c h shares. absurd (none_earlier o s c h); only = λ c g. none_some c g.1 }

    -- beside labels records say what they did
    pub ways : (place : ℕ) (now : List Record) → SoFar place now → map rest_of now ≡ map rest_of start
    ways place now so = rest_recomputed o states n x so.recomputed

    pub next : (place : ℕ) (now behind : List Record) (d : NamedChannel) → slice_get (o.given s) place ≡ Some d → o.shares s d.channel ≡ true → IsRecomputed o d.channel states n x now behind → SoFar place now → SoFar (place + 1) behind
    next place now behind d e shares way so = record {
      chans = so.chans ++ d.channel ∷ [];
      recomputed = one_behind behind d.channel so.recomputed way;
      all = λ c h too. elim (last_or_before h.0 place h.2) [
        | inl w ↦ among_left c d.channel so.chans (so.all c (h.0, h.1, w, h.3, h.4) too)
        | inr w ↦
            let is : d.channel ≡ c = ap (λ z. z.channel) (some_same d h.1 (sym e ∙ (ap (slice_get (o.given s)) (sym w) ∙ h.3))) ∙ h.4 in
            subst (λ z. IsAmong z (so.chans ++ d.channel ∷ [])) is (among_last d.channel so.chans)
      ];
      only = λ c g. elim (among_either c d.channel so.chans g) [
        | inl w ↦ so.only c w
        | inr w ↦ ap (o.shares s) (sym w) ∙ shares
      ];
    }

    pub passed : (place : ℕ) (now : List Record) (d : NamedChannel) → slice_get (o.given s) place ≡ Some d → o.shares s d.channel ≡ false → SoFar place now → SoFar (place + 1) now
    passed place now d e lacks so = record {
      chans = so.chans;
      recomputed = so.recomputed;
      all = λ c h shares. elim (last_or_before h.0 place h.2) [
        | inl w ↦ so.all c (h.0, h.1, w, h.3, h.4) shares
        | inr w ↦
            let is : d.channel ≡ c = ap (λ z. z.channel) (some_same d h.1 (sym e ∙ (ap (slice_get (o.given s)) (sym w) ∙ h.3))) ∙ h.4 in
            let both : true ≡ false = sym shares ∙ (ap (o.shares s) (sym is) ∙ lacks) in
            absurd cc
      ];
      only = so.only;
    }

    -- after the last one
    pub no_more : (place : ℕ) (now : List Record) → slice_get (o.given s) place ≡ None → SoFar place now → GivenRecomputed o states s n x start now
    no_more place now e so = record {
      chans = so.chans;
      recomputed = so.recomputed;
      all = λ c given shares. elim (less_or_not given.0 place) [
        | inl w ↦ so.all c (given.0, given.1, w, given.2, given.3) shares
        | inr w ↦ none_some given.1 (sym (past_none (o.given s) place given.0 e w) ∙ given.2)
      ];
      shared = so.only;
    }

    pub at_end : (place : ℕ) (now : List Record) → length (o.given s) ≤ place → SoFar place now → GivenRecomputed o states s n x start now
    at_end place now past so = record {
      chans = so.chans;
      recomputed = so.recomputed;
      all = λ c given shares. let w = inside (o.given s) given.0 given.1 given.2 in so.all c (given.0, given.1, omega (arith, w, past), given.2, given.3) shares;
      shared = so.only;
    }
