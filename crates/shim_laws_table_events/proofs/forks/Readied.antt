-- The channels on which a new fork is ready, and the counts above, updated for these.
use Rattle.std.proofs.Common.{◌≡◌, ℕ, zero, suc, Bool, true, false, Some, List, [], ◌∷◌, cond, refl, sym, ap, subst, ◌∙◌, arith}
use Rattle.std.specs.Prelude.{slice_get}
use Rattle.std.specs.Option.{option_map}
use Rattle.std.specs.Ordering.{is_eq}
use Rattle.shim_base.specs.Paths.{Channel, same_channel}
use Rattle.shim_base.specs.PathLaws.{channel_ties}
use Rattle.shim_base.proofs.Facts.{some_same, none_some}
use Rattle.shim_base.proofs.SamePaths.{same_channel_is, same_channel_refl}
use Rattle.shim_semantics.proofs.HowMany.{clash}
use Rattle.shim_laws_table.specs.Counts.{Tally, ChildStatus as Read, tally_ready}
use Rattle.shim_records.specs.Members.{IsAmong}
use Rattle.shim_records.specs.Pairs.{tally, chans_of, pair_of, tally_for, min_labels_in, IsOrdered}
use Rattle.shim_records.specs.UpdatesAbove.{AllUpdatedAbove, none_left as no_way, one_more as one_way}
use Rattle.shim_records.specs.declared.pair.Pair.{Pair}
use Rattle.shim_records.specs.declared.record.Record.{Record}
use Rattle.shim_laws_table_events.specs.forks.Forking.{ready_chans, EachUpdatedAbove, none_left, one_more}

-- what is read of a process that shares a channel, and isn't ready on it, or is
abbrev pub going : Bool → Channel → Read
going b c = record { going = true; ready_on = b; dead_on = false }

-- none of these is there twice
abbrev pub Once : List Channel → Type 0
Once [] = Unit {0}
Once (c ∷ cs) = (IsAmong c cs → ⊥) × Once cs

-- ---- the ways

module _ (n x : ℕ) where
  pub all_ways : {cs : List Channel} {rs behind : List Record} → Once cs → EachUpdatedAbove n x cs rs behind → AllUpdatedAbove (going false) (going true) n x cs rs behind
  all_ways once (none_left rs) = no_way rs
  all_ways once (one_more c cs was is before between behind u v way more) = one_way c cs was is before between behind once.0 u v way (all_ways once.1 more)

  -- no label has changed
  pub labels_same : {cs : List Channel} {rs behind : List Record} (c : Channel) → EachUpdatedAbove n x cs rs behind → min_labels_in c behind ≡ min_labels_in c rs
  labels_same c (none_left rs) = refl
  labels_same c (one_more d cs was is before between behind u v way more) = labels_same c more ∙ (λ t i. way.1.labels c i t)

-- ---- the channels

abbrev at_tail : Channel → Pair → List Pair → Bool → List Channel
at_tail c p ps b = cond b (p.chan.channel ∷ ready_chans ps) (ready_chans ps)

-- the pair of one of them
pub ready_pair : (c : Channel) (ps : List Pair) → IsAmong c (ready_chans ps) → (i : ℕ) × (p : Pair) × (slice_get ps i ≡ Some p) × (p.chan.channel ≡ c) × (tally_ready (tally p) ≡ true)
ready_pair c [] (i, e) = none_some c e
ready_pair c (p ∷ ps) (i, e) = on (tally_ready (tally p)) refl i e (λ h. ready_pair c ps h)
  where
    later : (j : ℕ) × (q : Pair) × (slice_get ps j ≡ Some q) × (q.chan.channel ≡ c) × (tally_ready (tally q) ≡ true) → (j : ℕ) × (q : Pair) × (slice_get (p ∷ ps) j ≡ Some q) × (q.chan.channel ≡ c) × (tally_ready (tally q) ≡ true)
    later w = (suc w.0, w.1, w.2, w.3, w.4)

    on : (b : Bool) → tally_ready (tally p) ≡ b → (i : ℕ) → slice_get (at_tail c p ps b) i ≡ Some c → (IsAmong c (ready_chans ps) → (j : ℕ) × (q : Pair) × (slice_get ps j ≡ Some q) × (q.chan.channel ≡ c) × (tally_ready (tally q) ≡ true))
        → (j : ℕ) × (q : Pair) × (slice_get (p ∷ ps) j ≡ Some q) × (q.chan.channel ≡ c) × (tally_ready (tally q) ≡ true)
    on true w zero e h = (0, p, refl, some_same p.chan.channel c e, w)
    on true w (suc i) e h = later (h (i, e))
    on false w i e h = later (h (i, e))

chan_at : (ps : List Pair) (i : ℕ) (p : Pair) → slice_get ps i ≡ Some p → slice_get (chans_of ps) i ≡ Some p.chan.channel
chan_at [] i p e = none_some p e
chan_at (q ∷ ps) zero p e = ap (λ z. Some z.chan.channel) (some_same q p e)
chan_at (q ∷ ps) (suc i) p e = chan_at ps i p e

tail_order : (c : Channel) (cs : List Channel) → IsOrdered (c ∷ cs) → IsOrdered cs
tail_order c cs h = record { order = λ i j a b less e f. h.order (suc i) (suc j) a b (omega (arith, less)) e f }

-- the first one isn't among the others
first_apart : (c d : Channel) (cs : List Channel) → IsOrdered (c ∷ cs) → IsAmong d cs → same_channel c d ≡ false
first_apart c d cs h g = channel_ties c d ∙ ap is_eq (h.order 0 (suc g.0) c d (omega arith) refl g.1)

-- it is that of the channel
pub found_pair : (c : Channel) (ps : List Pair) (i : ℕ) (p : Pair) → IsOrdered (chans_of ps) → slice_get ps i ≡ Some p → p.chan.channel ≡ c → tally_for c ps ≡ Some (tally p)
found_pair c [] i p h e is = none_some p e
found_pair c (q ∷ ps) zero p h e is =
    let same = some_same q p e in
    ap (λ b. option_map tally (cond b (Some q) (pair_of c ps))) (ap (λ z. same_channel z c) (ap (λ z. z.chan.channel) same ∙ is) ∙ same_channel_refl c) ∙ ap (λ z. Some (tally z)) same
found_pair c (q ∷ ps) (suc i) p h e is =
    let far : same_channel q.chan.channel c ≡ false = first_apart q.chan.channel c (chans_of ps) h (i, chan_at ps i p e ∙ ap Some is) in
    ap (λ b. option_map tally (cond b (Some q) (pair_of c ps))) far ∙ found_pair c ps i p (tail_order q.chan.channel (chans_of ps) h) e is

pub ready_once : (ps : List Pair) → IsOrdered (chans_of ps) → Once (ready_chans ps)
ready_once [] h = tt
ready_once (p ∷ ps) h = on (tally_ready (tally p)) (ready_once ps (tail_order p.chan.channel (chans_of ps) h))
  where
    not_behind : IsAmong p.chan.channel (ready_chans ps) → ⊥
    not_behind g =
        let w = ready_pair p.chan.channel ps g in
        clash (same_channel p.chan.channel p.chan.channel) (same_channel_refl p.chan.channel) (first_apart p.chan.channel p.chan.channel (chans_of ps) h (w.0, chan_at ps w.0 w.1 w.2 ∙ ap Some w.3))

    on : (b : Bool) → Once (ready_chans ps) → Once (at_tail p.chan.channel p ps b)
    on true once = (not_behind, once)
    on false once = once

-- a channel is one of them where its pair says so
pub is_ready : (c : Channel) (ps : List Pair) (y : Tally) → tally_for c ps ≡ Some y → tally_ready y ≡ true → IsAmong c (ready_chans ps)
is_ready c [] y e w = none_some y e
is_ready c (p ∷ ps) y e w = on (same_channel p.chan.channel c) refl e (λ h. behind (tally_ready (tally p)) (is_ready c ps y h w))
  where
    behind : (b : Bool) → IsAmong c (ready_chans ps) → IsAmong c (at_tail c p ps b)
    behind true g = (suc g.0, g.1)
    behind false g = g

    on : (b : Bool) → same_channel p.chan.channel c ≡ b → option_map tally (cond b (Some p) (pair_of c ps)) ≡ Some y → (tally_for c ps ≡ Some y → IsAmong c (at_tail c p ps (tally_ready (tally p)))) → IsAmong c (at_tail c p ps (tally_ready (tally p)))
    on true s f h =
        let its : tally_ready (tally p) ≡ true = ap tally_ready (some_same (tally p) y f) ∙ w in
        subst (λ b. IsAmong c (at_tail c p ps b)) (sym its) (0, ap Some (same_channel_is p.chan.channel c s))
    on false s f h = h f
