-- A record's pair by its place and by its channel; and the record of a process.
use Rattle.std.proofs.Common.{◌≡◌, ℕ, zero, suc, Bool, true, false, Option, Some, None, List, [], ◌∷◌, cond, map, refl, sym, ap, ◌∙◌, arith}
use Rattle.std.specs.Prelude.{slice_get}
use Rattle.std.specs.Option.{option_map}
use Rattle.std.specs.Ordering.{is_eq}
use Rattle.shim_base.specs.Paths.{Channel, same_channel}
use Rattle.shim_base.specs.PathLaws.{channel_ties}
use Rattle.shim_base.proofs.Facts.{some_same, none_some}
use Rattle.shim_base.proofs.SamePaths.{same_channel_is, same_channel_refl}
use Rattle.shim_laws_table.specs.Agrees.{used}
use Rattle.shim_laws_table.specs.NodeStatus.{ProcessStatus}
use Rattle.shim_laws_table.specs.Counts.{Tally, tally_ready}
use Rattle.shim_records.specs.Pairs.{record_view, tally, chans_of, pair_of, min_label_of, counts_in, counts_ready, counts_at, min_labels_in, min_label_at, IsOrdered}
use Rattle.shim_records.specs.declared.pair.Pair.{Pair}
use Rattle.shim_records.specs.declared.record.Record.{Record}
use Rattle.shim_records.proofs.Representing.{map_get}

chan_at : (ps : List Pair) (q : ℕ) (p : Pair) → slice_get ps q ≡ Some p → slice_get (chans_of ps) q ≡ Some p.chan.channel
chan_at ps q p e = map_get (λ y. y.chan.channel) ps q ∙ ap (option_map (λ y. y.chan.channel)) e

behind_first : (p : Pair) (ps : List Pair) → IsOrdered (chans_of (p ∷ ps)) → IsOrdered (chans_of ps)
behind_first p ps h = record { order = λ i j a b less e f. h.order (suc i) (suc j) a b (omega (arith, less)) e f }

-- the pair in a place is that of its channel
pub pair_at : (ps : List Pair) (q : ℕ) (p : Pair) → IsOrdered (chans_of ps) → slice_get ps q ≡ Some p → pair_of p.chan.channel ps ≡ Some p
pair_at [] q p h e = none_some p e
pair_at (x ∷ ps) zero p h e =
    let same = some_same x p e in
    ap (λ b. cond b (Some x) (pair_of p.chan.channel ps)) (ap (λ z. same_channel z.chan.channel p.chan.channel) same ∙ same_channel_refl p.chan.channel) ∙ ap Some same
pair_at (x ∷ ps) (suc q) p h e =
    let less = h.order zero (suc q) x.chan.channel p.chan.channel (omega arith) refl (chan_at ps q p e) in
    let other : same_channel x.chan.channel p.chan.channel ≡ false = channel_ties x.chan.channel p.chan.channel ∙ ap is_eq less in
    ap (λ b. cond b (Some x) (pair_of p.chan.channel ps)) other ∙ pair_at ps q p (behind_first x ps h) e

-- the pair of a channel is in a place
pub place_of_pair : (c : Channel) (ps : List Pair) (p : Pair) → pair_of c ps ≡ Some p → (q : ℕ) × (slice_get ps q ≡ Some p) × (p.chan.channel ≡ c)
place_of_pair c [] p e = none_some p e
place_of_pair c (x ∷ ps) p e = on (same_channel x.chan.channel c) refl e (λ f. place_of_pair c ps p f)
  where
    on : (b : Bool) → same_channel x.chan.channel c ≡ b → cond b (Some x) (pair_of c ps) ≡ Some p → (pair_of c ps ≡ Some p → (q : ℕ) × (slice_get ps q ≡ Some p) × (p.chan.channel ≡ c))
        → (q : ℕ) × (slice_get (x ∷ ps) q ≡ Some p) × (p.chan.channel ≡ c)
    on true w e f = (zero, e, ap (λ z. z.chan.channel) (sym (some_same x p e)) ∙ same_channel_is x.chan.channel c w)
    on false w e f = let h = f e in (suc h.0, h.1, h.2)

pub from_map : {A B : Type 0} (f : A → B) (x : Option A) (y : B) → option_map f x ≡ Some y → (z : A) × (x ≡ Some z) × (f z ≡ y)
from_map f None y e = none_some y e
from_map f (Some z) y e = (z, refl, some_same (f z) y e)

-- the record of a process
pub record_of : (rs : List Record) (i f : ℕ) (k : ProcessStatus) → slice_get (map record_view rs) i ≡ Some (used f k) → (r : Record) × (slice_get rs i ≡ Some r)
record_of rs i f k e = let w = from_map record_view (slice_get rs i) (used f k) (sym (map_get record_view rs i) ∙ e) in (w.0, w.1)

-- what a record has for the channel of one of its pairs
pub counts_of : (c : Channel) (rs : List Record) (i : ℕ) (r : Record) (p : Pair) → slice_get rs i ≡ Some r → pair_of c r.pairs.items ≡ Some p → counts_in c rs i ≡ Some (tally p)
counts_of c rs i r p e f = ap (counts_at c) e ∙ ap (option_map tally) f

pub label_by : (c : Channel) (rs : List Record) (i : ℕ) (r : Record) (p : Pair) → slice_get rs i ≡ Some r → pair_of c r.pairs.items ≡ Some p → min_labels_in c rs i ≡ p.min_dead_label
label_by c rs i r p e f = ap (min_label_at c) e ∙ ap min_label_of f

-- and the pair by which it has counts
pub pair_by : (c : Channel) (rs : List Record) (i : ℕ) (r : Record) (y : Tally) → slice_get rs i ≡ Some r → counts_in c rs i ≡ Some y → (p : Pair) × (pair_of c r.pairs.items ≡ Some p) × (tally p ≡ y)
pair_by c rs i r y e f = from_map tally (pair_of c r.pairs.items) y (sym (ap (counts_at c) e) ∙ f)

pub counts_there : (x : Option Tally) → counts_ready x ≡ true → (y : Tally) × (x ≡ Some y) × (tally_ready y ≡ true)
counts_there None e = absurd cc
counts_there (Some y) e = (y, refl, e)
