-- A close touches the records of its process, of its children, which are free after it, and of the forks above it.
use Rattle.std.proofs.Common.{arith, length, ◌≡◌, ◌≢◌, ◌<◌, ◌≤◌, ℕ, ◌+◌, Some, List, slice_set, refl, sym, ap, ◌∙◌}
use Rattle.std.specs.Prelude.{slice_get}
use Rattle.std.specs.Option.{option_map}
use Rattle.shim_base.specs.Paths.{Channel}
use Rattle.shim_base.proofs.Facts.{some_same}
use Rattle.shim_local.specs.Process.{Ops}
use Rattle.shim_laws_table.specs.NodeStatus.{ProcessStatus, lives, forks, ends, dies}
use Rattle.shim_laws_table.specs.Agrees.{free, used}
use Rattle.shim_records.specs.Pairs.{up_in, record_view}
use Rattle.shim_records.specs.declared.record.Record.{Record}
use Rattle.shim_records.proofs.Representing.{map_get}
use Rattle.shim_records.proofs.Stepping.{set_elsewhere}
use Rattle.shim_laws_table_events.specs.keeping.Tables.{TableView, HasProcessState}
use Rattle.shim_laws_table_events.specs.queues.Requeueing.{IsAsBefore}
use Rattle.shim_laws_table_events.proofs.queues.PairsFound.{record_of}
use Rattle.shim_laws_table_events.proofs.queues.Same.{had}
use Rattle.shim_laws_table_events.specs.closes.Closing.{without_status, AreFreed, HasCome, CountsOffIfOver, AllRecomputed, none_left, one_more, GivenRecomputed}
use Rattle.shim_laws_table_events.proofs.closes.Saying.{map_length}
use Rattle.shim_records.specs.Ways.{IsAbove}
use Rattle.shim_process_table.specs.Touching.{ChangesOnlyAbove, IsSameRecord, ChangesOnlyRecords}
use Rattle.shim_process_table.proofs.Above.{above_as}
use Rattle.shim_process_table.proofs.Touching.{touches_none, touches_on, touches_more, touches_set, same_record, says_on, reads_off, counting_off}

module _ {S : Type 0} (o : Ops S) (states : List S) where
  pub all_read_off : (n x : ℕ) (cs : List Channel) (before behind : List Record) → AllRecomputed o states n x cs before behind → ChangesOnlyRecords n x before behind
  all_read_off n x cs before behind (none_left rs) = touches_none n x rs rs refl
  all_read_off n x cs before behind (one_more c ds first between last way more) = touches_on n x first between last (reads_off o c states n x first between way) (all_read_off n x ds between last more)

  pub given_read_off : (s : S) (n x : ℕ) (before behind : List Record) → GivenRecomputed o states s n x before behind → ChangesOnlyRecords n x before behind
  given_read_off s n x before behind h = all_read_off n x h.chans before behind h.recomputed

pub leaves_if : (k : ProcessStatus) (x : ℕ) (before behind : List Record) → CountsOffIfOver k x before behind → ChangesOnlyRecords 1 x before behind
leaves_if lives x before behind h = touches_none 1 x before behind h
leaves_if (forks n) x before behind h = touches_none 1 x before behind h
leaves_if ends x before behind h = counting_off x before behind h
leaves_if (dies d) x before behind h = counting_off x before behind h

-- its record says what came of it, then one child less of its parent goes on, and then counts and labels above were brought up to date
pub record_closes : (n x : ℕ) (k : ProcessStatus) (was is : Record) (before left between behind : List Record) → slice_get before x ≡ Some was → HasCome was is k → CountsOffIfOver k x (slice_set before x is) left → ChangesOnlyRecords n x left between → ChangesOnlyRecords n x between behind → 1 ≤ n
    → ChangesOnlyRecords n x before behind
record_closes n x k was is before left between behind there come leaves counts labels some =
    let own = slice_set before x is in
    touches_on n x before own behind (touches_set n x before was is there come.parent)
    (touches_on n x own left behind (touches_more 1 n x own left some (leaves_if k x own left leaves)) (touches_on n x left between behind counts labels))

module _ {S : Type 0} (states : List S) (rs freed behind : List Record) (m i g n : ℕ) (s : S) (free_ones : AreFreed g n rs freed) (touches : ChangesOnlyRecords m i freed behind) where
  abbrev now : List S
  now = slice_set states i s

  -- who is in use behind isn't one of the children
  no_child : (j f : ℕ) (t : S) (h : ProcessStatus) → HasProcessState (record { states = now; records = behind }) j f t h → IsSameRecord freed behind j → (b : ℕ) → b < n → j ≢ g + b
  no_child j f t h has said b less e =
      let same : IsAsBefore (record { states = now; records = freed }) (record { states = now; records = behind }) j = record { state = refl; rest = said.rest; counts = said.counts; labels = said.labels } in
      let was = had (record { states = now; records = freed }) (record { states = now; records = behind }) j same f t h has in
      let w = record_of freed j f h was.view_is in
      let is_free = free_ones.freed.inside b w.0 less (ap (slice_get freed) (sym e) ∙ w.1) in
      not_free f h (sym is_free ∙ some_same (record_view w.0) (used f h) (sym (map_get record_view freed j ∙ ap (option_map record_view) w.1) ∙ was.view_is))
    where
      not_free : {B : Type 0} (f : ℕ) (h : ProcessStatus) → free ≡ used f h → B
      not_free f h e = absurd cc

  freed_long : length freed ≡ length rs
  freed_long = sym (map_length without_status freed) ∙ (ap length free_ones.beside ∙ map_length without_status rs)

  abbrev After : TableView S
  After = record { states = now; records = behind }

  others : (j f : ℕ) (t : S) (h : ProcessStatus) → HasProcessState After j f t h → j ≢ i → (IsAbove (up_in behind) m i j → ⊥) → IsAsBefore (record { states = states; records = rs }) After j
  others j f t h has far out =
      let said = touches.others j far (λ w. out (above_as (up_in freed) (up_in behind) touches.parents w)) in
      let w = says_on rs freed behind j (same_record rs freed j (free_ones.freed.outside j (no_child j f t h has said))) said in
      record { state = set_elsewhere states i j s far; rest = w.rest; counts = w.counts; labels = w.labels }

  pub closes_touch : ChangesOnlyAbove m i (record { states = states; records = rs }) After
  closes_touch = record { others = others; no_more = let a = touches.as_many in let b = freed_long in omega (arith, a, b) }
