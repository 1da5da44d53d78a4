-- What a process does by itself touches its own record and those of the forks above it.
use Rattle.std.proofs.Common.{◌≡◌, ◌≤◌, ℕ, suc, Some, List, map, slice_set, refl, ◌∙◌}
use Rattle.std.specs.Prelude.{slice_get}
use Rattle.shim_base.specs.Paths.{Channel}
use Rattle.shim_local.specs.Process.{Ops}
use Rattle.shim_laws_table.specs.NodeStatus.{ProcessStatus}
use Rattle.shim_laws_table.specs.Counts.{ChildStatus as Read}
use Rattle.shim_records.specs.Pairs.{rest_of, min_labels_in}
use Rattle.shim_records.specs.Ways.{AllCountsMovedWithin}
use Rattle.shim_records.specs.UpdatesAbove.{AllUpdatedAbove, none_left, one_more}
use Rattle.shim_records.specs.Acted.{AllUpdated}
use Rattle.shim_records.specs.Died.{AllLoweredAbove, none_left as none_lowered, one_more as one_lowered, IsTaken}
use Rattle.shim_records.specs.CountingOff.{HasCountedOff}
use Rattle.shim_records.specs.declared.record.Record.{Record}
use Rattle.shim_records.specs.declared.record.Status.{Status}
use Rattle.shim_laws_table_events.specs.keeping.Acting.{with_status}
use Rattle.shim_process_table.specs.Touching.{ChangesOnlyAbove, ChangesOnlyRecords}
use Rattle.shim_process_table.proofs.Touching.{touches_none, touches_on, touches_more, touches_set, touches_above, counts_above, counts_reach, labels_above, counting_off}

-- ---- all channels of a process

pub all_update : (was is : Channel → Read) (n x : ℕ) (cs : List Channel) (before behind : List Record) → AllUpdatedAbove was is n x cs before behind → ChangesOnlyRecords (suc n) x before behind
all_update was is n x cs before behind (none_left rs) = touches_none (suc n) x rs rs refl
all_update was is n x cs before behind (one_more c ds read reads first between last once u v way more) =
    touches_on (suc n) x first between last (counts_above c n x read reads first between way) (all_update was is n x ds between last more)

-- beside the counts nothing has changed
labels_stay : (was is : Channel → Read) (n x : ℕ) (cs : List Channel) (before behind : List Record) → AllUpdatedAbove was is n x cs before behind → (d : Channel) (i : ℕ) → min_labels_in d behind i ≡ min_labels_in d before i
labels_stay was is n x cs before behind (none_left rs) d i = refl
labels_stay was is n x cs before behind (one_more c ds read reads first between last once u v way more) d i = labels_stay was is n x ds between last more d i ∙ way.1.labels d i

rest_stays : (was is : Channel → Read) (n x : ℕ) (cs : List Channel) (before behind : List Record) → AllUpdatedAbove was is n x cs before behind → map rest_of behind ≡ map rest_of before
rest_stays was is n x cs before behind (none_left rs) = refl
rest_stays was is n x cs before behind (one_more c ds read reads first between last once u v way more) = rest_stays was is n x ds between last more ∙ way.1.rest

pub all_lowered : (y n x : ℕ) (cs : List Channel) (before behind : List Record) → AllLoweredAbove y n x cs before behind → ChangesOnlyRecords n x before behind
all_lowered y n x cs before behind (none_lowered rs) = touches_none n x rs rs refl
all_lowered y n x cs before behind (one_lowered c ds first between last once way more) = touches_on n x first between last (labels_above c y n x first between way) (all_lowered y n x ds between last more)

module _ {S : Type 0} (o : Ops S) (s : S) where
  -- the counts were moved as far up as the answer says
  pub all_reach : (k : ProcessStatus) (m n x : ℕ) (before behind : List Record) → AllUpdated o s k n x before behind → AllCountsMovedWithin m x before behind → ChangesOnlyRecords m x before behind
  all_reach k m n x before behind all moves = counts_reach m x before behind (rest_stays _ _ n x all.chans before behind all.updated) (labels_stay _ _ n x all.chans before behind all.updated) moves

  pub taken : (y n x : ℕ) (before behind : List Record) → IsTaken o s y n x before behind → ChangesOnlyRecords n x before behind
  taken y n x before behind all = all_lowered y n x all.chans before behind all.is_lowered

-- ---- one that ends or dies

-- its label went so far up, and then the counts
pub leaves : (n x : ℕ) (k : Status) (was : Record) (before labelled counted behind : List Record) → slice_get before x ≡ Some was → ChangesOnlyRecords n x (slice_set before x (with_status k was)) labelled → ChangesOnlyRecords n x labelled counted → HasCountedOff x counted behind → 1 ≤ n → ChangesOnlyRecords n x before behind
leaves n x k was before labelled counted behind there takes moves left some =
    let now = slice_set before x (with_status k was) in
    touches_on n x before now behind (touches_set n x before was (with_status k was) there refl)
    (touches_on n x now labelled behind takes (touches_on n x labelled counted behind moves (touches_more 1 n x counted behind some (counting_off x counted behind left))))

-- ---- with the states

module _ {S : Type 0} where
  -- where no state has changed
  pub records_touched : (n x : ℕ) (states : List S) (before behind : List Record) → ChangesOnlyRecords n x before behind → ChangesOnlyAbove n x (record { states = states; records = before }) (record { states = states; records = behind })
  records_touched n x states before behind touches = touches_above n x (record { states = states; records = before }) (record { states = states; records = behind }) touches (λ i far. refl)
