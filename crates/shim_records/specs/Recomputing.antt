-- How the least labels of records are read off the forks' children again, on the way up.
use Rattle.std.specs.Prelude.{ℕ, suc, Option, Some, None, List, map}
use Rattle.shim_base.specs.Paths.{Channel}
use Rattle.shim_local.specs.Process.{Ops}
use Rattle.shim_laws_table.specs.Recomputing.{Recomputed}
use Rattle.shim_records.specs.Pairs.{counts_in, min_labels_in, up_in, record_view}
use Rattle.shim_records.specs.Labels.{OnlyLabels}
use Rattle.shim_records.specs.declared.record.Record.{Record}

-- The labels for the channel above the record x were read off again, through at most n forks. `labels` are those before, `end` those afterwards. Views, parents and counts are those of the records rs.
abbrev pub Recomputes : {S : Type 0} → Ops S → Channel → List S → List Record → ℕ → (ℕ → Option ℕ) → ℕ → (ℕ → Option ℕ) → Type 0
Recomputes o c states rs n labels x end = Recomputed o c states (map record_view rs) (up_in rs) (counts_in c rs) n labels x end

-- None: the walk up from the record x ends with this step, whatever its bound. Some: if a walk from j of at most n forks leads on to `end`, a walk from x of at most n + 1 forks leads there.
abbrev pub ReadsOn : {S : Type 0} → Ops S → Channel → List S → List Record → ℕ → Option ℕ → List Record → Type 0
ReadsOn o c states before x None after = (n : ℕ) → Recomputes o c states before n (min_labels_in c before) x (min_labels_in c after)
ReadsOn o c states before x (Some j) after = (n : ℕ) (end : ℕ → Option ℕ) → Recomputes o c states before n (min_labels_in c after) j end → Recomputes o c states before (suc n) (min_labels_in c before) x end

-- one step of a walk up from the record x reads a label off again, and nothing but labels for the channel has changed
abbrev pub RecomputesOne : {S : Type 0} → Ops S → Channel → List S → List Record → ℕ → Option ℕ → List Record → Type 0
RecomputesOne o c states before x next after = ReadsOn o c states before x next after × OnlyLabels c before after

-- the labels for the channel above the record x were read off the children again, through at most n forks, and nothing else has changed
abbrev pub IsRecomputed : {S : Type 0} → Ops S → Channel → List S → ℕ → ℕ → List Record → List Record → Type 0
IsRecomputed o c states n x before after = Recomputes o c states before n (min_labels_in c before) x (min_labels_in c after) × OnlyLabels c before after
