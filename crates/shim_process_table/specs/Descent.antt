-- Numbers that are still to be looked at on a descent, as blocks of children that lie together.
use Rattle.std.specs.Prelude.{◌≡◌, ℕ, true, false, Option, Some, None, List, [], ◌∷◌, ◌++◌}
use Rattle.shim_base.specs.Paths.{Channel}
use Rattle.shim_local.specs.Process.{Ops}
use Rattle.shim_laws_table.specs.NodeStatus.{ProcessStatus}
use Rattle.shim_laws_table_events.specs.keeping.Tables.{TableView, HasProcessState}
use Rattle.shim_laws_table_events.specs.meetings.Descents.{children, numbers_of_length, Descends}
use Rattle.shim_records.specs.declared.record.Status.{Status}
use Rattle.shim_records.specs.declared.record.Status.TheVariants as code
use Rattle.shim_process_table.specs.declared.descent.Block.{Block}

-- the numbers of one block
abbrev pub numbers_of_block : Block → List ℕ
numbers_of_block b = numbers_of_length b.first b.count

-- the numbers of all blocks, those of the last block first
abbrev pub ahead_of : List Block → List ℕ
ahead_of [] = []
ahead_of (b ∷ bs) = ahead_of bs ++ numbers_of_block b

-- how many children a process has whose record has this status; `None` where the record is free
abbrev pub children_by : Status → Option ℕ
children_by code.Free = None
children_by code.Live = Some 0
children_by (code.Forked n) = Some n
children_by code.Ended = Some 0
children_by (code.Dead x) = Some 0

-- Some: the process with this number shares the channel, and the block has its children. None: no process with this number shares the channel.
abbrev pub IsSharer : {S : Type 0} → Ops S → TableView S → Channel → ℕ → Option Block → Type 0
IsSharer {S} o v c i None = (f : ℕ) (s : S) (k : ProcessStatus) → HasProcessState v i f s k → o.shares s c ≡ false
IsSharer {S} o v c i (Some b) = (s : S) × (k : ProcessStatus) × HasProcessState v i b.first s k × (o.shares s c ≡ true) × (b.count ≡ children k)

-- A step of a descent leads from `ahead` and `found` to `ahead'` and `found'`. If a descent from `ahead'` finds `more`, a descent from `ahead` finds some `all`. Then `found` with `all` after it is `found'` with `more` after it.
abbrev pub DescendsOn : {S : Type 0} → Ops S → TableView S → Channel → List ℕ → List ℕ → List ℕ → List ℕ → Type 0
DescendsOn o v c ahead found ahead' found' = (more : List ℕ) → Descends o v c ahead' more → (all : List ℕ) × Descends o v c ahead all × (found ++ all ≡ found' ++ more)
