-- What a fork knows of who of its children shares a channel, and a walk by that, block by block.
use Rattle.std.specs.Prelude.{◌≡◌, ◌<◌, ◌≤◌, ℕ, ◌+◌, Option, Some, None, List, ◌++◌}
use Rattle.shim_base.specs.Paths.{Channel}
use Rattle.shim_laws_table.specs.NodeStatus.{forks}
use Rattle.shim_records.specs.Pairs.{known_in}
use Rattle.shim_records.specs.declared.record.Status.{Status}
use Rattle.shim_records.specs.declared.record.Status.TheVariants as code
use Rattle.shim_laws_table_events.specs.keeping.Tables.{TableView, HasProcessState}
use Rattle.shim_laws_table_events.specs.meetings.Plans.{Plans}
use Rattle.shim_process_table.specs.declared.descent.Knowledge.{Knowledge}

-- into how many a process has forked whose record has this status, if it has
abbrev pub forked_into : Status → Option ℕ
forked_into code.Free = None
forked_into code.Live = None
forked_into (code.Forked n) = Some n
forked_into code.Ended = None
forked_into (code.Dead x) = None

-- the process with this number has forked and knows this of the channel; or it hasn't, or knows nothing
abbrev pub KnowledgeAt : {S : Type 0} → TableView S → Channel → ℕ → Option Knowledge → Type 0
KnowledgeAt {S} v c i None = (f n : ℕ) (s : S) → HasProcessState v i f s (forks n) → known_in c v.records i ≡ None
KnowledgeAt {S} v c i (Some w) = (s : S) × HasProcessState v i w.first s (forks w.count) × (known_in c v.records i ≡ Some w.sharing)

-- Some: j is the number of the child that took the channel's own variable, as the fork knows. None: as the fork knows, no child took it.
abbrev pub IsSourceOf : Knowledge → Option ℕ → Type 0
IsSourceOf w None = w.count ≤ w.sharing.source
IsSourceOf w (Some j) = (w.sharing.source < w.count) × (j ≡ w.first + w.sharing.source)

-- A step of the walk leads from `ahead` and `found` to `ahead'` and `found'`. If a walk from `ahead'` finds `more`, a walk from `ahead` finds some `all`. Then `found` with `all` after it is `found'` with `more` after it.
abbrev pub PlansOn : {S : Type 0} → TableView S → Channel → List ℕ → List ℕ → List ℕ → List ℕ → Type 0
PlansOn v c ahead found ahead' found' = (more : List ℕ) → Plans v c ahead' more → (all : List ℕ) × Plans v c ahead all × (found ++ all ≡ found' ++ more)
