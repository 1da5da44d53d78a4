-- What a call does to several processes, none of which it adds or takes away.
use Rattle.std.specs.Prelude.{◌≡◌, ◌⊎◌, ℕ, List}
use Rattle.shim_base.specs.Paths.{Path}
use Rattle.shim_local.specs.Process.{Ops}
use Rattle.shim_semantics.specs.Nodes.{Node}
use Rattle.shim_laws_table.specs.NodeStatus.{ProcessStatus, lives}
use Rattle.shim_records.specs.Members.{IsAmong}
use Rattle.shim_laws_table_events.specs.keeping.Tables.{TableView, HasProcessState, TableInvariant}

-- The same numbers are in use before and after, by processes of the same paths. A process that lives afterwards has one of the numbers of `numbers`, or is as before.
pub record IsChanged {S : Type 0} (o : Ops S) (numbers : List ℕ) (before after : TableView S) : Type 0 where
  pub still : (i f : ℕ) (s : S) (k : ProcessStatus) → HasProcessState before i f s k → (g : ℕ) × (t : S) × (h : ProcessStatus) × HasProcessState after i g t h × (o.path t ≡ o.path s)
  pub only : (i g : ℕ) (t : S) (h : ProcessStatus) → HasProcessState after i g t h → (f : ℕ) × (s : S) × (k : ProcessStatus) × HasProcessState before i f s k × (o.path t ≡ o.path s)
  pub living : (i f : ℕ) (l : S) → HasProcessState after i f l lives → IsAmong i numbers ⊎ HasProcessState before i f l lives

-- if the table invariant of `before` holds for some tree, the processes have changed as `IsChanged` defines
abbrev pub ChangesEach : {S : Type 0} → Ops S → List ℕ → TableView S → TableView S → Type 0
ChangesEach {S} o numbers before after = (rp : Path) (root : Node S) → TableInvariant o rp before root → IsChanged o numbers before after
