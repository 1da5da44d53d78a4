-- Who waits at and below a process, gathered by numbers.
use Rattle.std.specs.Prelude.{◌≡◌, ℕ, Some}
use Rattle.std.specs.FinMap as finite
use Rattle.shim_base.specs.Paths.{NamedChannel, path_order}
use Rattle.shim_local.specs.Process.{Ops}
use Rattle.shim_semantics.specs.Nodes.{Node}
use Rattle.shim_semantics.specs.Endings.{waiting}
use Rattle.shim_laws_table.specs.RepresentedTree.{node_of}
use Rattle.shim_laws_table_events.specs.keeping.Tables.{TableView, views}
use Rattle.shim_run_log.specs.Waits.{with_waits}

-- where the node of the number is computed by so many levels, those that wait at and below it are added
abbrev pub AddsWaits : {S : Type 0} → Ops S → TableView S → ℕ → ℕ → finite.FinMap path_order NamedChannel → finite.FinMap path_order NamedChannel → Type 0
AddsWaits {S} o v levels number before after = (n : Node S) → node_of v.states (views v) levels number ≡ Some n → after ≡ with_waits before (waiting o n)
