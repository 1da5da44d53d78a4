-- How the tree that records show moves with what is done to them.
use Rattle.std.specs.Prelude.{◌≡◌, ℕ, Some}
use Rattle.shim_base.specs.Paths.{Path}
use Rattle.shim_local.specs.Process.{Ops}
use Rattle.shim_semantics.specs.Quiets.{Advances}
use Rattle.shim_semantics.specs.Trees.{Tree, Event, after}
use Rattle.shim_laws_table_events.specs.keeping.Tables.{TableView, TableInvariant}

-- In each tree for which the table invariant of `before` holds, the event is enabled. The table invariant of `behind` holds for the tree after it.
abbrev pub Performs : {S : Type 0} → Ops S → Event → TableView S → TableView S → Type 0
Performs {S} o e before behind = (rp : Path) (t : Tree S) → TableInvariant o rp before t.root → (u : Tree S) × (after o e t ≡ Some u) × TableInvariant o rp behind u.root

-- In each tree for which the table invariant of `before` holds, the process of the path can do n quiet steps. The table invariant of `behind` holds for the tree after them.
abbrev pub PerformsQuiet : {S : Type 0} → Ops S → Path → ℕ → TableView S → TableView S → Type 0
PerformsQuiet {S} o p n before behind = (rp : Path) (t : Tree S) → TableInvariant o rp before t.root → (u : Tree S) × Advances o p n t u × TableInvariant o rp behind u.root
