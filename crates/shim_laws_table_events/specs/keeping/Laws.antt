-- What records keep where a tree begins, and where a live process does quiet steps.
use Rattle.std.specs.Prelude.{◌≡◌, ℕ, List, [], ◌∷◌, slice_set}
use Rattle.shim_base.specs.Paths.{Path}
use Rattle.shim_local.specs.Process.{Ops, AtQuiet}
use Rattle.shim_local.specs.Quiets.{QuietSteps}
use Rattle.shim_semantics.specs.Nodes.{Live}
use Rattle.shim_semantics.specs.Quiets.{Advances}
use Rattle.shim_semantics.specs.Sound.{SharesItsOwn}
use Rattle.shim_semantics.specs.Trees.{Tree}
use Rattle.shim_laws_table.specs.NodeStatus.{lives}
use Rattle.shim_records.specs.declared.record.Record.{Record}
use Rattle.shim_laws_table_events.specs.keeping.Tables.{TableView, HasProcessState, TableInvariant, IsOfRoot}
use Rattle.shim_laws_table_events.specs.keeping.Propagating.{PropagatesStop}

-- one record of a root represents the tree in which the root lives
abbrev pub StartEstablishes : {S : Type 0} → Ops S → Type 0
StartEstablishes {S} o = (root : S) (r : Record) → IsOfRoot o root r → o.sound root → o.path root ≡ [] → SharesItsOwn o root → TableInvariant o [] (record { states = root ∷ []; records = r ∷ [] }) (Live root)

-- A live process before a quiet step can do the n steps that lead from its state to `last`. Let `last` be put in place of its state, and the counts above be updated for the channel to which it came. Then the table invariant holds for the tree after the steps.
abbrev pub QuietStepsPreserve : {S : Type 0} → Ops S → Type 0
QuietStepsPreserve {S} o = (rp : Path) (t : Tree S) (states : List S) (rs after : List Record) (n x f : ℕ) (l last : S) → TableInvariant o rp (record { states = states; records = rs }) t.root → HasProcessState (record { states = states; records = rs }) x f l lives
    → o.stop l ≡ AtQuiet → QuietSteps o n l last → PropagatesStop o last 4294967295 x rs after → (u : Tree S) × Advances o (o.path l) n t u × TableInvariant o rp (record { states = slice_set states x last; records = after }) u.root
