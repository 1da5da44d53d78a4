-- What a program means on an input: the run from its root that always does the first event that is enabled.
use Rattle.std.specs.Prelude.{ℕ, List}
use Rattle.shim_local.specs.declared.Ended.{Ended}
use Rattle.shim_units.specs.declared.form.Form.{Form}
use Rattle.shim_process.specs.Forks.{root}
use Rattle.shim_process.specs.LocalState.{LocalState}
use Rattle.shim_process.specs.Ops.{process_ops}
use Rattle.shim_semantics.specs.Trees.{Tree, start}
use Rattle.shim_semantics.specs.Walks.{meaning}
use Rattle.shim_semantics.specs.Endings.{ended}
use Rattle.shim_reference.specs.Naming.{named}

-- the tree after at most so many events
unfoldable pub meaning_of : Form → List ℕ → ℕ → Tree LocalState
meaning_of program input budget = meaning process_ops budget (start (root program input))

-- what is read off the tree of `meaning_of`, with the name of an exception that nobody caught
unfoldable pub reference_of : Form → List ℕ → ℕ → Ended
reference_of program input budget = named program.main_throws (ended process_ops (meaning_of program input budget))
