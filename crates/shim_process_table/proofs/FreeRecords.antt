-- Records that are free, one after another.
use Rattle.std.proofs.Common.{◌≡◌, ◌<◌, ◌≤◌, ℕ, Some, List}
use Rattle.std.specs.Prelude.{slice_get}
use Rattle.shim_laws_table.specs.Agrees.{free}
use Rattle.shim_records.specs.Pairs.{record_view}
use Rattle.shim_records.specs.declared.record.Record.{Record}

-- those from a number on to another one
pub record AreFree (g at : ℕ) (rs : List Record) : Type 0 where
  pub free_ones : (j : ℕ) (r : Record) → g ≤ j → j < at → slice_get rs j ≡ Some r → record_view r ≡ free
