use Rattle.std.proofs.Common.{◌≡◌, ◌≤◌, ℕ, Some, length}
use Rattle.std.specs.Prelude.{slice_get}
use Rattle.shim_laws_table.specs.Agrees.{free}
use Rattle.shim_records.specs.Pairs.{record_view}
use Rattle.shim_records.specs.declared.record.Record.{Record}
use Rattle.shim_process_table.proofs.closing.used_end.Given as goal

abbrev pub invariant-loop-end : goal.invariant-loop-end
invariant-loop-end l = (l.end ≤ length l.records) × ((i : ℕ) (r : Record) → l.end ≤ i → slice_get l.records i ≡ Some r → record_view r ≡ free)

abbrev pub decreases-loop-end : goal.decreases-loop-end
decreases-loop-end l = l.end
