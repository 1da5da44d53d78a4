use Rattle.std.proofs.Common.{◌≡◌, ◌≤◌, ◌-◌, vec_len}
use Rattle.shim_laws_table_events.specs.closes.Closing.{AreFreed}
use Rattle.shim_process_table.proofs.closing.free_children.Given as goal

abbrev pub invariant-loop-at : goal.invariant-loop-at
invariant-loop-at l = AreFreed l.first (l.at - l.first) l.initial.records.items l.records.items × (vec_len l.records ≡ vec_len l.initial.records) × (l.first ≤ l.at)
