use Rattle.std.proofs.Common.{◌≤◌}
use Rattle.shim_records.specs.Acted.{process_status_of}
use Rattle.shim_records.specs.Ways.{AllCountsMovedWithin}
use Rattle.shim_records.proofs.Walked.{SoFar}
use Rattle.shim_records.proofs.acted.update_all_counts.Given as goal

abbrev pub invariant-loop-place : goal.invariant-loop-place
invariant-loop-place g l = SoFar g.L.Local.ops l.process (process_status_of l.status) l.forks l.at l.initial.records.items l.place l.records.items × AllCountsMovedWithin l.furthest l.at l.initial.records.items l.records.items × (l.furthest ≤ l.forks)
