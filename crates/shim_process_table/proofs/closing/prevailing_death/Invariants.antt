use Rattle.std.proofs.Common.{◌≡◌, ◌≤◌, ◌+◌, ◌-◌, map}
use Rattle.shim_laws_table.specs.Changes.{segment, prevailing_among}
use Rattle.shim_records.specs.Pairs.{record_view}
use Rattle.shim_process_table.proofs.closing.prevailing_death.Given as goal

abbrev pub invariant-loop-left : goal.invariant-loop-left
invariant-loop-left l = (l.left ≤ l.count) × (l.death ≡ prevailing_among (segment (l.first + l.left) (l.count - l.left) (map record_view l.records)))

abbrev pub decreases-loop-left : goal.decreases-loop-left
decreases-loop-left l = l.left
