use Rattle.std.proofs.Common.{◌-◌}
use Rattle.shim_records.proofs.FullPropagation.{OnIt}
use Rattle.shim_records.proofs.Reaching.{Led}
use Rattle.shim_records.proofs.Readying.{StillFalls}
use Rattle.shim_records.proofs.upward.update_counts_above.Given as goal

abbrev pub invariant-loop-walked : goal.invariant-loop-walked
invariant-loop-walked l =
    OnIt l.c.channel l.forks l.at l.fn.was l.fn.is l.initial.records.items l.records.items l.here l.walked (l.forks - l.walked) l.records.items l.here × Led l.c.channel l.at l.initial.records.items l.walked l.records.items l.here.at
    × StillFalls l.c.channel l.fn.was l.fn.is l.initial.records.items l.records.items l.here
