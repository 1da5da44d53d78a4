use Rattle.std.proofs.Common.{◌-◌}
use Rattle.shim_records.proofs.Lowering.{OnIt}
use Rattle.shim_records.proofs.labels.lower_min_labels.Given as goal

abbrev pub invariant-loop-walked : goal.invariant-loop-walked
invariant-loop-walked l = OnIt l.c.channel l.label l.forks l.at l.initial.records.items l.records.items l.here l.walked (l.forks - l.walked) l.records.items l.here
