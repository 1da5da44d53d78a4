use Rattle.std.proofs.Common.{◌-◌}
use Rattle.shim_records.proofs.ReadOff.{OnIt}
use Rattle.shim_records.proofs.recomputing.recompute_min_labels.Given as goal

abbrev pub invariant-loop-walked : goal.invariant-loop-walked
invariant-loop-walked g l = OnIt g.L.Local.ops l.c.channel l.states l.forks l.at l.initial.records.items l.records.items l.here l.walked (l.forks - l.walked) l.records.items l.here
