use Rattle.std.proofs.Common.{◌-◌}
use Rattle.shim_records.proofs.FullPropagation.{OnIt}
use Rattle.shim_records.proofs.Reaching.{Led}
use Rattle.shim_records.proofs.Readying.{SoReady}
use Rattle.shim_records.proofs.upward.propagate_stop_above.Given as goal

abbrev pub invariant-loop-walked : goal.invariant-loop-walked
invariant-loop-walked l =
    OnIt l.c.channel 4294967295 l.at l.initial.here.was l.initial.here.is l.initial.records.items l.records.items l.here l.walked (4294967295 - l.walked) l.records.items l.here × Led l.c.channel l.at l.initial.records.items l.walked l.records.items l.here.at
    × SoReady l.c.channel l.at l.initial.records.items l.walked l.again l.records.items l.here.at
