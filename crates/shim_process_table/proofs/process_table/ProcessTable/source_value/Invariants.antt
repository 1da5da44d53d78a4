use Rattle.shim_laws_table_events.specs.meetings.Plans.{CarriedFrom}
use Rattle.shim_process_table.proofs.process_table.ProcessTable.source_value.Given as goal

abbrev pub invariant-loop-walked : goal.invariant-loop-walked
invariant-loop-walked g l = CarriedFrom g.L.Local.ops l.self l.c.channel l.at
