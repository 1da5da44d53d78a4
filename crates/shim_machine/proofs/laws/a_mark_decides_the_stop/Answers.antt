use Rattle.shim_machine.proofs.MarkStops.{stops_at}
use Rattle.shim_machine.proofs.laws.a_mark_decides_the_stop.Goals as goal

pub returns : goal.returns
returns c = stops_at
