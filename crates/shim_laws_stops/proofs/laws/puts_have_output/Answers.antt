use Rattle.shim_laws_stops.proofs.Reached.{puts_have_output}
use Rattle.shim_laws_stops.proofs.laws.puts_have_output.Goals as goal

pub returns : goal.returns
returns c = puts_have_output
