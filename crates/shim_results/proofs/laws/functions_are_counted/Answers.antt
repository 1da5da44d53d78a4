use Rattle.shim_results.proofs.FunctionUnits as units
use Rattle.shim_results.proofs.laws.functions_are_counted.Goals as goal

pub returns : goal.returns
returns c = units.functions_are_counted
