use Rattle.std.proofs.Common.{◌≡◌, drop}
use Rattle.shim_results.specs.SourceActions.{functions_from}
use Rattle.shim_answers.proofs.execute.function_count.Given as goal

abbrev pub invariant-loop-number : goal.invariant-loop-number
invariant-loop-number l = functions_from l.number (drop l.number l.units) ≡ functions_from 0 l.units
