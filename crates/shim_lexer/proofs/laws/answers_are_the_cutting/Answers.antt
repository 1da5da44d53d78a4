use Rattle.shim_lexer.proofs.Runs.{run_cuts}
use Rattle.shim_lexer.proofs.laws.answers_are_the_cutting.Goals as goal

pub returns : goal.returns
returns c = run_cuts
