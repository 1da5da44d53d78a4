use Rattle.shim_code.proofs.StatementNumbers.{stmt_counts}
use Rattle.shim_code.proofs.laws.marks_are_as_many_as_numbers.Goals as goal

pub returns : goal.returns
returns c = stmt_counts
