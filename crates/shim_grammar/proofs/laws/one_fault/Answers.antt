use Rattle.shim_grammar.proofs.Exact.{one_fault}
use Rattle.shim_grammar.proofs.laws.one_fault.Goals as goal

pub returns : goal.returns
returns c = one_fault
