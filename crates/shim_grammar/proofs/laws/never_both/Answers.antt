use Rattle.shim_grammar.proofs.Exact.{text_or_fault}
use Rattle.shim_grammar.proofs.laws.never_both.Goals as goal

pub returns : goal.returns
returns c = text_or_fault
