use Rattle.shim_grammar.proofs.Once as once
use Rattle.shim_grammar.proofs.laws.one_program.Goals as goal

pub returns : goal.returns
returns c = once.one_program
