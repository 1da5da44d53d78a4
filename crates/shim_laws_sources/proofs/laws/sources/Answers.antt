use Rattle.shim_laws_sources.proofs.Reached.{one_input, sources}
use Rattle.shim_laws_sources.proofs.laws.sources.Goals as goal

pub returns-clause-input : goal.returns-clause-input
returns-clause-input c = one_input

pub returns-clause-carried : goal.returns-clause-carried
returns-clause-carried c = sources
