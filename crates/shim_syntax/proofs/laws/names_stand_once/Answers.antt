use Rattle.shim_syntax.proofs.DistinctLemmas.{names_stand_once}
use Rattle.shim_syntax.proofs.laws.names_stand_once.Goals as goal

pub returns : goal.returns
returns c = names_stand_once
