use Rattle.shim_syntax.proofs.OccurrenceLemmas.{names_are_the_identifiers}
use Rattle.shim_syntax.proofs.laws.names_are_the_identifiers.Goals as goal

pub returns : goal.returns
returns c = names_are_the_identifiers
