use Rattle.shim_scopes.proofs.InnermostLemmas.{unbound_is_undeclared}
use Rattle.shim_scopes.proofs.laws.unbound_is_undeclared.Goals as goal

pub returns : goal.returns
returns c = unbound_is_undeclared
