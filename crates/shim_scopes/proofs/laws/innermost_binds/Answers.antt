use Rattle.shim_scopes.proofs.InnermostLemmas.{innermost_binds}
use Rattle.shim_scopes.proofs.laws.innermost_binds.Goals as goal

pub returns : goal.returns
returns c = innermost_binds
