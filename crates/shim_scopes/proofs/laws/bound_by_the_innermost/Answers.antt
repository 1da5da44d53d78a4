use Rattle.shim_scopes.proofs.InnermostLemmas.{bound_by_the_innermost}
use Rattle.shim_scopes.proofs.laws.bound_by_the_innermost.Goals as goal

pub returns : goal.returns
returns c = bound_by_the_innermost
