use Rattle.shim_laws_binding.proofs.InnermostLemmas.{exception_is_the_innermost}
use Rattle.shim_laws_binding.proofs.laws.exception_is_the_innermost.Goals as goal

pub returns : goal.returns
returns c = exception_is_the_innermost
