use Rattle.shim_laws_binding.proofs.InnermostLemmas.{innermost_exception_is_meant}
use Rattle.shim_laws_binding.proofs.laws.innermost_exception_is_meant.Goals as goal

pub returns : goal.returns
returns c = innermost_exception_is_meant
