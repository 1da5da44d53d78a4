use Rattle.shim_laws_binding.proofs.InnermostLemmas.{exception_without_number_is_nowhere}
use Rattle.shim_laws_binding.proofs.laws.exception_without_number_is_nowhere.Goals as goal

pub returns : goal.returns
returns c = exception_without_number_is_nowhere
