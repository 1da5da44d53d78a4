use Rattle.shim_laws_binding.proofs.NewWord.{version_1_has_no_new_type}
use Rattle.shim_laws_binding.proofs.laws.version_1_has_no_new_type.Goals as goal

pub returns : goal.returns
returns c = version_1_has_no_new_type
