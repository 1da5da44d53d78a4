use Rattle.shim_laws_binding.proofs.OnlyForm.{no_other_form_is_bound}
use Rattle.shim_laws_binding.proofs.laws.no_other_form_is_bound.Goals as goal

pub returns : goal.returns
returns c = no_other_form_is_bound
