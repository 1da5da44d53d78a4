use Rattle.shim_vm.proofs.Asking.{asks}
use Rattle.shim_vm.proofs.laws.a_mark_leads_to_what_is_asked_for.Goals as goal

pub returns : goal.returns
returns c = λ u l place of fit here. asks u l place of fit here
