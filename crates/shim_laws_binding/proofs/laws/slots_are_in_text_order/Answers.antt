use Rattle.shim_laws_binding.proofs.TextOrderLemmas.{slots_are_in_text_order}
use Rattle.shim_laws_binding.proofs.laws.slots_are_in_text_order.Goals as goal

pub returns : goal.returns
returns c = slots_are_in_text_order
