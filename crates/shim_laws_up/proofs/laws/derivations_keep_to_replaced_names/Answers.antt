use Rattle.std.proofs.Common.{false}
use Rattle.shim_laws_up.proofs.Derivations.{functions_rewritten}
use Rattle.shim_laws_up.proofs.laws.derivations_keep_to_replaced_names.Goals as goal

pub returns : goal.returns
returns c = λ f end place n v s fs h. functions_rewritten f false end place h
