use Rattle.shim_laws_binding.proofs.NamedFunctions.{names_put_back_give_the_functions}
use Rattle.shim_laws_binding.proofs.laws.names_put_back_give_the_functions.Goals as goal

pub returns : goal.returns
returns c = names_put_back_give_the_functions
