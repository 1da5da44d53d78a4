use Rattle.shim_laws_binding.proofs.ScopeFunctions.{names_mean_the_innermost}
use Rattle.shim_laws_binding.proofs.laws.names_mean_the_innermost.Goals as goal

pub returns : goal.returns
returns c = names_mean_the_innermost
