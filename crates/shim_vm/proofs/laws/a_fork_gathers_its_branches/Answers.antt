use Rattle.shim_vm.proofs.Gathering.{comes_to_fork}
use Rattle.shim_vm.proofs.laws.a_fork_gathers_its_branches.Goals as goal

pub returns : goal.returns
returns c = λ u l place of fit here at. comes_to_fork u l place of fit here at
