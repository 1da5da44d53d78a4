use Rattle.shim_laws_stops.proofs.Reached.{forks_have_branches}
use Rattle.shim_laws_stops.proofs.laws.forks_have_branches.Goals as goal

pub returns : goal.returns
returns c = forks_have_branches
