use Rattle.shim_process.proofs.PlaceRoot.{root_shares_nothing}
use Rattle.shim_process.proofs.laws.root_shares_nothing.Goals as goal

pub returns : goal.returns
returns c = root_shares_nothing
