use Rattle.shim_base.proofs.TextPrefix.{cut_exactly_once}
use Rattle.shim_base.proofs.laws.one_cutting.Goals as goal

pub returns : goal.returns
returns c = cut_exactly_once
