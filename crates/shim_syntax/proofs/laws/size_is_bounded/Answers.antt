use Rattle.shim_syntax.proofs.ByteSizes.{size_is_bounded}
use Rattle.shim_syntax.proofs.laws.size_is_bounded.Goals as goal

pub returns : goal.returns
returns c = size_is_bounded
