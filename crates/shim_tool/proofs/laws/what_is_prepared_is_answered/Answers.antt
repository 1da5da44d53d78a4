use Rattle.shim_tool.proofs.Preparing.{completed}
use Rattle.shim_tool.proofs.laws.what_is_prepared_is_answered.Goals as goal

pub returns : goal.returns
returns c = completed
