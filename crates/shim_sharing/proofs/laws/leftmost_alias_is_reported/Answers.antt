use Rattle.shim_sharing.proofs.Aliases.{leftmost_alias}
use Rattle.shim_sharing.proofs.laws.leftmost_alias_is_reported.Goals as goal

pub returns : goal.returns
returns c = leftmost_alias
