use Rattle.shim_semantics.proofs.Enabled.{lists_enabled}
use Rattle.shim_semantics.proofs.laws.walk_lists_enabled.Goals as goal

pub returns : goal.returns
returns g c = lists_enabled g.L.Local.ops
