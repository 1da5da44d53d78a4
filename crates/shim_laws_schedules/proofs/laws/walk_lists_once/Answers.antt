use Rattle.shim_laws_schedules.proofs.ListedOnce.{lists_once}
use Rattle.shim_laws_schedules.proofs.laws.walk_lists_once.Goals as goal

pub returns : goal.returns
returns g c = lists_once g.L.Local.ops
