use Rattle.shim_laws_table.proofs.MinLabels.{min_labels_follow}
use Rattle.shim_laws_table.proofs.enabled.min_labels_follow.Goals as goal

pub returns : goal.returns
returns g c = min_labels_follow g.L.Local.ops
