use Rattle.shim_laws_table.proofs.LabelsBegun.{labels_begin}
use Rattle.shim_laws_table.proofs.enabled.labels_begin.Goals as goal

pub returns : goal.returns
returns g c = labels_begin g.L.Local.ops
