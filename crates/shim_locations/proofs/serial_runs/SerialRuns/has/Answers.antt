use Rattle.std.proofs.Common.{◌∙◌, ap, reverse}
use Rattle.shim_locations.specs.Runs.{RunsView}
use Rattle.shim_locations.proofs.RunChanges.{found_by}
use Rattle.shim_locations.proofs.serial_runs.SerialRuns.has.Goals as goal

pub returns : goal.returns
returns c = c.is_some.ensures ∙ found_by c.args.serial c.as_slice.result.now c.args.self.now.runs c.find.result c.find.ensures (ap reverse c.as_slice.ensures.value ∙ ap (λ (r : RunsView). r.runs) c.self.view_is)
