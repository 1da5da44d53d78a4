use Rattle.std.proofs.Common.{sym, ◌∙◌}
use Rattle.shim_records.specs.Died.{is_lowered}
use Rattle.shim_records.proofs.died.lower_for_one.Goals as goal

pub returns : goal.returns
returns g c = is_lowered (sym c.shares.ensures ∙ c.if-not-shares.false) (c.is_first.ensures.first c.if-not-is_first.false) c.lower_min_labels.ensures
