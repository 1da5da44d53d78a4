use Rattle.shim_run_log.proofs.HaveValues.{none_kept}
use Rattle.shim_run_log.proofs.histories.Histories.new.Goals as goal

pub invariant_of-result : goal.invariant_of-result
invariant_of-result c = none_kept c.new-2.result c.new.result.items c.new-2.ensures.empty c.new.ensures.items
