use Rattle.std.proofs.Common.{◌∙◌}
use Rattle.shim_tree.proofs.Gathered.{outcome_at_dead}
use Rattle.shim_tree.proofs.reading.outcome_of_root.Goals as goal

pub returns-in-Dead : goal.returns-in-Dead
returns-in-Dead g c = λ l. c.outcome_of_label.ensures ∙ outcome_at_dead l c.args.status.now c.in-Dead.death c.in-Dead.is
