use Rattle.shim_process_table.proofs.TouchingOwn.{taken}
use Rattle.shim_process_table.proofs.terminating.take_label.Goals as goal

pub returns-in-Dead-clause-touches : goal.returns-in-Dead-clause-touches
returns-in-Dead-clause-touches g c = taken g.L.Local.ops c.args.process.now c.in-Dead.death.label 4294967295 c.args.at c.args.records.now.items c.lower_all_labels.new.records.items c.lower_all_labels.ensures
