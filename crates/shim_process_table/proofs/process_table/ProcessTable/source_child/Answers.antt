use Rattle.shim_process_table.proofs.Visiting.{no_source, source_is}
use Rattle.shim_process_table.proofs.process_table.ProcessTable.source_child.Goals as goal

pub returns-in-None : goal.returns-in-None
returns-in-None g c = no_source c.args.self.now c.args.c.now.channel c.args.at c.in-None.ensures

pub returns-in-Some : goal.returns-in-Some
returns-in-Some g c = source_is c.args.self.now c.args.c.now.channel c.args.at c.in-Some.fork c.source_of.result c.in-Some.ensures c.source_of.ensures
