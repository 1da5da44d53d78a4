use Rattle.shim_process_table.proofs.Parents.{there_is}
use Rattle.shim_process_table.proofs.TouchingCloses.{given_read_off}
use Rattle.shim_process_table.proofs.closing.recompute_if.Goals as goal

pub returns-in-Some-clause-touches : goal.returns-in-Some-clause-touches
returns-in-Some-clause-touches g c =
    let s = there_is c.args.states.now c.args.at c.requires.inside in
    given_read_off g.L.Local.ops c.args.states.now s.0 4294967295 c.args.at c.args.records.now.items c.recompute_all.new.records.items (c.recompute_all.ensures s.0 s.1)
