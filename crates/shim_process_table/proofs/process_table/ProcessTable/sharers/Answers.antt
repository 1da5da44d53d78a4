use Rattle.std.proofs.Common.{sym, ◌∙◌}
use Rattle.shim_base.proofs.Facts.{no_items}
use Rattle.shim_process_table.proofs.Finding.{goes_on, all_looked, all_in_use}
use Rattle.shim_process_table.proofs.process_table.ProcessTable.sharers.Goals as goal

pub returns-in-None-clause-lists : goal.returns-in-None-clause-lists
returns-in-None-clause-lists g c =
    let ahead = c.loop-looked.sharers-inside.ahead in
    all_looked g.L.Local.ops c.args.self.now c.args.c.now.channel c.args.number c.loop-looked.sharers-inside.numbers.items ahead.items (no_items ahead.items (sym ahead.ok.0 ∙ c.in-None.ensures.cases.0)) c.loop-looked.invariant

pub returns-in-None-clause-used : goal.returns-in-None-clause-used
returns-in-None-clause-used g c =
    let ahead = c.loop-looked.sharers-inside.ahead in
    all_in_use g.L.Local.ops c.args.self.now c.args.c.now.channel c.args.number c.loop-looked.sharers-inside.numbers.items ahead.items (no_items ahead.items (sym ahead.ok.0 ∙ c.in-None.ensures.cases.0)) c.loop-looked.invariant

pub loop-looked-preserved : goal.loop-looked-preserved
loop-looked-preserved g c =
    goes_on g.L.Local.ops c.args.self.now c.args.c.now.channel c.args.number c.loop-looked.sharers-inside.numbers.items c.look.new.numbers.items c.loop-looked.sharers-inside.ahead.items c.pop.new.self.items c.look.new.ahead.items c.in-Some.block
    c.in-Some.ensures.items c.in_ok-look-in-Some.ensures c.loop-looked.invariant
