use Rattle.std.proofs.Common.{sym, ◌∙◌}
use Rattle.shim_base.proofs.Facts.{no_items}
use Rattle.shim_process_table.proofs.Visiting.{goes_on, all_visited}
use Rattle.shim_process_table.proofs.process_table.ProcessTable.receivers.Goals as goal

pub returns-in-None : goal.returns-in-None
returns-in-None g c =
    let ahead = c.loop-visited.sharers-inside.ahead in
    all_visited c.args.self.now c.args.c.now.channel c.args.number c.loop-visited.sharers-inside.numbers.items ahead.items (no_items ahead.items (sym ahead.ok.0 ∙ c.in-None.ensures.cases.0)) c.loop-visited.invariant

pub loop-visited-preserved : goal.loop-visited-preserved
loop-visited-preserved g c =
    goes_on c.args.self.now c.args.c.now.channel c.args.number c.loop-visited.sharers-inside.numbers.items c.visit.new.numbers.items c.loop-visited.sharers-inside.ahead.items c.pop.new.self.items c.visit.new.ahead.items c.in-Some.block
    c.in-Some.ensures.items c.in_ok-visit-in-Some.ensures c.loop-visited.invariant
