use Rattle.std.proofs.Common.{◌^◌}
use Rattle.shim_locations.proofs.RunChanges.{run_ends, taken_from}
use Rattle.shim_locations.proofs.serial_runs.take_from.Goals as goal

pub above-requires-clause-bound : goal.above-requires-clause-bound
above-requires-clause-bound c = run_ends (2 ^ 32) c.args.index c.args.runs.now.items c.args.run c.requires.found.0 c.requires.ordered

pub returns-clause-items : goal.returns-clause-items
returns-clause-items c =
    taken_from (2 ^ 32) c.args.serial c.args.index c.args.runs.now.items c.remove.new.self.items c.insert_some.new.runs.items c.insert_some-2.new.runs.items c.args.run c.below.result c.above.result
    c.requires.found.0 c.requires.found.1 c.requires.ordered c.above.ensures c.below.ensures c.remove.ensures.by_index.2 c.insert_some.ensures.items c.insert_some-2.ensures.items
