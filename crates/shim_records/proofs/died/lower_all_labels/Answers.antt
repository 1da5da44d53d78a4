use Rattle.std.proofs.Common.{sym, arith}
use Rattle.shim_records.proofs.AllLowered.{at_first, next, no_more, at_end}
use Rattle.shim_records.proofs.died.lower_all_labels.Goals as goal

pub loop-place-init : goal.loop-place-init
loop-place-init g c = at_first g.L.Local.ops c.args.process.now c.args.label c.args.forks c.args.at c.args.records.now.items

pub returns-in-None : goal.returns-in-None
returns-in-None g c =
    no_more g.L.Local.ops c.args.process.now c.args.label c.args.forks c.args.at c.args.records.now.items c.loop-place.place c.loop-place.records.items (sym c.in-None.ensures) c.loop-place.invariant

pub loop-place-preserved : goal.loop-place-preserved
loop-place-preserved g c =
    next g.L.Local.ops c.args.process.now c.args.label c.args.forks c.args.at c.args.records.now.items c.loop-place.place c.loop-place.records.items c.lower_for_one.new.records.items c.in-Some.chan.now
    (sym c.in-Some.ensures) c.lower_for_one.ensures c.loop-place.invariant

pub returns : goal.returns
returns g c =
    at_end g.L.Local.ops c.args.process.now c.args.label c.args.forks c.args.at c.args.records.now.items c.loop-place.place c.loop-place.records.items
    (let few = c.requires.few in let past = c.loop-place-test.false in omega (arith, few, past)) c.loop-place.invariant
