use Rattle.shim_records.proofs.ReadOff.{begun, ended, further, stopped}
use Rattle.shim_records.proofs.recomputing.recompute_min_labels.Goals as goal

pub loop-walked-init : goal.loop-walked-init
loop-walked-init g c = begun g.L.Local.ops c.args.c.now.channel c.args.states.now c.args.forks c.args.at c.args.records.now.items

pub returns-in-None : goal.returns-in-None
returns-in-None g c =
    ended g.L.Local.ops c.args.c.now.channel c.args.states.now c.args.forks c.args.at c.args.records.now.items c.loop-walked.records.items c.loop-walked.here c.loop-walked.walked c.recompute_one.new.records.items
    c.loop-walked.invariant c.in-None.ensures

pub loop-walked-preserved : goal.loop-walked-preserved
loop-walked-preserved g c =
    further g.L.Local.ops c.args.c.now.channel c.args.states.now c.args.forks c.args.at c.args.records.now.items c.loop-walked.records.items c.loop-walked.here c.loop-walked.walked c.recompute_one.new.records.items
    c.in-Some.above c.loop-walked-test.true c.loop-walked.invariant c.in-Some.ensures

pub returns : goal.returns
returns g c =
    stopped g.L.Local.ops c.args.c.now.channel c.args.states.now c.args.forks c.args.at c.args.records.now.items c.loop-walked.records.items c.loop-walked.here c.loop-walked.walked c.loop-walked-test.false c.loop-walked.invariant
