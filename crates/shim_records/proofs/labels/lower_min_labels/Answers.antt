use Rattle.std.proofs.Common.{arith}
use Rattle.shim_records.proofs.Lowering.{ended, further, stopped}
use Rattle.shim_records.proofs.labels.lower_min_labels.Goals as goal

pub returns-in-None : goal.returns-in-None
returns-in-None c =
    ended c.args.c.now.channel c.args.label c.args.forks c.args.at c.args.records.now.items c.loop-walked.records.items c.loop-walked.here c.loop-walked.walked c.lower_one.new.records.items c.loop-walked.invariant c.in-None.ensures

pub loop-walked-preserved : goal.loop-walked-preserved
loop-walked-preserved c =
    further c.args.c.now.channel c.args.label c.args.forks c.args.at c.args.records.now.items c.loop-walked.records.items c.loop-walked.here c.loop-walked.walked c.lower_one.new.records.items c.in-Some.above (omega (arith, c.loop-walked-test.true))
    c.loop-walked.invariant c.in-Some.ensures

pub returns : goal.returns
returns c =
    stopped c.args.c.now.channel c.args.label c.args.forks c.args.at c.args.records.now.items c.loop-walked.records.items c.loop-walked.here c.loop-walked.walked (omega (arith, c.loop-walked-test.false)) c.loop-walked.invariant
