use Rattle.shim_net.proofs.Progress.{on_and_on}
use Rattle.shim_workers.proofs.Progress.{more_and_on, more_steps}
use Rattle.shim_workers.proofs.in_rounds.run_round.Goals as goal

pub loop-one-preserved : goal.loop-one-preserved
loop-one-preserved g c =
    let i = c.loop-one.invariant in
    let e = c.in_ok-take_in_all.ensures in
    record {
      goes_on = on_and_on g.L.Local.ops c.args.net.now c.loop-one.net c.take_in_all.new.net i.goes_on e.goes_on;
      have = e.steps;
      more = more_and_on g.L.Local.ops c.args.net.now c.loop-one.net c.take_in_all.new.net i.more e.goes_on;
    }

pub returns-clause-goes_on : goal.returns-clause-goes_on
returns-clause-goes_on g c = on_and_on g.L.Local.ops c.args.net.now c.loop-one.net c.redo_all.new.self c.loop-one.invariant.goes_on c.in_ok-redo_all.ensures.goes_on

pub returns-clause-more : goal.returns-clause-more
returns-clause-more g c = more_steps g.L.Local.ops c.args.net.now c.loop-one.net c.redo_all.new.self c.requires.home c.loop-one.invariant.more c.in_ok-redo_all.ensures.goes_on c.in_ok-redo_all.ensures.home
