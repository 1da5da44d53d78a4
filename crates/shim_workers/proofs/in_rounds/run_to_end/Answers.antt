use Rattle.shim_net.proofs.Progress.{on_and_on}
use Rattle.shim_workers.proofs.in_rounds.run_to_end.Goals as goal

pub returns-clause-goes_on : goal.returns-clause-goes_on
returns-clause-goes_on g c = on_and_on g.L.Local.ops c.args.net.now c.settle_all.new.net c.run_together.new.net
    (on_and_on g.L.Local.ops c.args.net.now c.redo_all.new.self c.settle_all.new.net c.in_ok-redo_all.ensures.goes_on c.in_ok-settle_all.ensures.goes_on) c.in_ok-run_together.ensures.goes_on

pub returns-then-workers-eq1-clause-goes_on : goal.returns-then-workers-eq1-clause-goes_on
returns-then-workers-eq1-clause-goes_on g c = on_and_on g.L.Local.ops c.args.net.now c.settle_all.new.net c.run_alone.new.net
    (on_and_on g.L.Local.ops c.args.net.now c.redo_all.new.self c.settle_all.new.net c.in_ok-redo_all.ensures.goes_on c.in_ok-settle_all.ensures.goes_on) c.in_ok-run_alone.ensures.goes_on
