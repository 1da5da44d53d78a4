use Rattle.shim_net.proofs.Progress.{stays, on_and_on}
use Rattle.shim_workers.proofs.taking.take_in_all.Goals as goal

pub loop-finished-init : goal.loop-finished-init
loop-finished-init g c = record { goes_on = stays g.L.Local.ops c.args.net.now; steps = c.requires.steps }

pub loop-finished-preserved : goal.loop-finished-preserved
loop-finished-preserved g c = record {
  goes_on = on_and_on g.L.Local.ops c.args.net.now c.loop-finished.net c.take.new.net c.loop-finished.invariant.goes_on c.in_ok-take.ensures.goes_on;
  steps = c.in_ok-take.ensures.steps;
}
