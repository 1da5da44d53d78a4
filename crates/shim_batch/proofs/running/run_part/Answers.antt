use Rattle.std.proofs.Common.{sym, ◌∙◌}
use Rattle.shim_base.proofs.Facts.{no_items}
use Rattle.shim_batch.specs.Runs.{RunsToEnd}
use Rattle.shim_batch.proofs.Runs.{zips_none, zips_one}
use Rattle.shim_batch.proofs.running.run_part.Goals as goal

pub returns : goal.returns
returns g c =
    let rest = c.loop-net.net-iterator.rest in
    zips_none (RunsToEnd g.L.Local.ops) c.args.nets c.loop-net.done rest.items (no_items rest.items (sym rest.ok.0 ∙ c.in-None.ensures.steps.0)) c.loop-net.invariant

pub loop-net-preserved : goal.loop-net-preserved
loop-net-preserved g c =
    zips_one (RunsToEnd g.L.Local.ops) c.args.nets c.loop-net.done c.push.new.self c.in-Some.net c.in_ok-run_net.field-0 c.loop-net.net-iterator.rest.items c.next.new.self.rest.items c.in-Some.ensures.steps.0 c.in_ok-run_net.ensures
    c.in_ok-push.ensures.ok c.loop-net.invariant
