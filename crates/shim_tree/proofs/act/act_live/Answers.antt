use Rattle.std.proofs.Common.{◌∙◌, sym, ap}
use Rattle.shim_local.specs.Views.{stop_view}
use Rattle.shim_tree.specs.NodeStatus.{node}
use Rattle.shim_tree.specs.Acting.{effects_of}
use Rattle.shim_tree.proofs.Exceptions.{put_acts, throw_acts, trap_acts}
use Rattle.shim_tree.proofs.act.act_live.Goals as goal

pub returns-in-Put-clause-ok : goal.returns-in-Put-clause-ok
returns-in-Put-clause-ok g c =
    put_acts g.L.Local.ops c.args.process.now c.put.new.process c.args.status.now (effects_of c.put.result) c.requires.lives
    (sym c.stop.ensures ∙ ap stop_view c.in-Put.is) c.put.ensures.effects c.put.ensures.after

pub returns-in-Throw-clause-ok : goal.returns-in-Throw-clause-ok
returns-in-Throw-clause-ok g c =
    throw_acts g.L.Local.ops c.args.process.now c.args.status.now c.in-Throw.label (effects_of c.execute_throw.result) (node c.execute_throw.new.process c.execute_throw.new.status) c.requires.lives
    (sym c.stop.ensures ∙ ap stop_view c.in-Throw.is) c.execute_throw.ensures

pub returns-in-Trapped-clause-ok : goal.returns-in-Trapped-clause-ok
returns-in-Trapped-clause-ok g c =
    trap_acts g.L.Local.ops c.args.process.now c.args.status.now c.in-Trapped.kind c.in-Trapped.line c.requires.lives
    (sym c.stop.ensures ∙ ap stop_view c.in-Trapped.is)
