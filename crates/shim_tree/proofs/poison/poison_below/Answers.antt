use Rattle.std.proofs.Common.{◌∙◌, ap}
use Rattle.shim_semantics.specs.Nodes.{death}
use Rattle.shim_semantics.specs.Poison.{poisoned}
use Rattle.shim_base.proofs.Facts.{at_fault}
use Rattle.shim_tree.proofs.poison.poison_below.Goals as goal

pub returns-in_err-fill_below-clause-err : goal.returns-in_err-fill_below-clause-err
returns-in_err-fill_below-clause-err g c = at_fault _ _ (c.in_err-fill_below.ensures.same c.args.process.now)

pub returns-clause-ok : goal.returns-clause-ok
returns-clause-ok g c = c.poison_filled.ensures ∙ ap (poisoned g.L.Local.ops c.args.chan.now.channel (death c.args.label)) (c.in_ok-fill_below.ensures.same c.args.process.now)
