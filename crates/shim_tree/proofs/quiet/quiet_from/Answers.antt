use Rattle.std.proofs.Common.{◌∙◌, sym, ap}
use Rattle.shim_semantics.specs.Quiets.{quiets}
use Rattle.shim_tree.specs.NodeStatus.{node}
use Rattle.shim_tree.specs.Sought.{sought_of}
use Rattle.shim_tree.proofs.Sought.{got_here, got_none}
use Rattle.shim_tree.proofs.quiet.quiet_from.Goals as goal

pub returns-in-Here : goal.returns-in-Here
returns-in-Here g c = got_here (quiets g.L.Local.ops (node c.args.l.now c.args.status.now)) c.args.at c.in-Here.found.now (sym (ap sought_of c.in-Here.is) ∙ c.seek_quiet.ensures)

pub returns-in-Passed : goal.returns-in-Passed
returns-in-Passed g c = got_none (quiets g.L.Local.ops (node c.args.l.now c.args.status.now)) c.args.at _ (sym (ap sought_of c.in-Passed.is) ∙ c.seek_quiet.ensures)
