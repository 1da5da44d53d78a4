use Rattle.std.proofs.Common.{◌∙◌, ap}
use Rattle.shim_semantics.specs.Quiets.{quiet_at}
use Rattle.shim_tree.proofs.tree.Tree.at_quiet.Goals as goal

pub returns : goal.returns
returns g c = c.quiet_from.ensures ∙ ap (quiet_at g.L.Local.ops c.args.at) c.self.view_is
