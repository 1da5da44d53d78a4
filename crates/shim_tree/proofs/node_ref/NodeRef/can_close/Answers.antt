use Rattle.std.proofs.Common.{sym, ap, ◌∙◌}
use Rattle.std.specs.Option.{option_copied}
use Rattle.shim_tree.specs.ByPath.{can_close}
use Rattle.shim_tree.specs.NodeRefs.{lent_node}
use Rattle.shim_tree.proofs.node_ref.NodeRef.can_close.Goals as goal

pub returns-in-Some : goal.returns-in-Some
returns-in-Some g c = c.can_close.ensures c.self.inside.process.now ∙ ap can_close (ap (λ s. lent_node c.self.inside.process.now (option_copied s)) (sym c.in-Some.is) ∙ c.self.view_is)
