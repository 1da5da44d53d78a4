use Rattle.std.proofs.Common.{ap, ◌∙◌}
use Rattle.shim_tree.specs.ByPath as by_path
use Rattle.shim_run_log.specs.Events.{event_of}
use Rattle.shim_tree.proofs.EventsByPath.{can_happen_where}
use Rattle.shim_tree.proofs.Happens.{answered_quiescent}
use Rattle.shim_tree.proofs.tree.Tree.is_enabled.Goals as goal

pub returns : goal.returns
returns g c =
    let o = g.L.Local.ops in
    let e = event_of c.args.event.now in
    answered_quiescent _ _ _ (c.can_happen.ensures ∙ ap (by_path.can_happen o e) (c.lend_process-root.ensures ∙ ap (λ t. t.root) c.self.view_is)) (can_happen_where o c.args.self.now e)
