use Rattle.std.proofs.Common.{Some, sym, ap, ◌∙◌}
use Rattle.std.specs.Option.{option_map}
use Rattle.shim_tree.specs.ByPath.{its_node}
use Rattle.shim_tree.specs.Views.{node_view}
use Rattle.shim_tree.proofs.tree.Tree.view.Goals as goal

pub returns-in-None : goal.returns-in-None
returns-in-None g c =
    let o = g.L.Local.ops in
    ap (option_map (node_view o)) (sym c.in-None.is ∙ (c.found_by.ensures ∙ ap (λ z. its_node o z c.args.path.now) (c.lend_process-root.ensures ∙ ap (λ t. t.root) c.self.view_is)))

pub returns-in-Some : goal.returns-in-Some
returns-in-Some g c =
    let o = g.L.Local.ops in
    ap Some c.view.ensures ∙ ap (option_map (node_view o)) (sym c.in-Some.is ∙ (c.found_by.ensures ∙ ap (λ z. its_node o z c.args.path.now) (c.lend_process-root.ensures ∙ ap (λ t. t.root) c.self.view_is)))
