use Rattle.std.proofs.Common.{◌∙◌, ap}
use Rattle.shim_tree.specs.NodeStatus.{together, nodes}
use Rattle.shim_tree.specs.Filled.{are_filled}
use Rattle.shim_tree.proofs.Children.{nodes_more}
use Rattle.shim_tree.proofs.Fills.{filled_more}
use Rattle.shim_tree.proofs.fill.fill_to.Goals as goal

pub loop-statuses-preserved : goal.loop-statuses-preserved
loop-statuses-preserved g c =
    let bs = c.loop-statuses.statuses.items in (
      λ ls. ap (λ z. together ls (nodes z)) c.in_ok-push.ensures.items ∙ (nodes_more ls bs ∙ c.loop-statuses.invariant.0 ls),
      λ e. ap are_filled c.in_ok-push.ensures.items ∙ filled_more bs (c.loop-statuses.invariant.1 e),
    )
