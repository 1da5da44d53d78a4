use Rattle.std.proofs.Common.{sym, ◌∙◌}
use Rattle.shim_tree.proofs.ByPath.{none_on, some_on}
use Rattle.shim_waits.proofs.by_path.+node_at.Goals as goal

pub returns-in-None : goal.returns-in-None
returns-in-None g t c = none_on c.args.node c.args.pairs.now c.in-Some.first.now c.in-Some.rest.now c.in-Some.ensures.cases.0 (sym c.in-None.is ∙ c.child.ensures)

pub returns-in-Some-child : goal.returns-in-Some-child
returns-in-Some-child g t c =
    some_on c.args.node c.args.pairs.now c.in-Some.first.now c.in-Some.rest.now c.in-Some.ensures.cases.0 c.in-Some-child.child c.node_at.result (sym c.in-Some-child.is ∙ c.child.ensures) c.node_at.ensures
