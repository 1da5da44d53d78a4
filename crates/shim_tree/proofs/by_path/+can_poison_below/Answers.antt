use Rattle.std.proofs.Common.{sym, ◌∙◌}
use Rattle.shim_tree.proofs.ByPath.{none_below, some_below}
use Rattle.shim_tree.proofs.by_path.+can_poison_below.Goals as goal

pub returns-in-None : goal.returns-in-None
returns-in-None g t c =
    none_below g.L.Local.ops c.args.c.now.channel c.args.place c.args.node.now c.args.pairs.now c.in-Some.first.now c.in-Some.rest.now c.in-Some.ensures.cases.0 (sym c.in-None.is ∙ c.child.ensures)

pub returns-in-Some-child : goal.returns-in-Some-child
returns-in-Some-child g t c =
    some_below g.L.Local.ops c.args.c.now.channel c.args.place c.args.node.now c.args.pairs.now c.in-Some.first.now c.in-Some.rest.now c.in-Some.ensures.cases.0 c.in-Some-child.child c.can_poison_below.result (sym c.in-Some-child.is ∙ c.child.ensures) c.can_poison_below.ensures
