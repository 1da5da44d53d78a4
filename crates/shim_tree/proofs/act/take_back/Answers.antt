use Rattle.std.proofs.Common.{◌∙◌, ap}
use Rattle.shim_tree.proofs.Exceptions.{not_back}
use Rattle.shim_tree.proofs.act.take_back.Goals as goal

pub returns-clause-joined : goal.returns-clause-joined
returns-clause-joined g c =
    c.join.ensures ∙ ap (g.L.Local.ops.join c.args.process.now c.args.children.now) (not_back c.is_none.result _ c.is_none.ensures)
