use Rattle.std.proofs.Common.{sym, ap, ◌∙◌, take, refl}
use Rattle.shim_process_table.proofs.ClosingJoins.{joined_behind}
use Rattle.shim_process_table.proofs.closing.join_after.Goals as goal

pub returns : goal.returns
returns g c l e =
    joined_behind g.L.Local.ops c.args.states.now c.split_at_mut-front.result.0.now c.split_at_mut-front.result.1.now (take c.args.count c.split_at_mut-front.result.1.now) c.args.parent c.args.first c.args.count c.args.goes_on l c.join.new.self c.index-front-parent.result
    c.split_at_mut-front.ensures.front c.split_at_mut-front.ensures.back refl c.requires.order e c.index-front-parent.is
    (c.join.ensures ∙ ap (λ z. g.L.Local.ops.join z (take c.args.count c.split_at_mut-front.result.1.now) c.args.goes_on) (sym c.index-front-parent.is))
