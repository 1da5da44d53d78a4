use Rattle.std.proofs.Common.{sym, ap, ◌∙◌, take, drop, slice_set, ◌++◌}
use Rattle.shim_process_table.proofs.ClosingJoins.{lent_before, joined_before, is_own}
use Rattle.shim_process_table.proofs.closing.join_before.Goals as goal

pub join-requires : goal.join-requires
join-requires g c =
    let xs = c.args.states.now in
    is_own g.L.Local.ops xs c.split_at_mut-front.result.1.now (take c.args.count c.split_at_mut-children.result.1.now) c.args.parent c.args.first c.args.count c.index-back-0.result c.requires.inside c.split_at_mut-front.ensures.back
    (ap (take c.args.count) (c.split_at_mut-children.ensures.back ∙ ap (drop c.args.first) c.split_at_mut-front.ensures.front) ∙ lent_before xs c.args.first c.args.count c.args.parent c.requires.order)
    c.requires.born

pub returns : goal.returns
returns g c l e =
    let xs = c.args.states.now in
    let back = c.split_at_mut-front.result.1.now in
    let lent = take c.args.count c.split_at_mut-children.result.1.now in
    ap (λ z. z ++ slice_set back 0 c.join.new.self) (sym c.split_at_mut-children.ensures.value ∙ c.split_at_mut-front.ensures.front)
    ∙ joined_before g.L.Local.ops xs back lent c.args.parent c.args.first c.args.count c.args.goes_on l c.join.new.self c.index-back-0.result c.split_at_mut-front.ensures.back
    (ap (take c.args.count) (c.split_at_mut-children.ensures.back ∙ ap (drop c.args.first) c.split_at_mut-front.ensures.front) ∙ lent_before xs c.args.first c.args.count c.args.parent c.requires.order)
    e c.index-back-0.is (c.join.ensures ∙ ap (λ z. g.L.Local.ops.join z lent c.args.goes_on) (sym c.index-back-0.is))
