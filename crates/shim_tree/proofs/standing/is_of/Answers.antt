use Rattle.std.proofs.Common.{sym, ◌∙◌}
use Rattle.std.proofs.lemmas.Slice.Eq.{slice_eq-Decides}
use Rattle.shim_local.specs.Sameness.{pair_decides}
use Rattle.shim_tree.proofs.standing.is_of.Goals as goal

pub returns : goal.returns
returns g c =
    let same = slice_eq-Decides pair_decides c.path.result.now c.args.path.now c.eq.result c.eq.ensures in
    (λ t. sym c.path.ensures.path ∙ same.0 t, λ e. same.1 (c.path.ensures.path ∙ e))
