use Rattle.std.proofs.Common.{◌∙◌, ap, sym, reverse}
use Rattle.std.proofs.lemmas.List.{reverse-reverse}
use Rattle.shim_walk.proofs.same_runs.same_runs.Goals as goal

pub returns : goal.returns
returns c =
    let first = c.as_slice.ensures in
    let second = c.as_slice-2.ensures in
    let same = c.same_slices.ensures in (
      λ yes. sym first ∙ ap reverse (same.0 yes) ∙ second,
      λ e. same.1 (sym (reverse-reverse c.as_slice.result.now) ∙ ap reverse (first ∙ e ∙ sym second) ∙ reverse-reverse c.as_slice-2.result.now),
    )
