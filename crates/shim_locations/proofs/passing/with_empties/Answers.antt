use Rattle.std.proofs.Common.{◌∙◌, ◌+◌, ◌++◌, ap, drop}
use Rattle.shim_process.specs.Locations.{Locations}
use Rattle.shim_process.specs.Arguments.{empties}
use Rattle.shim_locations.proofs.OneMore.{one_empty}
use Rattle.shim_locations.proofs.passing.with_empties.Goals as goal

pub loop-sort-preserved : goal.loop-sort-preserved
loop-sort-preserved c =
    let declared = c.args.declared.now in
    let i = c.loop-sort._sort-index in
    ap (λ (a : Locations). a ++ empties (drop (i + 1) declared)) c.in_ok-push.ensures.ok ∙ one_empty c.loop-sort.all declared i c.loop-sort-test.true ∙ c.loop-sort.invariant
