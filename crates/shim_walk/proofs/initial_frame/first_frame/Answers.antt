use Rattle.std.proofs.Common.{◌∙◌, ◌++◌, ap}
use Rattle.shim_process.specs.Arguments.{numbers_from}
use Rattle.shim_walk.proofs.Entering.{entry_top}
use Rattle.shim_walk.proofs.initial_frame.first_frame.Goals as goal

pub returns-clause-value : goal.returns-clause-value
returns-clause-value c =
    entry_top c.args.units.now c.args.unit 0 0 _ _ c.args.labels _ _ c.enter.result c.enter.ensures
    (c.in_ok-slots.ensures ∙ ap (λ l. l ++ numbers_from 0 c.slots_of-declared.result.now) c.in_ok-room.ensures ∙ ap (numbers_from 0) c.slots_of-declared.ensures)
    c.into_vec-labels.ensures
