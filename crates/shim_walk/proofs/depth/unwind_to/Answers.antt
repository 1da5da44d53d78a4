use Rattle.std.proofs.Common.{◌∙◌, ◌-◌, ap, slice_get, rules, w64, FitsSigned}
use Rattle.std.proofs.lemmas.Int.{to_z-of_z}
use Rattle.shim_walk_frames.specs.Unwinding.{serial_of, taking_in, variable_of}
use Rattle.shim_walk_frames.proofs.Unwinds.{unwinds, gives}
use Rattle.shim_walk.proofs.depth.unwind_to.Goals as goal

pub returns-clause-value : goal.returns-clause-value
returns-clause-value c =
    let units = c.args.units.now in
    let fits : FitsSigned w64 c.args.value = search rules in
    unwinds units c.exit_frames.new.top c.handle-variable.new.top c.exit_frames.new.callers c.args.place c.args.value c.exit_frames.new.locations c.keep-serial.new.locations _ _ c.exit_frames.ensures.there c.handle-variable.ensures.value
    (c.keep-serial.ensures.locations ∙ ap (λ v. taking_in c.handle-variable.result v c.slots.result.now c.exit_frames.new.locations) (to_z-of_z w64 c.args.value fits) ∙ ap (λ y. taking_in y c.args.value c.slots.result.now c.exit_frames.new.locations) c.handle-variable.ensures.variable ∙ ap (λ l. taking_in (variable_of (slice_get c.exit_frames.new.top.places (c.args.place - c.exit_frames.new.top.outer))) c.args.value l c.exit_frames.new.locations) (c.slots.ensures ∙ c.handle-variable.ensures.slots))
    c.settle.ensures.value (c.exit_frames.ensures.same units c.args.value)

pub returns-clause-serial : goal.returns-clause-serial
returns-clause-serial c =
    c.keep-serial.ensures.serial
    ∙ ap serial_of (gives c.exit_frames.new.top c.args.top.now c.exit_frames.new.callers c.args.callers.now c.args.place c.handle-variable.result c.exit_frames.ensures.there c.handle-variable.ensures.variable c.exit_frames.ensures.handler)
