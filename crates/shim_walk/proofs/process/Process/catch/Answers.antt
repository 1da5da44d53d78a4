use Rattle.std.proofs.Common.{◌≤◌, ◌+◌, ◌∷◌, ◌∙◌, take, slice_get, refl, ap, subst, sym, arith, rules, w64, FitsSigned}
use Rattle.std.proofs.lemmas.Int.{to_z-of_z}
use Rattle.shim_walk_frames.specs.Cursors.{HasOwnCursor}
use Rattle.shim_walk_frames.specs.Variables.{one_of, variables_in}
use Rattle.shim_process.specs.LocalState.{LocalState}
use Rattle.shim_process.specs.Unwinding.{catching}
use Rattle.shim_walk_frames.specs.Unwinding.{taking_in}
use Rattle.shim_walk.specs.contracts.process.Process.{the_view}
use Rattle.shim_walk.proofs.Installing.{catches_here}
use Rattle.shim_walk.proofs.Rooms.{below_without, fewer_by, room_behind}
use Rattle.shim_walk.proofs.process.Process.catch.Goals as goal

pub returns : goal.returns
returns c =
    let i = c.self.inside in
    let index = c.args.index in
    let fits : FitsSigned w64 c.args.value = search rules in
    catches_here (the_view i) i.top c.catch-variable.new.self index c.args.value c.catch-variable.result c.keep-taken.result c.keep-taken.new.locations c.take_some.new.self.runs
    refl
    c.catch-variable.ensures.variable
    c.catch-variable.ensures.others
    (c.keep-taken.ensures.locations ∙ ap (λ v. taking_in c.catch-variable.result v c.slots.result.now i.locations) (to_z-of_z w64 c.args.value fits) ∙ ap (λ l. taking_in c.catch-variable.result c.args.value l i.locations) (c.slots.ensures ∙ ap (λ t. t.slots) c.catch-variable.ensures.others))
    c.keep-taken.ensures.serial
    c.take_some.ensures.runs
    ∙ ap (λ (l : LocalState). record (catching (slice_get l.frame.places index) c.args.value l.frame l) { frame = record l.frame { places = take index l.frame.places } }) c.self.view_is

pub invariant_of-self : goal.invariant_of-self
invariant_of-self c =
    let i = c.self.inside in
    let kept = c.self.invariant in
    let next = c.catch-variable.new.self in
    let variable = c.catch-variable.result in
    let serial = c.keep-taken.result in
    let many = variables_in (i.top ∷ i.callers) in
    let few = variables_in (next ∷ i.callers) in
    let fewer = c.catch-variable.ensures.fewer in
    let less : one_of variable + few ≤ many = omega (arith, fewer) in
    let most : few ≤ many = omega (arith, less) in
    let fits = room_behind serial few many i.untaken.room c.take_some.new.self.room (fewer_by variable serial few many c.keep-taken.ensures.serial less) most c.take_some.ensures.less c.take_some.ensures.same kept.3 in
    (kept.0, kept.1, (subst (HasOwnCursor i.program.units) (sym c.catch-variable.ensures.others) kept.2.0, kept.2.1), fits, below_without i.made serial i.untaken.runs c.take_some.new.self.runs kept.4 c.take_some.ensures.runs)
