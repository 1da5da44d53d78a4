use Rattle.std.proofs.Common.{◌≡◌, ◌<◌, arith, refl, ap, ◌∙◌, sym, subst, slice_get, ◌++◌, ◌∷◌, [], if◌then◌else◌, None, false, List}
use Rattle.std.specs.Arc.{arc_value}
use Rattle.shim_units.specs.declared.form.Form.{Form}
use Rattle.shim_units.specs.declared.unit.Unit.{Unit as UnitOf}
use Rattle.shim_process.specs.LocalState.{LocalState, unit_or, handlers}
use Rattle.shim_process.specs.StatementViews.{statement_view, passed_labels}
use Rattle.shim_process.specs.Arguments.{branch_locations, channels_of, declared_slots, empties, entered, numbers_from}
use Rattle.shim_process.specs.Forks.{new_child, takes_input, takes_output}
use Rattle.shim_locations.specs.Given.{arguments_of}
use Rattle.shim_locations.specs.Runs.{AreBelow, RunsView}
use Rattle.shim_walk_frames.specs.Cursors.{AllHaveOwnCursors, HasOwnCursor}
use Rattle.shim_walk_frames.specs.Depths.{AllFit, shown}
use Rattle.shim_locations.specs.Lendings.{remainder_of, lent_at}
use Rattle.shim_walk.specs.contracts.process.Process.{the_view}
use Rattle.shim_walk.proofs.MadeChildren.{child_by}
use Rattle.shim_walk.proofs.Rooms.{room_for_none}
use Rattle.shim_walk.proofs.process.Process.child.Goals as goal

pub returns : goal.returns
returns c =
    let i = c.self.inside in
    let l = the_view i in
    let remainder = c.args.remainder.now in
    let n = c.args.unit in
    let args = arguments_of c.args.given.now in
    let path = arc_value c.in_ok-path.path in
    let u = c.units-units.ensures.value ∙ ap (λ (p : Form). p.units) c.deref.ensures in
    let e_path = c.in_ok-path.ensures.ok ∙ c.in_ok-child.ensures ∙ ap (λ p. p ++ (i.forks, c.args.place) ∷ []) c.deref-2.ensures in
    let e_base = c.handlers-base.ensures ∙ ap handlers (sym c.self.view_is) in
    let e_passed = c.in_ok-passed.ensures.0 ∙ ap (λ x. branch_locations path (lent_at c.as_slice-2.result.now x) 0 args) c.as_slice.ensures ∙ ap (λ t. branch_locations path (lent_at t i.locations) 0 args) c.as_slice-2.ensures in
    let e_labels = c.in_ok-labels.ensures ∙ ap (λ s. passed_labels s c.args.throws.now) (c.context.ensures.value ∙ ap statement_view (sym c.self.view_is)) in
    let e_top =
    subst (λ (us : List UnitOf). shown us c.in_ok-top.top ≡ entered (unit_or (slice_get us n)) n (numbers_from 0 (unit_or (slice_get us n)).slots) c.in_ok-labels.labels 0 0) u c.in_ok-top.ensures.value
    ∙ ap (λ x. entered (unit_or (slice_get i.program.units n)) n (numbers_from 0 (unit_or (slice_get i.program.units n)).slots) x 0 0) e_labels in
    let e_declared = c.declared_of-declared.ensures ∙ ap (λ us. declared_slots (unit_or (slice_get us n))) u in
    let e_params = c.params_of.ensures ∙ ap (λ us. (unit_or (slice_get us n)).params) u in
    let e_params2 = c.params_of-2.ensures ∙ ap (λ us. (unit_or (slice_get us n)).params) u in
    child_by (remainder_of l remainder) c.args.place n (passed_labels (statement_view l) c.args.throws.now) args path c.handlers-base.result c.in_ok-passed.passed.made c.new-2.result.runs c.in_ok-given.given c.in_ok-top.top c.new-3.result c.in_ok-passed.passed.locations c.from_list.result c.input_for.result c.output_for.result c.in_ok-program.program c.in_ok-input.input
    c.in_ok-program.ensures
    c.in_ok-input.ensures
    e_path
    e_base
    c.in_ok-passed.ensures.1
    (ap (λ (r : RunsView). r.runs) c.new-2.ensures)
    e_passed
    (c.in_ok-given.ensures ∙ ap channels_of c.as_slice-3.ensures)
    e_top
    c.new-3.ensures
    (c.from_list.ensures ∙ c.in_ok-locations.ensures ∙ ap (λ x. c.in_ok-passed.passed.locations ++ empties x) e_declared)
    (c.input_for.ensures ∙ ap (λ ps. if takes_input ps then remainder.input_at else None) e_params)
    (c.output_for.ensures ∙ ap (λ ps. if takes_output ps then remainder.holds_output else false) e_params2)
    ∙ ap (λ (m : LocalState). new_child (remainder_of m remainder) c.args.place n (passed_labels (statement_view m) c.args.throws.now) args) c.self.view_is

pub invariant_of-result : goal.invariant_of-result
invariant_of-result c =
    let i = c.self.inside in
    let kept = c.self.invariant in
    let units = c.in_ok-program.program.units in
    let top = c.in_ok-top.top in
    let same = ap (λ (p : Form). p.units) c.in_ok-program.ensures in
    let u = c.units-units.ensures.value ∙ ap (λ (p : Form). p.units) c.deref.ensures ∙ sym same in
    let fits = room_for_none c.units-units.result.now top c.new-3.result _ c.new-2.result.room c.in_ok-top.ensures.value refl c.new-3.ensures in
    let bound : c.handlers-base.result < 2147483648 = omega (arith, c.if-base-ge2147483648.false) in
    (bound, subst AllFit (sym same) kept.1, (subst (λ us. HasOwnCursor us top) u c.in_ok-top.ensures.cursor, subst (AllHaveOwnCursors units) (sym c.new-3.ensures) tt), fits, subst (AreBelow c.in_ok-passed.passed.made) (sym (ap (λ (r : RunsView). r.runs) c.new-2.ensures)) tt)
