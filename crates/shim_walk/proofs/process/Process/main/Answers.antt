use Rattle.std.proofs.Common.{◌≡◌, ◌<◌, refl, sym, ap, ◌∙◌, subst, slice_get, length, ◌+◌, ◌++◌, arith, if◌then◌else◌, Some, None, List}
use Rattle.shim_units.specs.declared.unit.Unit.{Unit as UnitOf}
use Rattle.std.specs.Arc.{arc_value}
use Rattle.shim_units.specs.declared.form.Form.{Form}
use Rattle.shim_process.specs.LocalState.{unit_or}
use Rattle.shim_process.specs.Arguments.{empties, entered, numbers_from}
use Rattle.shim_process.specs.Forks.{takes_input, takes_output, labels_from}
use Rattle.shim_locations.specs.Runs.{AreBelow, RunsView}
use Rattle.shim_walk_frames.specs.Cursors.{AllHaveOwnCursors, HasOwnCursor}
use Rattle.shim_walk_frames.specs.Depths.{AllFit, shown}
use Rattle.shim_walk_frames.proofs.Fitting.{all_fit}
use Rattle.shim_walk.proofs.Accepting.{accepted}
use Rattle.shim_walk.proofs.MadeChildren.{root_by}
use Rattle.shim_walk.proofs.Rooms.{room_for_none}
use Rattle.shim_walk.proofs.process.Process.main.Goals as goal

pub returns-clause-accepted : goal.returns-clause-accepted
returns-clause-accepted c =
    accepted c.args.program _ _ c.main_throws-names.result.now c.deref.ensures c.deref-3.ensures c.units-units.ensures.of_text c.units-units.ensures.fit c.main_throws-names.ensures.value c.main_throws-names.ensures.few

pub returns-clause-value : goal.returns-clause-value
returns-clause-value c =
    let program = c.args.program in
    let u = c.units-units.ensures.value ∙ ap (λ (p : Form). p.units) c.deref.ensures in
    let m = c.main-unit.ensures ∙ ap (λ (p : Form). p.main) c.deref-2.ensures in
    let t = c.main_throws-names.ensures.value ∙ ap (λ (p : Form). p.main_throws) c.deref-3.ensures in
    let names = c.main_throws-names.result.now in
    let n = c.main-unit.result in
    let e_top =
    subst (λ (us : List UnitOf). shown us c.in_ok-top.top ≡ entered (unit_or (slice_get us n)) n (numbers_from 0 (unit_or (slice_get us n)).slots) c.in_ok-labels.labels 0 0) u c.in_ok-top.ensures.value
    ∙ ap (λ k. entered (unit_or (slice_get program.units k)) k (numbers_from 0 (unit_or (slice_get program.units k)).slots) c.in_ok-labels.labels 0 0) m
    ∙ ap (λ x. entered (unit_or (slice_get program.units program.main)) program.main (numbers_from 0 (unit_or (slice_get program.units program.main)).slots) x 0 0) (c.in_ok-labels.ensures ∙ ap (labels_from 1) t) in
    let e_slots = c.slots_of.ensures ∙ ap (λ us. (unit_or (slice_get us n)).slots) u ∙ ap (λ k. (unit_or (slice_get program.units k)).slots) m in
    let e_params = c.params_of.ensures ∙ ap (λ us. (unit_or (slice_get us n)).params) u ∙ ap (λ k. (unit_or (slice_get program.units k)).params) m in
    let e_params2 = c.params_of-2.ensures ∙ ap (λ us. (unit_or (slice_get us n)).params) u ∙ ap (λ k. (unit_or (slice_get program.units k)).params) m in
    let z = ap length t in
    let e_base : length names + 1 ≡ 1 + length program.main_throws = omega arith in
    root_by program c.args.input (arc_value c.in_ok-new.field-0) (length names + 1) c.new-3.result.runs c.new-4.result c.in_ok-top.top c.new-5.result c.from_list.result c.input_for-input_at.result c.takes_output-holds_output.result
    (c.in_ok-new.ensures.ok ∙ c.root.ensures)
    e_base
    (ap (λ (r : RunsView). r.runs) c.new-3.ensures)
    c.new-4.ensures
    e_top
    c.new-5.ensures
    (c.from_list.ensures ∙ c.in_ok-locations.ensures ∙ ap (λ x. x ++ empties c.slots_of.result.now) c.new.ensures ∙ ap empties e_slots)
    (c.input_for-input_at.ensures ∙ ap (λ ps. if takes_input ps then Some 0 else None) e_params)
    (c.takes_output-holds_output.ensures ∙ ap takes_output e_params2)

pub invariant_of-result : goal.invariant_of-result
invariant_of-result c =
    let units = c.args.program.units in
    let top = c.in_ok-top.top in
    let u = c.units-units.ensures.value ∙ ap (λ (p : Form). p.units) c.deref.ensures in
    let bound : length c.main_throws-names.result.now + 1 < 2147483648 = omega (arith, c.main_throws-names.ensures.few) in
    let fits = room_for_none c.units-units.result.now top c.new-5.result _ c.new-3.result.room c.in_ok-top.ensures.value refl c.new-5.ensures in
    let texts = subst (λ (p : Form). AllFit p.units) c.deref.ensures (all_fit _ c.units-units.ensures.fit) in
    (bound, texts, (subst (λ us. HasOwnCursor us top) u c.in_ok-top.ensures.cursor, subst (AllHaveOwnCursors units) (sym c.new-5.ensures) tt), fits, subst (AreBelow 0) (sym (ap (λ (r : RunsView). r.runs) c.new-3.ensures)) tt)
