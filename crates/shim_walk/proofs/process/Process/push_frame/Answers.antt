use Rattle.std.proofs.Common.{◌≡◌, ◌≤◌, ◌+◌, ◌∷◌, List, arith, refl, sym, subst, ap, ◌∙◌}
use Rattle.std.specs.Arc.{arc_value}
use Rattle.shim_units.specs.declared.form.Form.{Form}
use Rattle.shim_units.specs.declared.unit.Unit.{Unit as UnitOf}
use Rattle.shim_walk_frames.specs.FrameViews.{FrameView}
use Rattle.shim_walk_frames.specs.Cursors.{AllHaveOwnCursors, HasOwnCursor}
use Rattle.shim_walk_frames.specs.Variables.{variables_in, variables_of}
use Rattle.shim_locations.specs.Given.{arguments_of}
use Rattle.shim_process.specs.Steps.{pushed}
use Rattle.shim_walk.proofs.Entering.{pushed_by}
use Rattle.shim_walk.proofs.Rooms.{no_variables, still_below}
use Rattle.shim_walk.proofs.process.Process.push_frame.Goals as goal

pub returns-in-Ok-clause-ok : goal.returns-in-Ok-clause-ok
returns-in-Ok-clause-ok c =
    let i = c.self.inside in
    let u = c.units.ensures.value ∙ ap (λ (p : Form). p.units) c.deref.ensures in
    let args = arguments_of c.args.given.now in
    pushed_by (arc_value i.path) i.base i.made i.forks i.untaken.runs i.given i.top i.callers i.locations i.input_at i.holds_output i.trap i.program i.input c.args.unit _ args c.args.labels _ _ _ _ _ _ _ _
    c.in_ok-entered.ensures u c.as_slice.ensures c.handlers.ensures.value c.replace-caller.ensures.after c.replace-caller.ensures.value c.in-Ok.ensures.ok c.in_ok-append.ensures.ok refl
    ∙ ap (pushed c.args.unit args c.args.labels) c.self.view_is

pub invariant_of-self-in-Ok : goal.invariant_of-self-in-Ok
invariant_of-self-in-Ok c =
    let i = c.self.inside in
    let kept = c.self.invariant in
    let units = i.program.units in
    let u = c.units.ensures.value ∙ ap (λ (p : Form). p.units) c.deref.ensures in
    let is = c.in_ok-entered.ensures in
    let top = c.replace-caller.new.dest in
    let entered = c.replace-caller.ensures.after in
    let callers : c.push.new.self ≡ i.top ∷ i.callers = c.in-Ok.ensures.ok ∙ ap (λ k. k ∷ i.callers) c.replace-caller.ensures.value in
    let none : variables_of top.places ≡ 0 = ap (λ (s : FrameView). variables_of s.places) entered ∙ no_variables c.units.result.now c.in_ok-entered.entered.top _ is.top refl in
    let others : variables_in c.push.new.self ≡ variables_in (i.top ∷ i.callers) = ap variables_in callers in
    let fits : variables_of top.places + variables_in c.push.new.self ≤ i.untaken.room = omega (arith, none, others, kept.3) in
    let more : i.made ≤ c.in_ok-entered.entered.made = omega (arith, is.made_is) in
    (kept.0, kept.1, (subst (HasOwnCursor units) (sym entered) (subst (λ (us : List UnitOf). HasOwnCursor us c.in_ok-entered.entered.top) u is.cursor), subst (AllHaveOwnCursors units) (sym callers) kept.2), fits, still_below i.made c.in_ok-entered.entered.made i.untaken.runs more kept.4)
