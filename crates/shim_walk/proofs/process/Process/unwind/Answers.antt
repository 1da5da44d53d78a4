use Rattle.std.proofs.Common.{◌≡◌, ◌∷◌, ap, ◌∙◌, subst, map, List, rules, w64, to_z, of_z, FitsSigned}
use Rattle.std.proofs.lemmas.Int.{to_z-of_z}
use Rattle.shim_walk_frames.specs.Cursors.{AllHaveOwnCursors}
use Rattle.shim_walk_frames.specs.Variables.{variables_in}
use Rattle.shim_units.specs.declared.unit.Unit.{Unit as UnitOf}
use Rattle.shim_units.specs.declared.form.Form.{Form}
use Rattle.shim_process.specs.LocalState.{LocalState}
use Rattle.shim_process.specs.Unwinding.{unwind}
use Rattle.shim_walk_frames.specs.Depths.{depth_of, shown}
use Rattle.shim_process.specs.SerialRuns.{without_some}
use Rattle.shim_walk_frames.specs.Unwinding.{unwound_in}
use Rattle.shim_walk.specs.contracts.process.Process.{the_view}
use Rattle.shim_walk_frames.proofs.Unwinds.{unwound_by, untaken_is}
use Rattle.shim_walk.proofs.Rooms.{below_without, room_behind}
use Rattle.shim_walk.proofs.process.Process.unwind.Goals as goal

pub returns : goal.returns
returns c =
    let i = c.self.inside in
    let u : c.units.result.now ≡ i.program.units = c.units.ensures.value ∙ ap (λ (p : Form). p.units) c.deref.ensures in
    let after = c.unwind_to-taken.new in
    let n = c.saturating_sub-place.result in
    let fits : FitsSigned w64 c.args.value = search rules in
    let e =
    subst (λ (us : List UnitOf). depth_of us after.top after.callers after.locations ≡ unwound_in (map (shown us) i.callers) (shown us i.top) n (to_z w64 (of_z w64 c.args.value)) i.locations) u c.unwind_to-taken.ensures.value
    ∙ ap (λ v. unwound_in (map (shown i.program.units) i.callers) (shown i.program.units i.top) n v i.locations) (to_z-of_z w64 c.args.value fits) in
    let runs = c.take_some.ensures.runs ∙ ap (λ s. without_some s i.untaken.runs) c.unwind_to-taken.ensures.serial ∙ untaken_is i.program.units i.top n i.callers i.untaken.runs in
    unwound_by (the_view i) c.args.label n c.args.value (depth_of i.program.units after.top after.callers after.locations) c.take_some.new.self.runs c.saturating_sub-place.ensures e runs
    ∙ ap (λ (l : LocalState). unwind l c.args.label c.args.value) c.self.view_is

pub invariant_of-self : goal.invariant_of-self
invariant_of-self c =
    let i = c.self.inside in
    let kept = c.self.invariant in
    let u : c.units.result.now ≡ i.program.units = c.units.ensures.value ∙ ap (λ (p : Form). p.units) c.deref.ensures in
    let after = c.unwind_to-taken.new in
    let unwound = c.unwind_to-taken.ensures in
    let serial = c.unwind_to-taken.result in
    let few = variables_in (after.top ∷ after.callers) in
    let many = variables_in (i.top ∷ i.callers) in
    let fits = room_behind serial few many i.untaken.room c.take_some.new.self.room unwound.fewer unwound.none c.take_some.ensures.less c.take_some.ensures.same kept.3 in
    (kept.0, kept.1, subst (λ (us : List UnitOf). AllHaveOwnCursors us (after.top ∷ after.callers)) u unwound.cursors, fits, below_without i.made serial i.untaken.runs c.take_some.new.self.runs kept.4 c.take_some.ensures.runs)
