use Rattle.std.proofs.Common.{◌≡◌, ap, ◌∙◌, sym, subst, map, List}
use Rattle.shim_units.specs.declared.unit.Unit.{Unit as UnitOf}
use Rattle.shim_units.specs.declared.form.Form.{Form}
use Rattle.shim_process.specs.LocalState.{LocalState}
use Rattle.shim_process.specs.Ends.{settled}
use Rattle.shim_walk_frames.specs.Depths.{depth_of, returned, shown}
use Rattle.shim_walk.specs.contracts.process.Process.{the_view}
use Rattle.shim_walk_frames.proofs.Returns.{settled_is, at_depth}
use Rattle.shim_walk.proofs.process.Process.settle.Goals as goal

pub returns : goal.returns
returns c =
    let i = c.self.inside in
    let u : c.units.result.now ≡ i.program.units = c.units.ensures.value ∙ ap (λ (p : Form). p.units) c.deref.ensures in
    let after = c.settle.new in
    let e = subst (λ (us : List UnitOf). depth_of us after.top after.callers after.locations ≡ returned (map (shown us) i.callers) (shown us i.top) i.locations) u c.settle.ensures.value in
    let l = the_view i in
    ap (λ d. at_depth d l) e ∙ sym (settled_is l.callers l.frame l) ∙ ap (λ (m : LocalState). settled m.callers m.frame m) c.self.view_is
