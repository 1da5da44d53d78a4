use Rattle.std.proofs.Common.{◌≡◌, ap, ◌∙◌, subst, map, List}
use Rattle.shim_units.specs.declared.unit.Unit.{Unit as UnitOf}
use Rattle.shim_units.specs.declared.form.Form.{Form}
use Rattle.shim_process.specs.Ends.{gone, went}
use Rattle.shim_walk_frames.specs.Turns.{successor_of}
use Rattle.shim_walk_frames.specs.Depths.{depth_of, returned, shown}
use Rattle.shim_walk.specs.contracts.process.Process.{the_view}
use Rattle.shim_walk_frames.proofs.Returns.{gone_by}
use Rattle.shim_walk.proofs.process.Process.go.Goals as goal

pub returns : goal.returns
returns c =
    let i = c.self.inside in
    let successor = successor_of c.args.successor in
    let u : c.units.result.now ≡ i.program.units = c.units.ensures.value ∙ ap (λ (p : Form). p.units) c.deref.ensures in
    let after = c.go_on.new in
    let e = subst (λ (us : List UnitOf). depth_of us after.top after.callers after.locations ≡ returned (map (shown us) i.callers) (went successor (shown us i.top)) i.locations) u c.go_on.ensures.value in
    gone_by (the_view i) successor (depth_of i.program.units after.top after.callers after.locations) e ∙ ap (gone successor) c.self.view_is
