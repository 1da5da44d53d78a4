use Rattle.std.proofs.Common.{ap, ◌∙◌, subst, slice_get}
use Rattle.shim_units.specs.declared.form.Form.{Form}
use Rattle.shim_process.specs.LocalState.{LocalState, unit_at, unit_or}
use Rattle.shim_process.specs.Arguments.{arguments}
use Rattle.shim_locations.specs.ArgumentFaults.{Gives}
use Rattle.shim_walk.proofs.process.Process.branch_arguments.Goals as goal

pub returns : goal.returns
unfolding unit_at
returns c =
    let i = c.self.inside in
    let b = c.args.branch.now in
    let u = c.units.ensures.value ∙ ap (λ (p : Form). p.units) c.deref.ensures in
    let p = c.params_of-params.ensures ∙ ap (λ us. (unit_or (slice_get us b.call.unit)).params) u in
    let e =
    ap (λ x. arguments x c.slots.result.now c.params_of-params.result.now c.as_slice-2.result.now) c.as_slice.ensures
    ∙ ap (λ x. arguments i.locations x c.params_of-params.result.now c.as_slice-2.result.now) c.slots.ensures
    ∙ ap (λ x. arguments i.locations i.top.slots x c.as_slice-2.result.now) p
    ∙ ap (λ x. arguments i.locations i.top.slots (unit_or (slice_get i.program.units b.call.unit)).params x) c.as_slice-2.ensures in
    subst (λ (m : LocalState). Gives c.arguments.result (arguments m.locations m.frame.slots (unit_at m.program b.call.unit).params b.call.args)) c.self.view_is (subst (Gives c.arguments.result) e c.arguments.ensures)
