use Rattle.std.proofs.Common.{◌≡◌, ap, ◌∙◌, subst, slice_get, OnOk}
use Rattle.shim_units.specs.declared.form.Form.{Form}
use Rattle.shim_process.specs.LocalState.{LocalState, unit_or}
use Rattle.shim_process.specs.Forks.{lending}
use Rattle.shim_locations.specs.Lendings.{remainder_of}
use Rattle.shim_walk.specs.contracts.process.Process.{the_view}
use Rattle.shim_walk.proofs.Forking.{lending_by, on_three}
use Rattle.shim_walk.proofs.process.Process.lend_branch.Goals as goal

pub returns : goal.returns
returns c =
    let i = c.self.inside in
    let b = c.args.branch.now in
    let u = c.units.ensures.value ∙ ap (λ (p : Form). p.units) c.deref.ensures in
    let p = c.params_of-params.ensures ∙ ap (λ us. (unit_or (slice_get us b.call.unit)).params) u in
    let remainder = c.args.remainder.now in
    let after = c.lend.new.remainder in
    subst (λ (m : LocalState). OnOk c.lend.result (remainder_of m after ≡ lending (remainder_of m remainder) b)) c.self.view_is
    (on_three c.lend.result
    (lending_by (the_view i) remainder after b c.slots.result.now c.as_slice.result.now c.params_of-params.result.now c.slots.ensures c.as_slice.ensures p)
    c.lend.ensures.locations
    c.lend.ensures.input
    c.lend.ensures.output)
