use Rattle.std.proofs.Common.{◌≡◌, ap, ◌∙◌, subst, slice_get, OnOk}
use Rattle.shim_units.specs.declared.form.Form.{Form}
use Rattle.shim_process.specs.LocalState.{LocalState, unit_or}
use Rattle.shim_process.specs.Forks.{lending_given}
use Rattle.shim_locations.specs.Given.{arguments_of}
use Rattle.shim_locations.specs.Lendings.{remainder_of}
use Rattle.shim_walk.specs.contracts.process.Process.{the_view}
use Rattle.shim_walk.proofs.Forking.{given_by, on_three}
use Rattle.shim_walk.proofs.process.Process.lend_given.Goals as goal

pub returns-clause-ok : goal.returns-clause-ok
returns-clause-ok c =
    let i = c.self.inside in
    let n = c.args.unit in
    let args = arguments_of c.args.given.now in
    let u = c.units.ensures.value ∙ ap (λ (p : Form). p.units) c.deref.ensures in
    let p = c.params_of-params.ensures ∙ ap (λ us. (unit_or (slice_get us n)).params) u in
    let remainder = c.args.remainder.now in
    let after = c.lend_given.new.remainder in
    subst (λ (m : LocalState). OnOk c.lend_given.result (remainder_of m after ≡ lending_given (remainder_of m remainder) n args)) c.self.view_is
    (on_three c.lend_given.result (given_by (the_view i) remainder after n args c.params_of-params.result.now p) c.lend_given.ensures.locations c.lend_given.ensures.input c.lend_given.ensures.output)
