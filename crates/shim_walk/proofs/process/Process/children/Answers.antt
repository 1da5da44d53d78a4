use Rattle.std.proofs.Common.{◌≡◌, ap, ◌∙◌, sym, subst, Ok}
use Rattle.shim_units.specs.declared.unit.UBranch.{UBranch}
use Rattle.shim_process.specs.LocalState.{unit_at}
use Rattle.shim_process.specs.Arguments.{arguments}
use Rattle.shim_process.specs.StatementViews.{passed_labels, statement_view}
use Rattle.shim_process.specs.Forks.{child, new_child, lending}
use Rattle.shim_locations.specs.Given.{arguments_of}
use Rattle.shim_locations.specs.Lendings.{remainder_of}
use Rattle.shim_walk.proofs.MadeChildren.{labels_left, one_born, one_lent}
use Rattle.shim_walk.proofs.process.Process.children.Goals as goal

pub loop-branch-preserved : goal.loop-branch-preserved
loop-branch-preserved c =
    let l = c.args.self.now in
    let remainder = remainder_of l c.loop-branch.remainder in
    let after = remainder_of l c.lend_branch.new.remainder in
    let a = c.in_ok-given.ensures in
    let k = c.in_ok-child.ensures in
    let is = c.branch-item.is in
    let d = c.branch-item.result in
    let args = arguments_of c.in_ok-given.given in
    let e = subst (λ (b : UBranch). arguments l.locations l.frame.slots (unit_at l.program b.call.unit).params b.call.args ≡ Ok args) is a in
    let place = c.loop-branch.place in
    let ek =
    k
    ∙ ap (λ xs. new_child remainder place d.call.unit (passed_labels (statement_view l) xs) (arguments_of c.as_slice.result.now)) c.as_slice-throws.ensures
    ∙ ap (λ g. new_child remainder place d.call.unit (passed_labels (statement_view l) d.call.throws) (arguments_of g)) c.as_slice.ensures
    ∙ ap (λ xs. new_child remainder place d.call.unit xs args) (sym (labels_left l c.loop-branch.remainder d.call.throws))
    ∙ ap (λ (b : UBranch). child remainder c.loop-branch.place b args) is in
    let el = c.in_ok-lend_branch.ensures ∙ ap (lending remainder) is in
    record {
      children = one_born l remainder after c.loop-branch.place c.in_ok-place.place c.loop-branch.branch-index d c.args.branches.now c.loop-branch.children c.push.new.self c.in_ok-child.child args _ c.loop-branch-test.true e ek c.in_ok-push.ensures.ok el c.in_ok-place.ensures c.loop-branch.invariant.children;
      remainder = one_lent remainder after _ c.loop-branch.branch-index d c.args.branches.now c.loop-branch-test.true el c.loop-branch.invariant.remainder;
    }
