use Rattle.std.proofs.Common.{rules, ◌≡◌, ◌+◌, sym}
use Rattle.shim_locations.specs.Given.{arguments_of}
use Rattle.shim_locations.specs.Lendings.{remainder_of}
use Rattle.shim_vm.proofs.Making.{one_more_made}
use Rattle.shim_vm.proofs.branches.make_children.Goals as goal

pub loop-preserved : goal.loop-preserved
loop-preserved c =
    let l = c.args.process.now in
    let found = c.next_branch.new.computation in
    let behind : c.in_ok-place.place ≡ found.place + 1 = search rules in
    one_more_made l c.args.code.now c.args.start c.loop.place c.in_ok-place.place c.loop.children c.make_child.new.children (remainder_of l c.loop.remainder) (remainder_of l c.make_child.new.remainder) c.next_branch.result c.in_ok-next.next c.in-Some.callee found (arguments_of c.given.result.now)
    c.in_ok-next.was c.in-Some.is (λ gs r k. c.next_branch.ensures l gs r (sym c.locations.ensures) (sym c.slots.ensures) k) c.given.ensures behind c.in_ok-make_child.ensures.child c.in_ok-make_child.ensures.left c.loop.invariant
