use Rattle.std.proofs.Common.{ap, drop, map}
use Rattle.shim_vm.proofs.BackByCode.{nil_of, no_children}
use Rattle.shim_vm.proofs.restoring.restore.Goals as goal

pub returns-in_default : goal.returns-in_default
returns-in_default g c =
    let none = nil_of c.loop-place.rest.now c.in_default.ensures.cases in
    no_children c.loop-place.process c.loop-place.number (map g.P.HasProcess.state c.loop-place.rest.now) (drop c.loop-place.place c.args.code.now) _ (ap (map g.P.HasProcess.state) none) c.loop-place.invariant.back
