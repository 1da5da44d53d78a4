use Rattle.std.proofs.Common.{◌∙◌, ap, slice_get, sym}
use Rattle.shim_process.specs.LocalState.{env_of}
use Rattle.shim_vm.proofs.Progress.{fails_at, goes_on}
use Rattle.shim_vm.proofs.computing.Computation.run.Goals as goal

pub loop-init : goal.loop-init
loop-init c = λ r k. k

pub loop-preserved : goal.loop-preserved
loop-preserved c = λ r k.
    let code = c.args.code.now in
    let e = ap (λ x. slice_get code x.place) (sym c.self.view_is) ∙ sym c.in-Some.ensures.value in
    goes_on (env_of c.args.locations.now c.args.slots.now) c.args.slots.now code c.in-Some.instr.now c.loop.self c.step.new.self c.step.result c.in-Ok-true.field-0 e c.step.ensures c.in-Ok-true.is c.in-Ok-true.field-0-test r (c.loop.invariant r k)

pub returns-in-Err : goal.returns-in-Err
returns-in-Err c = λ r k.
    let code = c.args.code.now in
    let e = ap (λ x. slice_get code x.place) (sym c.self.view_is) ∙ sym c.in-Some.ensures.value in
    fails_at (env_of c.args.locations.now c.args.slots.now) c.args.slots.now code c.in-Some.instr.now c.loop.self c.step.new.self r c.in-Err.fault e c.in-Err.ensures (c.loop.invariant r k)
