use Rattle.std.proofs.Common.{pos, None}
use Rattle.std.proofs.lemmas.Result.{on_ok_weaker}
use Rattle.shim_code.specs.Layout.{sequence, one}
use Rattle.shim_code.specs.MachineCode.{machine_expr}
use Rattle.shim_code.specs.declared.machine_instr.MachineInstr.TheVariants.{Num, Bool}
use Rattle.shim_code.proofs.Joining.{arms_closed}
use Rattle.shim_code.proofs.exprs.+exprs.Goals as goal

pub emit_and-returns : goal.emit_and-returns
emit_and-returns t c =
    let right = machine_expr c.args.right.now in
    on_ok_weaker c.close.result
    (λ e. arms_closed None (sequence right (one Bool)) (one (Num (pos 0))) c.args.code.now _ _ _ _ _ _ _ _ _
    c.in_ok-head.ensures.at c.in_ok-head.ensures.after c.in_ok-emit_truth.ensures
    c.in_ok-jump.ensures.at c.in_ok-jump.ensures.after c.in_ok-push.ensures e)
    c.close.ensures

pub emit_or-returns : goal.emit_or-returns
emit_or-returns t c =
    let right = machine_expr c.args.right.now in
    on_ok_weaker c.close.result
    (λ e. arms_closed None (one (Num (pos 1))) (sequence right (one Bool)) c.args.code.now _ _ _ _ _ _ _ _ _
    c.in_ok-head.ensures.at c.in_ok-head.ensures.after c.in_ok-push.ensures
    c.in_ok-jump.ensures.at c.in_ok-jump.ensures.after c.in_ok-emit_truth.ensures e)
    c.close.ensures
