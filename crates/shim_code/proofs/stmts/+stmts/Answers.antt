use Rattle.std.proofs.Common.{◌++◌, ◌∙◌, length, pos, sym, ap, false, None, Some}
use Rattle.std.proofs.lemmas.Result.{on_ok_weaker}
use Rattle.shim_units.specs.declared.unit.UWhat.{UWhat-F}
use Rattle.shim_units.specs.declared.unit.UWhat.TheVariants as is
use Rattle.shim_units.specs.declared.unit.UWhat.TheViews.{outs-Call, outs-For, outs-If, outs-Par, outs-Throw, outs-Try, outs-While}
use Rattle.shim_code.specs.declared.machine_instr.MachineInstr.TheVariants.{Jump, Throw, Untry}
use Rattle.shim_code.specs.declared.instr.MarkKind.TheVariants as kind
use Rattle.shim_code.specs.Layout.{arms, sequence, one}
use Rattle.shim_code.specs.MachineCode.{MachineCode, machine_call, machine_expr, machine_expr_or, machine_fork, machine_looped, machine_stmts}
use Rattle.shim_code.specs.declared.draft.Caught.{Caught}
use Rattle.shim_code.specs.Drafts.{head_of}
use Rattle.shim_code.proofs.Joining.{arms_closed, looped_closed, then_marked, then_more, then_one}
use Rattle.shim_code.proofs.StatementKinds.{at_kind}
use Rattle.shim_code.proofs.stmts.+stmts.Goals as goal

pub emit-returns-in_ok-emit_all-in-If-2 : goal.emit-returns-in_ok-emit_all-in-If-2
emit-returns-in_ok-emit_all-in-If-2 t c =
    let w = c.in-If in
    let old = c.args.code.now in
    let units = c.args.units.now in
    let test = machine_expr w.test in
    let first = c.as_slice.result.now in
    let second = c.as_slice-in-If.result.now in
    let a = machine_stmts units first in
    let b = machine_stmts units second in
    let kind_is = w.is ∙ ap (λ a. is.If w.test a w.second) (sym c.as_slice.ensures) ∙ ap (λ b. is.If w.test first b) (sym c.as_slice-in-If.ensures) in
    on_ok_weaker c.close.result
    (λ e. then_marked kind.Quiet c.args.stmt.now.line false (sequence test (arms Jump (head_of None) a b)) old _ _ c.in_ok-begin-in-If.ensures
    (then_more test (arms Jump (head_of None) a b) _ _ _ c.in_ok-emit_expr-in-If.ensures
    (arms_closed None a b _ _ _ _ _ _ _ _ _ _ c.in_ok-head-in-If.ensures.at c.in_ok-head-in-If.ensures.after c.in_ok-emit_all-in-If.ensures c.in_ok-jump-in-If.ensures.at c.in_ok-jump-in-If.ensures.after c.in_ok-emit_all-in-If-2.ensures e))
    ∙ ap (λ (f : MachineCode). old ++ f (length old)) (sym (at_kind units c.args.stmt.now _ (UWhat-F.If w.test first second) kind_is (outs-If w.test first second))))
    c.close.ensures

pub emit-returns-in_ok-emit_all-in-While : goal.emit-returns-in_ok-emit_all-in-While
emit-returns-in_ok-emit_all-in-While t c =
    let w = c.in-While in
    let old = c.args.code.now in
    let units = c.args.units.now in
    let body = c.as_slice-in-While.result.now in
    let kind_is = w.is ∙ ap (λ a. is.While w.test a) (sym c.as_slice-in-While.ensures) in
    on_ok_weaker c.close_loop.result
    (λ e. looped_closed c.args.stmt.now.line c.in_ok-start-in-While.start (machine_expr w.test) (machine_stmts units body) old _ _ _ _ _ _ _ c.in_ok-start-in-While.ensures
    c.in_ok-begin-in-While.ensures c.in_ok-emit_expr-in-While.ensures c.in_ok-head-in-While.ensures.at c.in_ok-head-in-While.ensures.after c.in_ok-emit_all-in-While.ensures e
    ∙ ap (λ (f : MachineCode). old ++ f (length old)) (sym (at_kind units c.args.stmt.now _ (UWhat-F.While w.test body) kind_is (outs-While w.test body))))
    c.close_loop.ensures

pub emit-returns-in_ok-emit_all-in-For-3 : goal.emit-returns-in_ok-emit_all-in-For-3
emit-returns-in_ok-emit_all-in-For-3 t c =
    let w = c.in-For in
    let old = c.args.code.now in
    let units = c.args.units.now in
    let first = c.as_slice-in-For.result.now in
    let body = c.as_slice-in-For-2.result.now in
    let step = c.as_slice-in-For-3.result.now in
    let line = c.args.stmt.now.line in
    let test = machine_expr_or (pos 1) w.test in
    let inner = sequence (machine_stmts units body) (machine_stmts units step) in
    let kind_is = w.is ∙ ap (λ a. is.For a w.test w.step w.body) (sym c.as_slice-in-For.ensures) ∙ ap (λ a. is.For first w.test w.step a) (sym c.as_slice-in-For-2.ensures) ∙ ap (λ a. is.For first w.test a body) (sym c.as_slice-in-For-3.ensures) in
    on_ok_weaker c.close_loop-in-For.result
    (λ e. then_more (machine_stmts units first) (machine_looped line test inner) old _ _ c.in_ok-emit_all-in-For.ensures
    (looped_closed line c.in_ok-start-in-For.start test inner _ _ _ _ _ _ _ _ c.in_ok-start-in-For.ensures
    c.in_ok-begin-in-For.ensures c.in_ok-emit_expr_or-in-For.ensures c.in_ok-head-in-For.ensures.at c.in_ok-head-in-For.ensures.after
    (then_more (machine_stmts units body) (machine_stmts units step) _ _ _ c.in_ok-emit_all-in-For-2.ensures c.in_ok-emit_all-in-For-3.ensures) e)
    ∙ ap (λ (f : MachineCode). old ++ f (length old)) (sym (at_kind units c.args.stmt.now _ (UWhat-F.For first w.test step body) kind_is (outs-For first w.test step body))))
    c.close_loop-in-For.ensures

pub emit-returns-in_ok-emit_all-in-Try-2 : goal.emit-returns-in_ok-emit_all-in-Try-2
emit-returns-in_ok-emit_all-in-Try-2 t c =
    let w = c.in-Try in
    let old = c.args.code.now in
    let units = c.args.units.now in
    let body = c.as_slice-in-Try.result.now in
    let handler = c.as_slice-in-Try-2.result.now in
    let a = sequence (machine_stmts units body) (one Untry) in
    let b = machine_stmts units handler in
    let caught : Caught = record { exception = w.exception; variable = w.variable } in
    let kind_is = w.is ∙ ap (λ a. is.Try a w.exception w.variable w.handler) (sym c.as_slice-in-Try.ensures) ∙ ap (λ b. is.Try body w.exception w.variable b) (sym c.as_slice-in-Try-2.ensures) in
    on_ok_weaker c.close-in-Try.result
    (λ e. then_marked kind.Quiet c.args.stmt.now.line false (arms Jump (head_of (Some caught)) a b) old _ _ c.in_ok-begin-in-Try.ensures
    (arms_closed (Some caught) a b _ _ _ _ _ _ _ _ _ _ c.in_ok-head-in-Try.ensures.at c.in_ok-head-in-Try.ensures.after
    (then_one (machine_stmts units body) Untry _ _ _ c.in_ok-emit_all-in-Try.ensures c.in_ok-push-in-Try.ensures)
    c.in_ok-jump-in-Try.ensures.at c.in_ok-jump-in-Try.ensures.after c.in_ok-emit_all-in-Try-2.ensures e)
    ∙ ap (λ (f : MachineCode). old ++ f (length old)) (sym (at_kind units c.args.stmt.now _ (UWhat-F.Try body w.exception w.variable handler) kind_is (outs-Try body w.exception w.variable handler))))
    c.close-in-Try.ensures

pub emit-returns-in_ok-begin-in-Call : goal.emit-returns-in_ok-begin-in-Call
emit-returns-in_ok-begin-in-Call t c =
    let old = c.args.code.now in
    let units = c.args.units.now in
    let call = c.in-Call.call in
    on_ok_weaker c.emit_call.result
    (λ e. then_marked kind.Quiet c.args.stmt.now.line false (machine_call units call) old _ _ c.in_ok-begin-in-Call.ensures e
    ∙ ap (λ (f : MachineCode). old ++ f (length old)) (sym (at_kind units c.args.stmt.now _ (UWhat-F.Call call) c.in-Call.is (outs-Call call))))
    c.emit_call.ensures

pub emit-returns-in_ok-emit_expr_or-in-Throw : goal.emit-returns-in_ok-emit_expr_or-in-Throw
emit-returns-in_ok-emit_expr_or-in-Throw t c =
    let old = c.args.code.now in
    let units = c.args.units.now in
    let x = c.in-Throw.exception in
    let number = machine_expr_or (pos 0) c.in-Throw.expr in
    on_ok_weaker c.push-in-Throw.result
    (λ e. then_marked kind.Throw c.args.stmt.now.line false (sequence number (one (Throw x))) old _ _ c.in_ok-begin-in-Throw.ensures
    (then_one number (Throw x) _ _ _ c.in_ok-emit_expr_or-in-Throw.ensures e)
    ∙ ap (λ (f : MachineCode). old ++ f (length old)) (sym (at_kind units c.args.stmt.now _ (UWhat-F.Throw x c.in-Throw.expr) c.in-Throw.is (outs-Throw x c.in-Throw.expr))))
    c.push-in-Throw.ensures

pub emit-returns-in_ok-begin-in-Par : goal.emit-returns-in_ok-begin-in-Par
emit-returns-in_ok-begin-in-Par t c =
    let old = c.args.code.now in
    let units = c.args.units.now in
    let branches = c.as_slice-in-Par.result.now in
    let kind_is = c.in-Par.is ∙ ap is.Par (sym c.as_slice-in-Par.ensures) in
    on_ok_weaker c.emit_fork.result
    (λ e. then_marked kind.Fork c.args.stmt.now.line false (machine_fork units branches) old _ _ c.in_ok-begin-in-Par.ensures e
    ∙ ap (λ (f : MachineCode). old ++ f (length old)) (sym (at_kind units c.args.stmt.now _ (UWhat-F.Par branches) kind_is (outs-Par branches))))
    c.emit_fork.ensures
