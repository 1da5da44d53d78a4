use Rattle.std.proofs.Common.{◌≡◌, ◌++◌, length, drop}
use Rattle.shim_code.specs.MachineCode.{machine_stmts}
use Rattle.shim_code.proofs.stmts.+stmts.Given as goal

abbrev pub invariant-emit_all-loop-stmt : goal.invariant-emit_all-loop-stmt
invariant-emit_all-loop-stmt l = l.code ++ machine_stmts l.units (drop l.stmt-index l.body) (length l.code) ≡ l.initial.code ++ machine_stmts l.units l.body (length l.initial.code)
