use Rattle.std.proofs.Common.{◌≡◌, ◌++◌, length, drop}
use Rattle.shim_code.specs.MachineCode.{machine_args}
use Rattle.shim_code.proofs.calls.emit_args.Given as goal

abbrev pub invariant-loop-arg : goal.invariant-loop-arg
invariant-loop-arg l = l.code ++ machine_args l.left (drop l.arg-index l.args) (length l.code) ≡ l.initial.code ++ machine_args l.params l.args (length l.initial.code)
