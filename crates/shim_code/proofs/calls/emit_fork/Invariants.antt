use Rattle.std.proofs.Common.{◌≡◌, ◌++◌, length, drop}
use Rattle.shim_code.specs.MachineCode.{machine_branches}
use Rattle.shim_code.proofs.calls.emit_fork.Given as goal

abbrev pub invariant-loop-branch : goal.invariant-loop-branch
invariant-loop-branch l = l.code ++ machine_branches l.units (drop l.branch-index l.branches) (length l.code) ≡ l.initial.code ++ machine_branches l.units l.branches (length l.initial.code)
