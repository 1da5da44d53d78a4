use Rattle.std.proofs.Common.{◌+◌, length}
use Rattle.shim_process.specs.Values.{value}
use Rattle.shim_code.specs.MachineCode.{machine_expr}
use Rattle.shim_vm.proofs.Values.{as_law, runs}
use Rattle.shim_vm.proofs.laws.expressions_are_computed.Goals as goal

pub returns : goal.returns
returns c = λ u env slots e d n h. as_law u env slots d (d.place + length (machine_expr e d.place)) (value e env) (runs u env slots e d n h)
