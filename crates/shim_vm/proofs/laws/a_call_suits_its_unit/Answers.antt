use Rattle.std.proofs.Common.{refl}
use Rattle.shim_vm.proofs.Suiting.{suits_at}
use Rattle.shim_vm.proofs.laws.a_call_suits_its_unit.Goals as goal

pub returns : goal.returns
returns c = λ l number accepted left. suits_at l.program l number accepted refl left
