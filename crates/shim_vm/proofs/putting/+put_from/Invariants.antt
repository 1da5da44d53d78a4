use Rattle.std.proofs.Common.{length, ◌-◌}
use Rattle.shim_vm.proofs.putting.+put_from.Given as goal

abbrev pub decreases-put_from : goal.decreases-put_from
decreases-put_from l = length l.code.now - l.place
