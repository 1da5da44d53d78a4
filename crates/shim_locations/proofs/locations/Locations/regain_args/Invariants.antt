use Rattle.std.proofs.Common.{◌≡◌, drop}
use Rattle.shim_process.specs.Forks.{taken_back}
use Rattle.shim_locations.proofs.locations.Locations.regain_args.Given as goal

abbrev pub invariant-loop-i : goal.invariant-loop-i
invariant-loop-i l = taken_back l.slots l.i (drop l.i l.args) l.back l.self ≡ taken_back l.slots 0 l.args l.back l.initial.self
