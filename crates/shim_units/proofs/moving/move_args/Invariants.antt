use Rattle.std.proofs.Common.{◌≡◌, ◌++◌, drop}
use Rattle.shim_units.specs.Moving.{args_of}
use Rattle.shim_units.proofs.moving.move_args.Given as goal

abbrev pub invariant-loop-arg : goal.invariant-loop-arg
invariant-loop-arg l = l.made ++ args_of l.slots l.left (drop l.arg-index l.args) ≡ args_of l.slots l.params l.args
