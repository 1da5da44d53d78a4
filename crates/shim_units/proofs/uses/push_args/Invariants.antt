use Rattle.std.proofs.Common.{◌≡◌, ◌++◌, drop}
use Rattle.shim_units.specs.Uses.{args_uses}
use Rattle.shim_units.proofs.uses.push_args.Given as goal

abbrev pub invariant-loop-arg : goal.invariant-loop-arg
invariant-loop-arg l = l.uses ++ args_uses l.left (drop l.arg-index l.args) ≡ l.initial.uses ++ args_uses l.params l.args
