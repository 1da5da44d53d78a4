use Rattle.std.proofs.Common.{◌≡◌, ◌++◌, drop}
use Rattle.shim_units.specs.PartFold.{tries_in}
use Rattle.shim_units.proofs.own.+tries.Given as goal

abbrev pub invariant-push_tries-loop-stmt : goal.invariant-push_tries-loop-stmt
invariant-push_tries-loop-stmt l = l.exceptions ++ tries_in (drop l.stmt-index l.body) ≡ l.initial.exceptions ++ tries_in l.body
