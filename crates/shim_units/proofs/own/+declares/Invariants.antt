use Rattle.std.proofs.Common.{◌≡◌, ◌++◌, drop}
use Rattle.shim_units.specs.PartFold.{declares_in}
use Rattle.shim_units.proofs.own.+declares.Given as goal

abbrev pub invariant-push_declares-loop-stmt : goal.invariant-push_declares-loop-stmt
invariant-push_declares-loop-stmt l = l.slots ++ declares_in (drop l.stmt-index l.body) ≡ l.initial.slots ++ declares_in l.body
