use Rattle.std.proofs.Common.{◌≡◌, ◌++◌, drop}
use Rattle.shim_units.specs.Parts.{all_raises}
use Rattle.shim_units.specs.PartFold.{raises_in, branch_parts}
use Rattle.shim_units.proofs.own.+raises.Given as goal

abbrev pub invariant-push_raises-loop-stmt : goal.invariant-push_raises-loop-stmt
invariant-push_raises-loop-stmt l = l.raises ++ raises_in (drop l.stmt-index l.body) ≡ l.initial.raises ++ raises_in l.body

abbrev pub invariant-push_raises_of_branches-loop-branch : goal.invariant-push_raises_of_branches-loop-branch
invariant-push_raises_of_branches-loop-branch l = l.raises ++ all_raises (branch_parts (drop l.branch-index l.branches)) ≡ l.initial.raises ++ all_raises (branch_parts l.branches)
