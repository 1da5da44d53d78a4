use Rattle.std.proofs.Common.{◌≡◌, ◌++◌, map, drop}
use Rattle.shim_units.specs.Captures.{captures}
use Rattle.shim_units.specs.Usages.{captures_of}
use Rattle.shim_units.specs.Parts.{each_uses}
use Rattle.shim_units.specs.PartFold.{branch_parts}
use Rattle.shim_sharing.proofs.fork.take_each.Given as goal

abbrev pub invariant-loop-branch : goal.invariant-loop-branch
invariant-loop-branch l = map captures_of l.made ++ map (captures l.sorts) (each_uses l.functions (branch_parts (drop l.branch-index l.branches))) ≡ map (captures l.sorts) (each_uses l.functions (branch_parts l.branches))
