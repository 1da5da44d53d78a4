use Rattle.std.proofs.Common.{◌≡◌, drop}
use Rattle.shim_sharing.specs.Sharing.{first_offence}
use Rattle.shim_units.specs.Parts.{all_places}
use Rattle.shim_units.specs.PartFold.{places_in, branch_parts}
use Rattle.shim_sharing.proofs.offence.+offence.Given as goal

abbrev pub invariant-find_offence-loop-stmt : goal.invariant-find_offence-loop-stmt
invariant-find_offence-loop-stmt l = first_offence l.sorts (places_in l.functions (drop l.stmt-index l.body)) ≡ first_offence l.sorts (places_in l.functions l.body)

abbrev pub invariant-find_in_branches-loop-branch : goal.invariant-find_in_branches-loop-branch
invariant-find_in_branches-loop-branch l = first_offence l.sorts (all_places l.functions (branch_parts (drop l.branch-index l.branches))) ≡ first_offence l.sorts (all_places l.functions (branch_parts l.branches))
