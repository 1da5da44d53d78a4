use Rattle.std.proofs.Common.{◌≡◌, drop}
use Rattle.shim_process.specs.Forks.{all_lending}
use Rattle.shim_walk.specs.ChildrenMade.{children_made, children_before}
use Rattle.shim_locations.specs.Lendings.{remainder_of}
use Rattle.shim_walk.proofs.process.Process.children.Given as goal

abbrev pub invariant-loop-branch : goal.invariant-loop-branch
invariant-loop-branch l = record {
  children : children_before l.children (children_made l.self (remainder_of l.self l.remainder) l.place (drop l.branch-index l.branches)) ≡ children_made l.self (remainder_of l.self l.initial.remainder) 0 l.branches;
  remainder : all_lending (remainder_of l.self l.remainder) (drop l.branch-index l.branches) ≡ all_lending (remainder_of l.self l.initial.remainder) l.branches;
}
