use Rattle.shim_locations.specs.Lendings.{remainder_of}
use Rattle.shim_vm.proofs.Making.{MadeSoFar}
use Rattle.shim_vm.proofs.branches.make_children.Given as goal

abbrev pub invariant-loop : goal.invariant-loop
invariant-loop l = MadeSoFar l.process l.code l.start l.place l.children (remainder_of l.process l.remainder)
