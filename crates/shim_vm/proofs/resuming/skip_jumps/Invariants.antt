use Rattle.std.proofs.Common.{◌≡◌, ℕ, ◌-◌, ◌∷◌, List, length}
use Rattle.shim_units.specs.declared.unit.UStmt.{UStmt}
use Rattle.shim_process.specs.Todo.{Do, Item}
use Rattle.shim_machine.specs.Machine.{CodedUnit}
use Rattle.shim_machine.specs.Correspondence.{AtHalf, IsCodeOf}
use Rattle.shim_vm.proofs.Passing.{Along}
use Rattle.shim_vm.proofs.resuming.skip_jumps.Given as goal

abbrev pub invariant-loop-place : goal.invariant-loop-place
invariant-loop-place l = record {
  on : (u : CodedUnit) (k : List Item) → u.code ≡ l.code → IsCodeOf u l.initial.place k → Along u k l.many l.place l.kept;
  half : (u : CodedUnit) (n : ℕ) (s : UStmt) (k : List Item) → u.code ≡ l.code → AtHalf u l.initial.place (Do n s ∷ k) → (l.place ≡ l.initial.place) × (l.kept ≡ l.many);
}

abbrev pub decreases-loop-place : goal.decreases-loop-place
decreases-loop-place l = length l.code - l.place
