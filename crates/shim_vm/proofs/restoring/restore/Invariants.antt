use Rattle.std.proofs.Common.{◌≡◌, ◌≤◌, ◌-◌, drop, length, map}
use Rattle.shim_vm.proofs.BackByCode.{restored}
use Rattle.shim_vm.proofs.restoring.restore.Given as goal

abbrev pub invariant-loop-place : goal.invariant-loop-place
invariant-loop-place g l = record {
  number : l.number ≤ l.place;
  back : restored l.process l.number (map g.P.HasProcess.state l.rest) (drop l.place l.code) ≡ restored l.initial.process 0 (map g.P.HasProcess.state l.children) (drop l.start l.code);
}

abbrev pub decreases-loop-place : goal.decreases-loop-place
decreases-loop-place g l = length l.code - l.place
