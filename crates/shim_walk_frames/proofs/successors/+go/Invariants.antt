use Rattle.std.proofs.Common.{◌≡◌, ◌+◌, ◌-◌, ◌≤◌, drop}
use Rattle.shim_walk_frames.specs.Successors.{size_all, go_all, shifted}
use Rattle.shim_walk_frames.proofs.successors.+go.Given as goal

abbrev pub invariant-go_all-loop-stmt : goal.invariant-go_all-loop-stmt
invariant-go_all-loop-stmt l = record {
  left_over : l.passed + size_all (drop l.stmt-index l.body) ≡ size_all l.body;
  passed : l.passed ≤ l.at;
  goes : shifted l.passed (go_all (drop l.stmt-index l.body) l.successor (l.at - l.passed)) ≡ go_all l.body l.successor l.at;
}
