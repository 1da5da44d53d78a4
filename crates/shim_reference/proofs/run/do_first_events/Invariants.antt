use Rattle.std.proofs.Common.{◌≡◌, ◌-◌}
use Rattle.shim_semantics.specs.Trees.{steps}
use Rattle.shim_semantics.specs.Walks.{meaning}
use Rattle.shim_reference.proofs.run.do_first_events.Given as goal

-- what is left to do leads to the same end, and each event counted one step
abbrev pub invariant-loop : goal.invariant-loop
invariant-loop g l = record {
  rest : meaning g.L.Local.ops (l.budget - l.counter) l.tree ≡ meaning g.L.Local.ops l.fn.budget l.fn.tree;
  steps : steps l.tree ≡ l.counter;
}
