use Rattle.std.proofs.Common.{◌≡◌, drop}
use Rattle.shim_tree.specs.NodeStatus.{together, nodes}
use Rattle.shim_semantics.specs.Endings.{all_waiting}
use Rattle.shim_run_log.specs.Waits.{with_waits}
use Rattle.shim_tree.proofs.reading.+gather.Given as goal

-- what is found from here on, added, is what all gives
abbrev pub invariant-loop-i : goal.invariant-loop-i
invariant-loop-i g l =
    with_waits l.waits (all_waiting g.L.Local.ops (together (drop l.i l.children.items) (nodes (drop l.i l.came.items))))
    ≡ with_waits l.fn.waits (all_waiting g.L.Local.ops (together l.children.items (nodes l.came.items)))
