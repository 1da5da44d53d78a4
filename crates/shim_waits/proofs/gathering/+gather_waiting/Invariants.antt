use Rattle.std.proofs.Common.{◌≡◌, ◌++◌, map, length}
use Rattle.shim_tree.specs.NodeRefs.{nodes_at}
use Rattle.shim_waits.specs.Holding.{lives}
use Rattle.shim_waits.proofs.Keeping.{KeepsFrom, lives_from}
use Rattle.shim_waits.proofs.gathering.+gather_waiting.Given as goal

abbrev pub decreases-gather_waiting : goal.decreases-gather_waiting
decreases-gather_waiting g l = nodes_at l.node.now

-- what was found so far, with what is to come
abbrev pub invariant-loop-i : goal.invariant-loop-i
invariant-loop-i g l =
    (map (λ x. x.now) l.lives.items ++ lives_from g.L.Local.ops l.i l.node ≡ map (λ x. x.now) l.fn.lives.items ++ lives l.node)
    × KeepsFrom g.L.Local.ops l.i l.node (length l.lives.items) (length l.fn.lives.items) l.fn.holders l.holders
