use Rattle.std.proofs.Common.{◌≡◌}
use Rattle.shim_semantics.specs.Nodes.{any_sharer}
use Rattle.shim_waits.specs.Gathering.{any_child_shares}
use Rattle.shim_waits.proofs.Children.{children_from}
use Rattle.shim_waits.proofs.holding.any_child_shares.Given as goal

-- whether one of those that are left shares it is whether one of all does
abbrev pub invariant-loop-i : goal.invariant-loop-i
invariant-loop-i g l = any_sharer g.L.Local.ops l.c.channel (children_from l.i l.node) ≡ any_child_shares g.L.Local.ops l.c.channel l.node
