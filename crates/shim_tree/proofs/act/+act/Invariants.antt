use Rattle.std.proofs.Common.{◌+◌, ◌*◌, length}
use Rattle.shim_tree.proofs.act.+act.Given as goal

abbrev pub decreases-act_at : goal.decreases-act_at
decreases-act_at g l = 2 * length l.pairs.now

abbrev pub decreases-act_child : goal.decreases-act_child
decreases-act_child g l = 2 * length l.pairs.now + 1
