use Rattle.std.proofs.Common.{◌+◌, ◌*◌, length}
use Rattle.shim_tree.proofs.poison.+poison.Given as goal

abbrev pub decreases-poison_at : goal.decreases-poison_at
decreases-poison_at g l = 2 * length l.pairs.now

abbrev pub decreases-poison_among : goal.decreases-poison_among
decreases-poison_among g l = 2 * length l.pairs.now + 1
