use Rattle.std.proofs.Common.{length}
use Rattle.shim_tree.proofs.by_path.+can_poison_below.Given as goal

abbrev pub decreases-can_poison_below : goal.decreases-can_poison_below
decreases-can_poison_below g l = length l.pairs.now
