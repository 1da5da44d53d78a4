use Rattle.std.proofs.Common.{length}
use Rattle.shim_waits.proofs.by_path.+node_at.Given as goal

abbrev pub decreases-node_at : goal.decreases-node_at
decreases-node_at g l = length l.pairs.now
