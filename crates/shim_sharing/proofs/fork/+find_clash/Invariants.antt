use Rattle.std.proofs.Common.{length}
use Rattle.shim_sharing.proofs.fork.+find_clash.Given as goal

abbrev pub decreases-find_clash : goal.decreases-find_clash
decreases-find_clash l = length l.branches.now
