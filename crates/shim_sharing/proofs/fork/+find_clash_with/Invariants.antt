use Rattle.std.proofs.Common.{length}
use Rattle.shim_sharing.proofs.fork.+find_clash_with.Given as goal

abbrev pub decreases-find_clash_with : goal.decreases-find_clash_with
decreases-find_clash_with l = length l.behind.now
