use Rattle.std.proofs.Common.{length}
use Rattle.shim_scopes.proofs.header.+is_suited.Given as goal

abbrev pub decreases-is_suited : goal.decreases-is_suited
decreases-is_suited l = length l.params.now
