use Rattle.std.proofs.Common.{refl}
use Rattle.shim_process_table.proofs.ClosingParts.{in_use}
use Rattle.shim_process_table.proofs.closing.come_to.Goals as goal

pub returns : goal.returns
returns c = record { first = c.args.parent.now.first; view_is = in_use c.args.parent.now.first c.args.status c.requires; parent = refl; path = refl; no_pairs = c.clear.ensures.items }
