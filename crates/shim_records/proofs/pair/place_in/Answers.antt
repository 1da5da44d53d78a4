use Rattle.std.proofs.Common.{◌∙◌}
use Rattle.shim_records.proofs.Searching.{place_found}
use Rattle.shim_records.proofs.pair.place_in.Goals as goal

pub returns : goal.returns
returns c = c.first_of.ensures ∙ place_found c.args.c.now.channel c.args.pairs.now
