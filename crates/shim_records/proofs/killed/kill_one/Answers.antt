use Rattle.std.proofs.Common.{sym, ◌∙◌}
use Rattle.shim_records.specs.Killed.{walked}
use Rattle.shim_records.proofs.killed.kill_one.Goals as goal

pub returns : goal.returns
returns g c = walked (sym c.shares.ensures ∙ c.if-not-shares.false) (c.is_first.ensures.first c.if-not-is_first.false) c.status_alive.result c.status_dead.result c.status_alive.ensures c.status_dead.ensures c.update_counts_above.ensures.counts
