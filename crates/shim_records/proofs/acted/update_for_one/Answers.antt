use Rattle.std.proofs.Common.{sym, true, false, ◌∙◌}
use Rattle.shim_records.specs.Acted.{walked}
use Rattle.shim_laws_table.specs.Counts.{ChildStatus as Read}
use Rattle.shim_records.proofs.Reaching.{one_alone}
use Rattle.shim_records.proofs.acted.update_for_one.Goals as goal

pub returns-clause-counts : goal.returns-clause-counts
returns-clause-counts g c =
    let shares = sym c.shares.ensures ∙ c.if-not-shares.false in
    walked shares (c.is_first.ensures.first c.if-not-is_first.false) (record { going = true; ready_on = false; dead_on = false }) c.status_now.result
    (λ i. let r : Read = record { going = sym shares i; ready_on = false; dead_on = false } in r) c.status_now.ensures c.update_counts_above.ensures.counts

pub returns-clause-reaches : goal.returns-clause-reaches
returns-clause-reaches g c = one_alone c.args.c.now.channel c.update_counts_above.result c.args.at c.args.records.now.items c.update_counts_above.new.records.items c.update_counts_above.ensures.counts.1 c.update_counts_above.ensures.reaches
