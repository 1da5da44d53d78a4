use Rattle.std.proofs.Common.{refl, arith}
use Rattle.std.proofs.lemmas.Option.{slice_get_read}
use Rattle.shim_process_table.proofs.ReadyWays.{one_way, one_further, all_walked}
use Rattle.shim_process_table.proofs.forking.update_ready.Goals as goal

pub loop-i-preserved : goal.loop-i-preserved
loop-i-preserved c =
    let within = c.loop-i-test.true in
    let end = c.loop-i.auto.i-end in
    let rs = c.args.records.now.items in
    let now = c.loop-i.records.items in
    let way = c.update_counts_above-reached in
    let max = c.max-furthest.ensures in (
      one_way c.args.at c.args.chans.now c.loop-i.i rs now way.new.records.items c.index-chans-i.result c.going_child_status.result c.going_child_status-in-loop-i.result c.loop-i.invariant.0
          (slice_get_read c.args.chans.now _ c.loop-i.i c.index-chans-i.result refl (omega (arith, within, end)) c.index-chans-i.is) c.going_child_status.ensures c.going_child_status-in-loop-i.ensures way.ensures.counts,
      one_further c.loop-i.furthest way.result c.max-furthest.result c.args.at rs now way.new.records.items c.index-chans-i.result c.going_child_status.result c.going_child_status-in-loop-i.result
          (omega (arith, max)) (omega (arith, max)) c.loop-i.invariant.1 way.ensures.counts way.ensures.reaches,
    )

pub returns-clause-ways : goal.returns-clause-ways
returns-clause-ways c =
    let past = c.loop-i-test.false in
    let end = c.loop-i.auto.i-end in
    all_walked c.args.at c.args.chans.now c.loop-i.i c.args.records.now.items c.loop-i.records.items c.loop-i.invariant.0 (omega (arith, past, end))
