use Rattle.std.proofs.Common.{sym, arith, refl}
use Rattle.shim_records.specs.Acted.{process_status_of}
use Rattle.shim_records.proofs.FullPropagation.{rest_ups}
use Rattle.shim_records.proofs.Walked.{ways, at_first, next, no_more, at_end}
use Rattle.shim_records.proofs.Reaching.{both_ways}
use Rattle.shim_records.proofs.acted.update_all_counts.Goals as goal

pub loop-place-init : goal.loop-place-init
loop-place-init g c = (at_first g.L.Local.ops c.args.process.now (process_status_of c.args.status) c.args.forks c.args.at c.args.records.now.items, (λ d i out. refl), omega arith)

pub returns-in-None-clause-counts : goal.returns-in-None-clause-counts
returns-in-None-clause-counts g c =
    no_more g.L.Local.ops c.args.process.now (process_status_of c.args.status) c.args.forks c.args.at c.args.records.now.items c.loop-place.place c.loop-place.records.items (sym c.in-None.ensures) c.loop-place.invariant.0

pub loop-place-preserved : goal.loop-place-preserved
loop-place-preserved g c =
    let rs = c.args.records.now.items in
    let now = c.loop-place.records.items in
    let so = c.loop-place.invariant.0 in
    let most = c.loop-place.invariant.2 in
    let way = c.update_for_one-reached.ensures in
    let less = way.most in
    let max = c.max-furthest.ensures in (
      next g.L.Local.ops c.args.process.now (process_status_of c.args.status) c.args.forks c.args.at rs c.loop-place.place now c.update_for_one-reached.new.records.items c.in-Some.chan.now (sym c.in-Some.ensures) way.counts so,
      both_ways c.loop-place.furthest c.update_for_one-reached.result c.max-furthest.result c.args.at rs now c.update_for_one-reached.new.records.items
          (rest_ups rs now (ways g.L.Local.ops c.args.process.now (process_status_of c.args.status) c.args.forks c.args.at rs c.loop-place.place now so))
          (omega (arith, max)) (omega (arith, max)) c.loop-place.invariant.1 way.reaches,
      omega (arith, max, most, less),
    )

pub returns-clause-counts : goal.returns-clause-counts
returns-clause-counts g c =
    at_end g.L.Local.ops c.args.process.now (process_status_of c.args.status) c.args.forks c.args.at c.args.records.now.items c.loop-place.place c.loop-place.records.items
    (let few = c.requires.few in let past = c.loop-place-test.false in omega (arith, few, past)) c.loop-place.invariant.0
