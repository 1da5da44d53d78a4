use Rattle.std.proofs.Common.{rules, ◌≤◌, length, get_or}
use Rattle.shim_run_log.specs.Summed.{with_counts}
use Rattle.shim_run_state.specs.RunStates.{path_at, counts_from}
use Rattle.shim_run_state.proofs.Summing.{drop_at, none_yet, one_summed, is_few, all_numbers}
use Rattle.shim_run_state.proofs.ended.add_in_use.Goals as goal

pub loop-number-init : goal.loop-number-init
loop-number-init g c = none_yet (path_at g.L.Local.ops c.args.table.now) c.args.own.now c.args.sums.now

pub add_at-requires-clause-few : goal.add_at-requires-clause-few
add_at-requires-clause-few g c κs within p e =
    let paths = path_at g.L.Local.ops c.args.table.now in
    let own = c.args.own.now in
    let k = c.loop-number.number in
    is_few paths own k (get_or own k 0) 4000000 c.loop-number.sums (with_counts c.args.sums.now (counts_from paths own)) (drop_at own k 0 c.loop-number-test.true) c.requires.few c.loop-number.invariant p e

pub loop-number-preserved : goal.loop-number-preserved
loop-number-preserved g c =
    let paths = path_at g.L.Local.ops c.args.table.now in
    let own = c.args.own.now in
    let k = c.loop-number.number in
    one_summed paths own k (get_or own k 0) c.loop-number.sums c.add_at.new.sums (with_counts c.args.sums.now (counts_from paths own)) (drop_at own k 0 c.loop-number-test.true) c.in_ok-add_at.ensures c.loop-number.invariant

pub returns : goal.returns
returns g c =
    let paths = path_at g.L.Local.ops c.args.table.now in
    let own = c.args.own.now in
    let past : length own ≤ c.loop-number.number = search rules in
    all_numbers paths own c.loop-number.number c.loop-number.sums (with_counts c.args.sums.now (counts_from paths own)) past c.loop-number.invariant
