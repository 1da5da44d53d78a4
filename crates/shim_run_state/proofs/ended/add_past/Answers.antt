use Rattle.std.proofs.Common.{◌≡◌, ◌≤◌, ◌+◌, ◌∷◌, map, drop, length, arith}
use Rattle.std.proofs.lemmas.Grind.{common_steps}
use Rattle.shim_semantics.specs.Trees.{count_of}
use Rattle.shim_run_log.specs.Summed.{with_counts}
use Rattle.shim_run_state.specs.Fields.{count_in}
use Rattle.shim_run_state.proofs.Summing.{no_past_yet, one_past_summed, past_is_few, all_past}
use Rattle.shim_run_state.proofs.ended.add_past.Goals as goal

pub loop-steps-init : goal.loop-steps-init
loop-steps-init c = no_past_yet c.args.past.now c.args.sums.now

pub try_add-requires : goal.try_add-requires
try_add-requires c =
    let past = c.args.past.now in
    let i = c.loop-steps.steps-index in
    let x = c.steps-item.result in
    let d : drop i past ≡ x ∷ drop (i + 1) past = grind (arith, common_steps) in
    let few : count_of c.loop-steps.sums x.path + x.count ≤ 4000000 = past_is_few past i x 4000000 c.loop-steps.sums (with_counts c.args.sums.now (map count_in past)) d c.requires.few c.loop-steps.invariant in
    omega (arith, few)

pub loop-steps-preserved : goal.loop-steps-preserved
loop-steps-preserved c =
    let past = c.args.past.now in
    let i = c.loop-steps.steps-index in
    let x = c.steps-item.result in
    let d : drop i past ≡ x ∷ drop (i + 1) past = grind (arith, common_steps) in
    one_past_summed past i x c.loop-steps.sums c.try_add.new.self (with_counts c.args.sums.now (map count_in past)) d c.in_ok-try_add.ensures.ok c.loop-steps.invariant

pub returns : goal.returns
returns c =
    let past = c.args.past.now in
    let k : length past ≤ c.loop-steps.steps-index = let d = c.loop-steps-test.false in omega arith in
    all_past past c.loop-steps.steps-index c.loop-steps.sums (with_counts c.args.sums.now (map count_in past)) k c.loop-steps.invariant
