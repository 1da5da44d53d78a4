use Rattle.std.proofs.Common.{◌≡◌, ◌++◌, ◌∙◌, ap, map}
use Rattle.std.specs.FinMap.{entries}
use Rattle.std.proofs.lemmas.Result.{IfOk-weaker}
use Rattle.shim_semantics.specs.Endings as endings
use Rattle.shim_run_log.specs.Counted.{counted}
use Rattle.shim_run_log.specs.Reserved.{stepped}
use Rattle.shim_run_log.proofs.AllStepped.{all_stepped}
use Rattle.shim_run_state.specs.RunStates.{path_at, counts_from}
use Rattle.shim_run_state.specs.Fields.{count_in}
use Rattle.shim_run_state.proofs.Summing.{both_summed, first_few, second_few}
use Rattle.shim_run_state.proofs.ended.own_steps.Goals as goal

pub add_in_use-requires-clause-few : goal.add_in_use-requires-clause-few
add_in_use-requires-clause-few g c κs within p =
    let es = counts_from (path_at g.L.Local.ops c.args.table.now) c.args.own.now in
    first_few c.new-sums.result es (map count_in c.args.past.now) 4000000 c.new-sums.ensures c.requires.few p

pub add_past-requires : goal.add_past-requires
add_past-requires g c =
    let es = counts_from (path_at g.L.Local.ops c.args.table.now) c.args.own.now in
    record { few = second_few c.new-sums.result c.add_in_use.new.sums es (map count_in c.args.past.now) 4000000 c.new-sums.ensures c.in_ok-add_in_use.ensures c.requires.few }

pub returns : goal.returns
returns g c =
    let es = counts_from (path_at g.L.Local.ops c.args.table.now) c.args.own.now in
    let fs = map count_in c.args.past.now in
    IfOk-weaker c.list.result (λ list. list ≡ map endings.own_steps (entries (stepped c.add_past.new.sums))) (λ list. list ≡ map endings.own_steps (entries (counted (es ++ fs))))
    (λ list h. h ∙ (ap (λ z. map endings.own_steps (entries (stepped z))) (both_summed c.new-sums.result c.add_in_use.new.sums c.add_past.new.sums es fs c.new-sums.ensures c.in_ok-add_in_use.ensures c.in_ok-add_past.ensures) ∙ ap (λ z. map endings.own_steps (entries z)) (all_stepped (es ++ fs))))
    c.list.ensures
