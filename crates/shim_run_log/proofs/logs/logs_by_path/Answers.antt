use Rattle.std.proofs.Common.{◌≡◌, ◌≤◌, ◌+◌, ◌∷◌, ◌∙◌, ap, drop, length, arith}
use Rattle.std.proofs.lemmas.Grind.{common_steps}
use Rattle.std.proofs.lemmas.Result.{IfOk-weaker}
use Rattle.std.specs.FinMap as finite
use Rattle.shim_semantics.specs.Endings.{all_logs}
use Rattle.shim_run_log.specs.Logged.{with_each, logged}
use Rattle.shim_run_log.proofs.Logged.{gathered_one, gathered_all}
use Rattle.shim_run_log.proofs.logs.logs_by_path.Goals as goal

pub loop-log-init : goal.loop-log-init
loop-log-init c = ap (λ m. with_each m c.args.logs.now) c.new-by_path.ensures

pub loop-log-preserved : goal.loop-log-preserved
loop-log-preserved c =
    let i = c.loop-log.log-index in
    let d : drop i c.args.logs.now ≡ c.log-item.result ∷ drop (i + 1) c.args.logs.now = grind (arith, common_steps) in
    gathered_one (logged c.args.logs.now) c.loop-log.by_path c.add.new.self c.args.logs.now i c.log-item.result d c.in_ok-add.ensures.ok c.loop-log.invariant

pub returns : goal.returns
returns c =
    let k : length c.args.logs.now ≤ c.loop-log.log-index = let d = c.loop-log-test.false in omega arith in
    IfOk-weaker c.list.result _ _ (λ list h. h ∙ ap (λ m. all_logs (finite.entries m)) (gathered_all (logged c.args.logs.now) c.loop-log.by_path c.args.logs.now c.loop-log.log-index k c.loop-log.invariant)) c.list.ensures
