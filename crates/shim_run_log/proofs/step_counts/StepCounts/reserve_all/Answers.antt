use Rattle.std.proofs.Common.{◌≡◌, ◌∷◌, ◌+◌, drop, length, ◌≤◌, arith}
use Rattle.std.proofs.lemmas.Grind.{common_steps}
use Rattle.shim_run_log.proofs.ReservedAll.{none_placed, one_placed, all_placed}
use Rattle.shim_run_log.proofs.step_counts.StepCounts.reserve_all.Goals as goal

pub loop-process-init : goal.loop-process-init
loop-process-init g c = none_placed g.L.Local.ops c.args.processes.now c.args.self.now

pub loop-process-preserved : goal.loop-process-preserved
loop-process-preserved g c =
    let i = c.loop-process.process-index in
    let d : drop i c.args.processes.now ≡ c.process-item.result ∷ drop (i + 1) c.args.processes.now = grind (arith, common_steps) in
    one_placed g.L.Local.ops c.args.processes.now c.args.self.now c.loop-process.self c.reserve.new.self i c.process-item.result c.path.result.now d c.path.ensures.path c.in_ok-reserve.ensures.ok c.loop-process.invariant

pub returns-clause-ok : goal.returns-clause-ok
returns-clause-ok g c =
    let past : length c.args.processes.now ≤ c.loop-process.process-index =
    let ended = c.loop-process-test.false in
    omega (arith, ended) in
    all_placed g.L.Local.ops c.args.processes.now c.args.self.now c.loop-process.self c.loop-process.process-index past c.loop-process.invariant
