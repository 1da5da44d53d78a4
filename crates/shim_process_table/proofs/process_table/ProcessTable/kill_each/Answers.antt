use Rattle.std.proofs.Common.{subst, ◌∙◌, arith}
use Rattle.std.proofs.lemmas.Option.{slice_get_read}
use Rattle.shim_laws_table_events.specs.meetings.Poisons.{AllDie}
use Rattle.shim_process_table.specs.Touching.{ChangesOnlyEach}
use Rattle.shim_process_table.proofs.HerePoisons.{one_killed, each_killed}
use Rattle.shim_process_table.proofs.TouchingMeets.{one_touched, each_touched}
use Rattle.shim_process_table.proofs.process_table.ProcessTable.kill_each.Goals as goal

pub loop-place-init : goal.loop-place-init
loop-place-init g c = (λ end rest. rest, λ end rest. rest)

pub loop-place-preserved : goal.loop-place-preserved
loop-place-preserved g c =
    let numbers = c.sharers.inside.numbers in
    let one = slice_get_read numbers.items c.len-place-end.result c.loop-place.place c.index.result.now (c.len-place-end.ensures ∙ numbers.ok.0) c.loop-place-test.true c.index.ensures in (
      one_killed g.L.Local.ops c.args.label numbers.items c.loop-place.place c.index.result.now c.args.self.now c.loop-place.self c.kill_at.new.self one c.kill_at.ensures.dies c.loop-place.invariant.0,
      one_touched numbers.items c.loop-place.place c.index.result.now c.args.self.now c.loop-place.self c.kill_at.new.self one c.kill_at.ensures.touches c.loop-place.invariant.1,
    )

pub returns-clause-die : goal.returns-clause-die
returns-clause-die g c =
    let numbers = c.sharers.inside.numbers in
    subst (λ z. AllDie g.L.Local.ops c.args.label z c.args.self.now c.loop-place.self) c.sharers.view_is
    (each_killed g.L.Local.ops c.args.label numbers.items c.loop-place.place c.args.self.now c.loop-place.self (let w = c.len-place-end.ensures in let y = numbers.ok.0 in omega (arith, c.loop-place-test.false, w, y)) c.loop-place.invariant.0)

pub returns-clause-touches : goal.returns-clause-touches
returns-clause-touches g c =
    let numbers = c.sharers.inside.numbers in
    subst (λ z. ChangesOnlyEach z c.args.self.now c.loop-place.self) c.sharers.view_is
    (each_touched numbers.items c.loop-place.place c.args.self.now c.loop-place.self (let w = c.len-place-end.ensures in let y = numbers.ok.0 in omega (arith, c.loop-place-test.false, w, y)) c.loop-place.invariant.1)
