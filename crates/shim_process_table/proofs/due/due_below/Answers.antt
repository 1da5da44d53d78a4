use Rattle.std.proofs.Common.{◌∙◌, arith}
use Rattle.std.proofs.lemmas.Option.{slice_get_read}
use Rattle.shim_laws_table_events.specs.keeping.Tables.{TableView}
use Rattle.shim_process_table.proofs.DueFacts.{is_done, are_there, is_doomed, all_idle, idle_next}
use Rattle.shim_process_table.proofs.due.due_below.Goals as goal

pub returns-then-fork-eq0 : goal.returns-then-fork-eq0
returns-then-fork-eq0 g c i state there forked =
    let v : TableView g.row.L.Denot = record { states = c.args.states.now; records = c.args.records.now } in
    is_done g.L.Local.ops v i c.args.process.now c.args.fork.now state there c.args.count forked c.if-fork-eq0.true

pub returns-then-can_meet : goal.returns-then-can_meet
returns-then-can_meet g c i state there forked =
    let v : TableView g.row.L.Denot = record { states = c.args.states.now; records = c.args.records.now } in
    let ps = c.args.fork.now.pairs in
    are_there g.L.Local.ops v i c.args.process.now c.args.fork.now state there c.args.count forked c.loop-place.place c.index-pair.result.now
    (slice_get_read ps.items c.len-place-end.result c.loop-place.place c.index-pair.result.now (c.len-place-end.ensures ∙ ps.ok.0) (let a = c.loop-place-test.true in let b = c.loop-place.auto.place-end in omega (arith, a, b)) c.index-pair.ensures) (c.can_meet.ensures.met c.if-can_meet.true)

pub returns-in-Some : goal.returns-in-Some
returns-in-Some g c i state there forked =
    let o = g.L.Local.ops in
    let v : TableView g.row.L.Denot = record { states = c.args.states.now; records = c.args.records.now } in
    let ps = c.args.fork.now.pairs in
    is_doomed o v i c.args.process.now c.args.fork.now state there c.args.count forked c.loop-place.place c.in-Some.child c.index-pair.result.now
    (slice_get_read ps.items c.len-place-end.result c.loop-place.place c.index-pair.result.now (c.len-place-end.ensures ∙ ps.ok.0) (let a = c.loop-place-test.true in let b = c.loop-place.auto.place-end in omega (arith, a, b)) c.index-pair.ensures)
    c.in-Some.ensures

pub loop-place-preserved : goal.loop-place-preserved
loop-place-preserved g c =
    let v : TableView g.row.L.Denot = record { states = c.args.states.now; records = c.args.records.now } in
    let ps = c.args.fork.now.pairs in
    idle_next g.L.Local.ops v c.args.process.now c.args.fork.now.first c.args.count ps.items c.loop-place.place c.index-pair.result.now c.loop-place.invariant
    (slice_get_read ps.items c.len-place-end.result c.loop-place.place c.index-pair.result.now (c.len-place-end.ensures ∙ ps.ok.0) (let a = c.loop-place-test.true in let b = c.loop-place.auto.place-end in omega (arith, a, b)) c.index-pair.ensures)
    (c.can_meet.ensures.not_met c.if-can_meet.false) c.in-None.ensures

pub returns : goal.returns
returns g c i state there forked =
    let v : TableView g.row.L.Denot = record { states = c.args.states.now; records = c.args.records.now } in
    let ps = c.args.fork.now.pairs in
    all_idle g.L.Local.ops v i c.args.process.now c.args.fork.now state there c.args.count forked c.if-fork-eq0.false c.loop-place.place (let a = c.loop-place-test.false in let b = c.loop-place.auto.place-end in let d = c.len-place-end.ensures in let e = ps.ok.0 in omega (arith, a, b, d, e)) c.loop-place.invariant
