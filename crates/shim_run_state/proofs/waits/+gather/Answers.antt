use Rattle.std.proofs.Common.{rules, ◌≡◌, ◌≤◌, ◌-◌, suc, Some}
use Rattle.std.specs.Prelude.{slice_get}
use Rattle.std.proofs.lemmas.Result.{on_ok_weaker}
use Rattle.shim_laws_table.specs.NodeStatus.{lives, forks, ends, dies}
use Rattle.shim_laws_table.specs.Agrees.{used, free}
use Rattle.shim_run_state.proofs.Gathering as lemmas
use Rattle.shim_run_state.proofs.waits.+gather.Goals as goal

pub loop-branch-init : goal.loop-branch-init
loop-branch-init g t c = lemmas.none_yet g.L.Local.ops c.args.table.now (c.args.levels - 1) c.in-Some-record.here.now.first c.in-Forked.count c.args.waits.now

pub loop-branch-preserved : goal.loop-branch-preserved
loop-branch-preserved g t c =
    lemmas.one_more g.L.Local.ops c.args.table.now (c.args.levels - 1) c.in-Some-record.here.now.first c.in-Forked.count c.loop-branch.branch c.args.waits.now c.loop-branch.waits c.gather.new.waits c.loop-branch-test.true c.loop-branch.invariant c.in_ok-gather-in-Forked.ensures

pub returns-in-Live : goal.returns-in-Live
returns-in-Live g t c =
    let o = g.L.Local.ops in
    let v = c.args.table.now in
    let e : c.args.levels ≡ suc (c.args.levels - 1) = lemmas.positive c.args.levels c.if-levels-eq0.false in
    let f : slice_get v.states c.args.number ≡ Some c.in-Some.process.now = search rules in
    let r : slice_get v.records c.args.number ≡ Some c.in-Some-record.here.now = search rules in
    let s = lemmas.said o v c.args.number c.in-Some-record.here.now (used c.in-Some-record.here.now.first lives) r (lemmas.said_lives c.in-Some-record.here.now c.in-Live.is) in
    on_ok_weaker c.gather_live.result (λ is. lemmas.it_lives o v c.args.levels (c.args.levels - 1) c.args.number c.in-Some.process.now e f c.in-Some-record.here.now.first c.args.waits.now c.gather_live.new.waits s is) c.gather_live.ensures

pub returns-in-Free : goal.returns-in-Free
returns-in-Free g t c =
    let o = g.L.Local.ops in
    let v = c.args.table.now in
    let e : c.args.levels ≡ suc (c.args.levels - 1) = lemmas.positive c.args.levels c.if-levels-eq0.false in
    let f : slice_get v.states c.args.number ≡ Some c.in-Some.process.now = search rules in
    let r : slice_get v.records c.args.number ≡ Some c.in-Some-record.here.now = search rules in
    let s = lemmas.said o v c.args.number c.in-Some-record.here.now free r (lemmas.said_free c.in-Some-record.here.now c.in-Free.is) in
    lemmas.it_is_free o v c.args.levels (c.args.levels - 1) c.args.number c.in-Some.process.now e f c.args.waits.now s

pub returns-in-Ended : goal.returns-in-Ended
returns-in-Ended g t c =
    let o = g.L.Local.ops in
    let v = c.args.table.now in
    let e : c.args.levels ≡ suc (c.args.levels - 1) = lemmas.positive c.args.levels c.if-levels-eq0.false in
    let f : slice_get v.states c.args.number ≡ Some c.in-Some.process.now = search rules in
    let r : slice_get v.records c.args.number ≡ Some c.in-Some-record.here.now = search rules in
    let s = lemmas.said o v c.args.number c.in-Some-record.here.now (used c.in-Some-record.here.now.first ends) r (lemmas.said_ended c.in-Some-record.here.now c.in-Ended.is) in
    lemmas.it_ended o v c.args.levels (c.args.levels - 1) c.args.number c.in-Some.process.now e f c.in-Some-record.here.now.first c.args.waits.now s

pub returns-in-Dead : goal.returns-in-Dead
returns-in-Dead g t c =
    let o = g.L.Local.ops in
    let v = c.args.table.now in
    let e : c.args.levels ≡ suc (c.args.levels - 1) = lemmas.positive c.args.levels c.if-levels-eq0.false in
    let f : slice_get v.states c.args.number ≡ Some c.in-Some.process.now = search rules in
    let r : slice_get v.records c.args.number ≡ Some c.in-Some-record.here.now = search rules in
    let s = lemmas.said o v c.args.number c.in-Some-record.here.now (used c.in-Some-record.here.now.first (dies c.in-Dead.field-0)) r (lemmas.said_dead c.in-Some-record.here.now c.in-Dead.field-0 c.in-Dead.is) in
    lemmas.it_died o v c.args.levels (c.args.levels - 1) c.args.number c.in-Some.process.now e f c.in-Some-record.here.now.first c.in-Dead.field-0 c.args.waits.now s

pub returns-after-loop-branch : goal.returns-after-loop-branch
returns-after-loop-branch g t c =
    let o = g.L.Local.ops in
    let v = c.args.table.now in
    let e : c.args.levels ≡ suc (c.args.levels - 1) = lemmas.positive c.args.levels c.if-levels-eq0.false in
    let f : slice_get v.states c.args.number ≡ Some c.in-Some.process.now = search rules in
    let r : slice_get v.records c.args.number ≡ Some c.in-Some-record.here.now = search rules in
    let s = lemmas.said o v c.args.number c.in-Some-record.here.now (used c.in-Some-record.here.now.first (forks c.in-Forked.count)) r (lemmas.said_forked c.in-Some-record.here.now c.in-Forked.count c.in-Forked.is) in
    let past : c.in-Forked.count ≤ c.loop-branch.branch = search rules in
    lemmas.all_gathered o v c.args.levels (c.args.levels - 1) c.args.number c.in-Some.process.now e f c.in-Some-record.here.now.first c.in-Forked.count c.loop-branch.branch c.args.waits.now c.loop-branch.waits s past c.loop-branch.invariant
