use Rattle.std.proofs.Common.{arith, refl, subst, ◌≡◌, ◌-◌}
use Rattle.std.proofs.lemmas.Option.{slice_get_read}
use Rattle.shim_laws_table_events.specs.closes.Closing.{AreFreed}
use Rattle.shim_process_table.proofs.ClosingParts.{one_free}
use Rattle.shim_process_table.proofs.closing.free_children.Goals as goal

pub loop-at-preserved : goal.loop-at-preserved
loop-at-preserved c =
    let rs = c.loop-at.records in
    let i = c.loop-at.invariant in
    let within = c.loop-at-test.true in
    let asked = c.requires in
    let long = i.1 in
    let same = rs.ok.0 in
    let end = c.loop-at.auto.at-end in
    let there = slice_get_read rs.items rs.len c.loop-at.at c.index_mut.result.now same (omega (arith, within, asked, long, end)) c.index_mut.ensures.value in
    let order = i.2 in
    (one_free c.args.first c.loop-at.at c.args.records.now.items rs.items c.index_mut.result.now _ i.0 order there refl, long, omega (arith, order))

pub returns : goal.returns
returns c =
    let past = c.loop-at-test.false in
    let end = c.loop-at.auto.at-end in
    let at = c.loop-at.auto.at in
    let order = c.loop-at.invariant.2 in
    let all : c.loop-at.at - c.args.first ≡ c.args.count = omega (arith, past, end, at, order) in
    subst (λ n. AreFreed c.args.first n c.args.records.now.items c.loop-at.records.items) all c.loop-at.invariant.0
