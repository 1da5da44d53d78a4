use Rattle.std.proofs.Common.{refl, sym, subst, arith}
use Rattle.std.proofs.lemmas.Option.{slice_get_read}
use Rattle.shim_process_table.proofs.NewRecords.{AreOfFirst, one_record, all_records}
use Rattle.shim_process_table.proofs.forking.child_records.Goals as goal

pub loop-i-preserved : goal.loop-i-preserved
loop-i-preserved g c =
    let o = g.L.Local.ops in
    let within = c.loop-i-test.true in
    let end = c.loop-i.auto.i-end in
    let there = slice_get_read c.args.children.now _ c.loop-i.i c.index-children-i.result refl (omega (arith, within, end)) c.index-children-i.is in
    subst (AreOfFirst o c.args.parent c.args.children.now _) (sym c.in_ok-push.ensures.items)
    (one_record o c.args.parent c.args.children.now c.loop-i.i c.loop-i.records.items c.index-children-i.result c.in_ok-child_record.field-0 c.loop-i.invariant there c.in_ok-child_record.ensures)

pub returns : goal.returns
returns g c =
    let past = c.loop-i-test.false in
    let end = c.loop-i.auto.i-end in
    all_records g.L.Local.ops c.args.parent c.args.children.now c.loop-i.i c.loop-i.records.items c.loop-i.invariant (omega (arith, past, end))
