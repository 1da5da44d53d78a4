use Rattle.std.proofs.Common.{refl, ap, ◌∙◌, arith}
use Rattle.std.specs.Prelude.{slice_set}
use Rattle.std.proofs.lemmas.Option.{slice_get_read}
use Rattle.shim_records.specs.Pairs.{up_at}
use Rattle.shim_records.specs.CountingOff.{lost, below}
use Rattle.shim_records.specs.declared.record.Record.{Record}
use Rattle.shim_records.proofs.Stepping.{past_end}
use Rattle.shim_records.proofs.counting_off.count_off.Goals as goal

pub returns-then-parent-len : goal.returns-then-parent-len
returns-then-parent-len c =
    let rs = c.args.records.now in
    let record_before = slice_get_read rs.items c.len.result c.args.at c.index.result.now (c.len.ensures ∙ rs.ok.0) (omega (arith, c.if-at-len.false)) c.index.ensures in
    lost c.in-Some.parent (ap up_at record_before ∙ c.in-Some.is) (past_end rs.items c.in-Some.parent (let len = c.len-2.ensures in let same = rs.ok.0 in let past = c.if-parent-len.true in omega (arith, len, same, past))) refl

pub returns : goal.returns
returns c =
    let rs = c.args.records.now in
    let record_before = slice_get_read rs.items c.len.result c.args.at c.index.result.now (c.len.ensures ∙ rs.ok.0) (omega (arith, c.if-at-len.false)) c.index.ensures in
    let r = c.index_mut-record.result.now in
    let fork = slice_get_read rs.items c.len-2.result c.in-Some.parent r (c.len-2.ensures ∙ rs.ok.0) (omega (arith, c.if-parent-len.false)) c.index_mut-record.ensures.value in
    below c.in-Some.parent r (ap up_at record_before ∙ c.in-Some.is) fork
    (ap (λ n. let w : Record = record { status = r.status; first = r.first; parent = r.parent; path = r.path; going_children = n; pairs = r.pairs } in slice_set rs.items c.in-Some.parent w) c.saturating_sub-record.ensures)
