use Rattle.std.proofs.Common.{sym, subst, ap, ◌∙◌, arith}
use Rattle.std.specs.Prelude.{slice_get}
use Rattle.std.proofs.lemmas.Option.{slice_get_read}
use Rattle.shim_base.proofs.Facts.{some_same}
use Rattle.shim_laws_table_events.specs.keeping.Tables.{TableView}
use Rattle.shim_laws_table_events.specs.queues.RecordDecisions.{HasNothingDue}
use Rattle.shim_process_table.specs.Due.{DueIs}
use Rattle.shim_process_table.proofs.DueFacts.{at_rest, live_process, of_lists}
use Rattle.shim_process_table.proofs.process_table.ProcessTable.due.Goals as goal

pub returns-in-Free : goal.returns-in-Free
returns-in-Free g c =
    let o = g.L.Local.ops in
    let v = c.self.inside in
    let w : TableView g.row.L.Denot = record { states = v.states.items; records = v.records.items } in
    let long = c.len.ensures ∙ v.states.ok.0 in
    subst (λ z. HasNothingDue o z c.args.number) c.self.view_is
    (at_rest o w c.args.number c.index.result.now (omega (arith, long, c.if-at-len.false))
    (slice_get_read v.records.items c.len-2.result c.args.number c.index.result.now (c.len-2.ensures ∙ v.records.ok.0) (omega (arith, c.if-at-len-2.false)) c.index.ensures) c.in-Free.is)

pub returns-in-Live : goal.returns-in-Live
returns-in-Live g c =
    let o = g.L.Local.ops in
    let v = c.self.inside in
    let w : TableView g.row.L.Denot = record { states = v.states.items; records = v.records.items } in
    subst (λ z. DueIs o z c.args.number c.due_alone.result) c.self.view_is
    (c.due_alone.ensures w c.args.number c.index.result.now.first
    (live_process o w c.args.number c.index-in-Live.result.now c.index.result.now
    (slice_get_read v.states.items c.len.result c.args.number c.index-in-Live.result.now (c.len.ensures ∙ v.states.ok.0) (omega (arith, c.if-at-len.false)) c.index-in-Live.ensures)
    (slice_get_read v.records.items c.len-2.result c.args.number c.index.result.now (c.len-2.ensures ∙ v.records.ok.0) (omega (arith, c.if-at-len-2.false)) c.index.ensures) c.in-Live.is))

pub returns-in-Forked : goal.returns-in-Forked
returns-in-Forked g c =
    let o = g.L.Local.ops in
    let v = c.self.inside in
    let n = c.args.number in
    let state = slice_get_read v.states.items c.len.result n c.index-in-Forked.result.now (c.len.ensures ∙ v.states.ok.0) (omega (arith, c.if-at-len.false)) c.index-in-Forked.ensures in
    let one = slice_get_read v.records.items c.len-2.result n c.index.result.now (c.len-2.ensures ∙ v.records.ok.0) (omega (arith, c.if-at-len-2.false)) c.index.ensures in
    let other = slice_get_read v.records.items c.len-2.result n c.index-in-Forked-2.result.now (c.len-2.ensures ∙ v.records.ok.0) (omega (arith, c.if-at-len-2.false)) c.index-in-Forked-2.ensures in
    let same = some_same c.index-in-Forked-2.result.now c.index.result.now (sym other ∙ one) in
    let found_due = c.due_below.ensures n (ap (λ z. slice_get z n) c.as_slice.ensures.value ∙ state) (ap (λ z. slice_get z n) c.as_slice-in-Forked.ensures.value ∙ other) (ap (λ z. z.status) same ∙ c.in-Forked.is) in
    subst (λ z. DueIs o z n c.due_below.result) c.self.view_is
    (of_lists o n c.due_below.result c.as_slice.result.now v.states.items c.as_slice-in-Forked.result.now v.records.items c.as_slice.ensures.value c.as_slice-in-Forked.ensures.value found_due)
