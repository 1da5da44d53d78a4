use Rattle.std.proofs.Common.{sym, subst, ◌∙◌, arith, Some}
use Rattle.std.proofs.lemmas.Option.{slice_get_read}
use Rattle.shim_process_table.specs.Descent.{IsSharer}
use Rattle.shim_process_table.proofs.Finding.{shares_it}
use Rattle.shim_process_table.proofs.process_table.ProcessTable.sharer.Goals as goal

pub returns : goal.returns
returns g c =
    let o = g.L.Local.ops in
    let v = c.self.inside in
    let r = c.index-record.result.now in
    subst (λ z. IsSharer o z c.args.c.now.channel c.args.at (Some (record { first = r.first; count = c.in-Some.count }))) c.self.view_is
    (shares_it o (record { states = v.states.items; records = v.records.items }) c.args.c.now.channel c.args.at r c.index.result.now c.in-Some.count
    (slice_get_read v.records.items c.len-2.result c.args.at r (c.len-2.ensures ∙ v.records.ok.0) (omega (arith, c.if-at-len-2.false)) c.index-record.ensures)
    (slice_get_read v.states.items c.len.result c.args.at c.index.result.now (c.len.ensures ∙ v.states.ok.0) (omega (arith, c.if-at-len.false)) c.index.ensures)
    (sym c.children_of.ensures ∙ c.in-Some.is) (sym c.if-not-shares.ensures))
