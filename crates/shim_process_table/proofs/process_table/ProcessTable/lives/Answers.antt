use Rattle.std.proofs.Common.{subst, sym, ◌∙◌, arith}
use Rattle.std.proofs.lemmas.Option.{slice_get_read}
use Rattle.shim_laws_table.proofs.Forking.{there_is}
use Rattle.shim_process_table.specs.Stepping.{IsLive}
use Rattle.shim_process_table.proofs.HereSteps.{is_alive}
use Rattle.shim_process_table.proofs.process_table.ProcessTable.lives.Goals as goal

pub returns : goal.returns
returns g c =
    let v = c.self.inside in
    let r = c.index.result.now in
    let its = there_is v.states.items c.args.at (let past = c.if-at-len.false in let len = c.len.ensures in let same = v.states.ok.0 in omega (arith, past, len, same)) in
    subst (λ z. IsLive c.args.at z c.lives_on.result) c.self.view_is
    (subst (IsLive c.args.at (record { states = v.states.items; records = v.records.items })) (sym c.lives_on.ensures)
    (is_alive (record { states = v.states.items; records = v.records.items }) c.args.at its.0 r its.1
    (slice_get_read v.records.items c.len-2.result c.args.at r (c.len-2.ensures ∙ v.records.ok.0) (omega (arith, c.if-at-len-2.false)) c.index.ensures)))
