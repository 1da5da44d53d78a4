use Rattle.std.proofs.Common.{refl, subst, ◌∙◌, arith, pos, w64, to_z, of_z, FitsSigned, rules}
use Rattle.std.proofs.lemmas.Int.{to_z-of_z}
use Rattle.std.proofs.lemmas.Option.{slice_get_read}
use Rattle.shim_laws_table_events.specs.meetings.Plans.{ValueAt}
use Rattle.shim_process_table.proofs.Sourced.{none_past, carries_not, value_is}
use Rattle.shim_process_table.proofs.process_table.ProcessTable.value_at.Goals as goal

pub returns-then-at-len : goal.returns-then-at-len
returns-then-at-len g c =
    let v = c.self.inside in
    subst (λ z. ValueAt g.L.Local.ops z c.args.c.now.channel c.args.at (pos 0)) c.self.view_is
    (none_past g.L.Local.ops (record { states = v.states.items; records = v.records.items }) c.args.c.now.channel c.args.at (pos 0) (let w = c.len.ensures in let y = v.states.ok.0 in omega (arith, c.if-at-len.true, w, y)))

pub returns-then-not-carries : goal.returns-then-not-carries
returns-then-not-carries g c =
    let v = c.self.inside in
    subst (λ z. ValueAt g.L.Local.ops z c.args.c.now.channel c.args.at (pos 0)) c.self.view_is
    (carries_not g.L.Local.ops (record { states = v.states.items; records = v.records.items }) c.args.c.now.channel c.args.at (pos 0) c.index-process.result.now
    (slice_get_read v.states.items c.len.result c.args.at c.index-process.result.now (c.len.ensures ∙ v.states.ok.0) (omega (arith, c.if-at-len.false)) c.index-process.ensures) c.if-not-carries.ensures refl)

pub returns : goal.returns
returns g c =
    let v = c.self.inside in
    let fits : FitsSigned w64 c.value.result = search rules in
    let x = to_z w64 (of_z w64 c.value.result) in
    subst (λ z. ValueAt g.L.Local.ops z c.args.c.now.channel c.args.at x) c.self.view_is
    (value_is g.L.Local.ops (record { states = v.states.items; records = v.records.items }) c.args.c.now.channel c.args.at x c.index-process.result.now
    (slice_get_read v.states.items c.len.result c.args.at c.index-process.result.now (c.len.ensures ∙ v.states.ok.0) (omega (arith, c.if-at-len.false)) c.index-process.ensures) c.if-not-carries.ensures (to_z-of_z w64 c.value.result fits ∙ c.value.ensures))
