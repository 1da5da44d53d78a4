use Rattle.std.proofs.Common.{◌+◌, refl, sym, subst}
use Rattle.shim_local.specs.Process.{AtFinish}
use Rattle.shim_semantics.specs.Acts.{nothing}
use Rattle.shim_laws_table.specs.NodeStatus.{ends}
use Rattle.shim_records.specs.declared.record.Status.TheVariants as code
use Rattle.shim_laws_table_events.specs.keeping.Tables.{HasTableInvariant}
use Rattle.shim_process_table.specs.Stepping.{LivesAt}
use Rattle.shim_process_table.specs.Acting.{ActsAlone}
use Rattle.shim_process_table.proofs.Does.{its, few_given, still_kept, leaves_here}
use Rattle.shim_process_table.proofs.process_table.ProcessTable.end_process.Goals as goal

pub terminate-requires-clause-few : goal.terminate-requires-clause-few
terminate-requires-clause-few g c κs within =
    let o = g.L.Local.ops in
    let v = c.self.inside in
    let here = subst (λ z. LivesAt o z c.args.number AtFinish) (sym c.self.view_is) c.requires in
    few_given o v.states.items v.records.items c.args.number here.0 c.index.result.now c.self.invariant (its o v.states.items v.records.items c.args.number AtFinish c.index.result.now here c.index.ensures)

pub returns : goal.returns
returns g c =
    let o = g.L.Local.ops in
    let law = (g.met.L.Local g.world.𝓛 g.world.𝓜 g.world.𝓡 ((λ s x. x), (λ x. x), (λ x. x), λ x. x)).laws in
    let v = c.self.inside in
    let here = subst (λ z. LivesAt o z c.args.number AtFinish) (sym c.self.view_is) c.requires in
    subst (λ z. ActsAlone o (c.terminate.result + 1) c.args.number AtFinish ends nothing z (record { states = v.states.items; records = c.terminate.new.records.items })) c.self.view_is
    (leaves_here o law v.states.items v.records.items c.terminate.new.records.items c.args.number AtFinish nothing c.index.result.now here c.index.ensures c.terminate.result code.Ended refl c.terminate.ensures.leaves c.terminate.ensures.touches refl)

pub invariant_of-self : goal.invariant_of-self
invariant_of-self g c =
    let o = g.L.Local.ops in
    still_kept o (c.terminate.result + 1) c.args.number AtFinish ends nothing c.args.self.now (record { states = c.self.inside.states.items; records = c.terminate.new.records.items }) (returns g c) (subst (HasTableInvariant o) c.self.view_is c.self.invariant)
