use Rattle.std.proofs.Common.{◌≤◌, ◌+◌, pos, refl, sym, subst, rules}
use Rattle.shim_local.specs.Process.{AtTrap}
use Rattle.shim_semantics.specs.Nodes.{death_with}
use Rattle.shim_semantics.specs.Acts.{trapping}
use Rattle.shim_laws_table.specs.NodeStatus.{dies}
use Rattle.shim_records.specs.declared.record.Status.TheVariants as code
use Rattle.shim_laws_table_events.specs.keeping.Tables.{HasTableInvariant}
use Rattle.shim_process_table.specs.Stepping.{LivesAt}
use Rattle.shim_process_table.specs.Acting.{ActsAlone}
use Rattle.shim_process_table.proofs.Does.{its, few_given, still_kept, leaves_here}
use Rattle.shim_process_table.proofs.Touching.{touches_more}
use Rattle.shim_process_table.proofs.process_table.ProcessTable.trap.Goals as goal

pub terminate-requires-clause-few : goal.terminate-requires-clause-few
terminate-requires-clause-few g c κs within =
    let o = g.L.Local.ops in
    let v = c.self.inside in
    let stop = AtTrap c.requires.0 c.requires.1 in
    let here = subst (λ z. LivesAt o z c.args.number stop) (sym c.self.view_is) c.requires.2 in
    few_given o v.states.items v.records.items c.args.number here.0 c.index.result.now c.self.invariant (its o v.states.items v.records.items c.args.number stop c.index.result.now here c.index.ensures)

pub returns : goal.returns
returns g c kind line trapped =
    let o = g.L.Local.ops in
    let law = (g.met.L.Local g.world.𝓛 g.world.𝓜 g.world.𝓡 ((λ s x. x), (λ x. x), (λ x. x), λ x. x)).laws in
    let v = c.self.inside in
    let stop = AtTrap kind line in
    let here = subst (λ z. LivesAt o z c.args.number stop) (sym c.self.view_is) trapped in
    let few : c.terminate.result ≤ 4294967295 = search rules in
    subst (λ z. ActsAlone o (4294967295 + 1) c.args.number stop (dies (death_with 0 (pos 0))) (trapping kind line) z (record { states = v.states.items; records = c.terminate.new.records.items })) c.self.view_is
    (leaves_here o law v.states.items v.records.items c.terminate.new.records.items c.args.number stop (trapping kind line) c.index.result.now here c.index.ensures 4294967295 (code.Dead (death_with 0 (pos 0))) refl c.terminate.ensures.leaves
    (touches_more c.terminate.result 4294967295 c.args.number v.records.items c.terminate.new.records.items few c.terminate.ensures.touches) refl)

pub invariant_of-self : goal.invariant_of-self
invariant_of-self g c =
    let o = g.L.Local.ops in
    let kind = c.requires.0 in
    let line = c.requires.1 in
    still_kept o (4294967295 + 1) c.args.number (AtTrap kind line) (dies (death_with 0 (pos 0))) (trapping kind line) c.args.self.now (record { states = c.self.inside.states.items; records = c.terminate.new.records.items }) (returns g c kind line c.requires.2)
    (subst (HasTableInvariant o) c.self.view_is c.self.invariant)
