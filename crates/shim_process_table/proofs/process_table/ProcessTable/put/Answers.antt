use Rattle.std.proofs.Common.{sym, subst, slice_set}
use Rattle.shim_local.specs.Process.{AtPut}
use Rattle.shim_semantics.specs.Acts.{putting}
use Rattle.shim_laws_table.specs.NodeStatus.{lives}
use Rattle.shim_laws_table_events.specs.keeping.Tables.{HasTableInvariant}
use Rattle.shim_process_table.specs.Stepping.{LivesAt}
use Rattle.shim_process_table.specs.Acting.{ActsAlone}
use Rattle.shim_process_table.proofs.Does.{puts, still_kept, lives_here, lives_then}
use Rattle.shim_process_table.proofs.process_table.ProcessTable.put.Goals as goal

pub returns-clause-acts : goal.returns-clause-acts
returns-clause-acts g c =
    let o = g.L.Local.ops in
    let law = (g.met.L.Local g.world.𝓛 g.world.𝓜 g.world.𝓡 ((λ s x. x), (λ x. x), (λ x. x), λ x. x)).laws in
    let v = c.self.inside in
    let l = c.index_mut.result.now in
    let s = c.put-byte.new.self in
    let put_effects = putting c.put-byte.result in
    let forks = c.propagate_stop-to_requeue.result.forks in
    let here = subst (λ z. LivesAt o z c.args.number AtPut) (sym c.self.view_is) c.requires in
    subst (λ z. ActsAlone o forks c.args.number AtPut lives put_effects z (record { states = slice_set v.states.items c.args.number s; records = c.propagate_stop-to_requeue.new.records.items })) c.self.view_is
    (lives_here o law v.states.items v.records.items c.propagate_stop-to_requeue.new.records.items c.args.number AtPut put_effects l here c.index_mut.ensures.value forks s c.index.result.now c.index.ensures c.propagate_stop-to_requeue.ensures.propagates c.propagate_stop-to_requeue.ensures.newly_ready
    (puts o l s c.put-byte.result c.put-byte.ensures.byte c.put-byte.ensures.after))

pub returns-clause-queue : goal.returns-clause-queue
returns-clause-queue g c =
    let o = g.L.Local.ops in
    let law = (g.met.L.Local g.world.𝓛 g.world.𝓜 g.world.𝓡 ((λ s x. x), (λ x. x), (λ x. x), λ x. x)).laws in
    let v = c.self.inside in
    let s = c.put-byte.new.self in
    let here = subst (λ z. LivesAt o z c.args.number AtPut) (sym c.self.view_is) c.requires in
    let then = lives_then o law v.states.items v.records.items c.propagate_stop-to_requeue.new.records.items c.args.number AtPut (putting c.put-byte.result) c.index_mut.result.now here c.index_mut.ensures.value s c.index.result.now c.index.ensures c.propagate_stop-to_requeue.ensures.propagates in
    c.propagate_stop-to_requeue.ensures.queue (record { states = slice_set v.states.items c.args.number s; records = c.propagate_stop-to_requeue.new.records.items }) c.args.number then.0 then.1

pub invariant_of-self : goal.invariant_of-self
invariant_of-self g c =
    let o = g.L.Local.ops in
    still_kept o c.propagate_stop-to_requeue.result.forks c.args.number AtPut lives (putting c.put-byte.result) c.args.self.now (record { states = slice_set c.self.inside.states.items c.args.number c.put-byte.new.self; records = c.propagate_stop-to_requeue.new.records.items }) (returns-clause-acts g c)
    (subst (HasTableInvariant o) c.self.view_is c.self.invariant)
