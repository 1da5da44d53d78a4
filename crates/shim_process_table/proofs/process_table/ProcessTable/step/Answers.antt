use Rattle.std.proofs.Common.{sym, subst, slice_set}
use Rattle.shim_local.specs.Process.{AtQuiet}
use Rattle.shim_process_table.specs.Stepping.{LivesAt, StepsAt}
use Rattle.shim_process_table.specs.Touching.{ReadiesAbove}
use Rattle.shim_process_table.proofs.HereSteps.{steps_here, still_kept, other_stop, lives_then, readies_here}
use Rattle.shim_process_table.proofs.process_table.ProcessTable.step.Goals as goal

pub returns-clause-steps : goal.returns-clause-steps
returns-clause-steps g c =
    let o = g.L.Local.ops in
    let law = (g.met.L.Local g.world.𝓛 g.world.𝓜 g.world.𝓡 ((λ s x. x), (λ x. x), (λ x. x), λ x. x)).laws in
    let v = c.self.inside in
    let before = subst (λ z. LivesAt o z c.args.number AtQuiet) (sym c.self.view_is) c.requires in
    subst (λ z. StepsAt o c.args.number c.quiet-quiet.result.taken z (record { states = slice_set v.states.items c.args.number c.quiet-quiet.new.self; records = c.propagate_stop-to_requeue.new.records.items })) c.self.view_is
    (steps_here o law v.states.items v.records.items c.propagate_stop-to_requeue.new.records.items c.args.number c.quiet-quiet.result.taken c.index_mut.result.now c.quiet-quiet.new.self c.index.result.now before c.index_mut.ensures.value c.quiet-quiet.ensures.steps c.index.ensures
    c.propagate_stop-to_requeue.ensures.propagates)

pub invariant_of-self : goal.invariant_of-self
invariant_of-self g c =
    let o = g.L.Local.ops in
    let law = (g.met.L.Local g.world.𝓛 g.world.𝓜 g.world.𝓡 ((λ s x. x), (λ x. x), (λ x. x), λ x. x)).laws in
    let v = c.self.inside in
    let before = subst (λ z. LivesAt o z c.args.number AtQuiet) (sym c.self.view_is) c.requires in
    still_kept o law v.states.items v.records.items c.propagate_stop-to_requeue.new.records.items c.args.number c.quiet-quiet.result.taken c.index_mut.result.now c.quiet-quiet.new.self c.index.result.now before c.index_mut.ensures.value c.quiet-quiet.ensures.steps c.index.ensures
    c.propagate_stop-to_requeue.ensures.propagates c.self.invariant

pub returns-clause-fewer : goal.returns-clause-fewer
returns-clause-fewer g c less whole =
    let o = g.L.Local.ops in
    let law = (g.met.L.Local g.world.𝓛 g.world.𝓜 g.world.𝓡 ((λ s x. x), (λ x. x), (λ x. x), λ x. x)).laws in
    let v = c.self.inside in
    let before = subst (λ z. LivesAt o z c.args.number AtQuiet) (sym c.self.view_is) c.requires in
    other_stop o law v.states.items v.records.items c.propagate_stop-to_requeue.new.records.items c.args.number c.quiet-quiet.result.taken c.index_mut.result.now c.quiet-quiet.new.self c.index.result.now before c.index_mut.ensures.value c.quiet-quiet.ensures.steps c.index.ensures
    c.propagate_stop-to_requeue.ensures.propagates (c.quiet-quiet.ensures.fewer less whole)

pub returns-clause-newly_ready : goal.returns-clause-newly_ready
returns-clause-newly_ready g c =
    let o = g.L.Local.ops in
    let law = (g.met.L.Local g.world.𝓛 g.world.𝓜 g.world.𝓡 ((λ s x. x), (λ x. x), (λ x. x), λ x. x)).laws in
    let v = c.self.inside in
    let s = c.quiet-quiet.new.self in
    let forks = c.propagate_stop-to_requeue.result.forks in
    let before = subst (λ z. LivesAt o z c.args.number AtQuiet) (sym c.self.view_is) c.requires in
    subst (λ z. ReadiesAbove o forks c.args.number z (record { states = slice_set v.states.items c.args.number s; records = c.propagate_stop-to_requeue.new.records.items })) c.self.view_is
    (readies_here o law v.states.items v.records.items c.propagate_stop-to_requeue.new.records.items c.args.number c.quiet-quiet.result.taken c.index_mut.result.now s c.index.result.now before c.index_mut.ensures.value c.quiet-quiet.ensures.steps c.index.ensures
    c.propagate_stop-to_requeue.ensures.propagates forks c.propagate_stop-to_requeue.ensures.newly_ready)

pub returns-clause-queue : goal.returns-clause-queue
returns-clause-queue g c =
    let o = g.L.Local.ops in
    let law = (g.met.L.Local g.world.𝓛 g.world.𝓜 g.world.𝓡 ((λ s x. x), (λ x. x), (λ x. x), λ x. x)).laws in
    let v = c.self.inside in
    let s = c.quiet-quiet.new.self in
    let before = subst (λ z. LivesAt o z c.args.number AtQuiet) (sym c.self.view_is) c.requires in
    let then = lives_then o law v.states.items v.records.items c.propagate_stop-to_requeue.new.records.items c.args.number c.quiet-quiet.result.taken c.index_mut.result.now s c.index.result.now before c.index_mut.ensures.value c.quiet-quiet.ensures.steps c.index.ensures
    c.propagate_stop-to_requeue.ensures.propagates in
    c.propagate_stop-to_requeue.ensures.queue (record { states = slice_set v.states.items c.args.number s; records = c.propagate_stop-to_requeue.new.records.items }) c.args.number then.0 then.1
