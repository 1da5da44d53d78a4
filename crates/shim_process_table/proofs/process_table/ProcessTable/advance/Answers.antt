use Rattle.std.proofs.Common.{sym, subst, slice_set}
use Rattle.shim_process_table.specs.Stepping.{StepsAt, QuietlyReaches}
use Rattle.shim_process_table.specs.Touching.{ReadiesAbove}
use Rattle.shim_process_table.proofs.HereSteps.{steps_elsewhere, kept_elsewhere, lives_elsewhere, readies_elsewhere}
use Rattle.shim_process_table.proofs.process_table.ProcessTable.advance.Goals as goal

pub returns-clause-steps : goal.returns-clause-steps
returns-clause-steps g c taken comes =
    let o = g.L.Local.ops in
    let law = (g.met.L.Local g.world.𝓛 g.world.𝓜 g.world.𝓡 ((λ s x. x), (λ x. x), (λ x. x), λ x. x)).laws in
    let v = c.self.inside in
    let before = subst (λ z. QuietlyReaches o z c.args.number taken c.args.last) (sym c.self.view_is) comes in
    subst (λ z. StepsAt o c.args.number taken z (record { states = slice_set v.states.items c.args.number c.args.last; records = c.propagate_stop.new.records.items })) c.self.view_is
    (steps_elsewhere o law v.states.items v.records.items c.propagate_stop.new.records.items c.args.number taken c.args.last c.index.result.now before c.index.ensures c.propagate_stop.ensures.propagates)

pub invariant_of-self : goal.invariant_of-self
invariant_of-self g c =
    let o = g.L.Local.ops in
    let law = (g.met.L.Local g.world.𝓛 g.world.𝓜 g.world.𝓡 ((λ s x. x), (λ x. x), (λ x. x), λ x. x)).laws in
    let v = c.self.inside in
    let before = subst (λ z. QuietlyReaches o z c.args.number c.requires.comes.0 c.args.last) (sym c.self.view_is) c.requires.comes.1 in
    kept_elsewhere o law v.states.items v.records.items c.propagate_stop.new.records.items c.args.number c.requires.comes.0 c.args.last c.index.result.now before c.index.ensures c.propagate_stop.ensures.propagates c.self.invariant

pub returns-clause-newly_ready : goal.returns-clause-newly_ready
returns-clause-newly_ready g c =
    let o = g.L.Local.ops in
    let law = (g.met.L.Local g.world.𝓛 g.world.𝓜 g.world.𝓡 ((λ s x. x), (λ x. x), (λ x. x), λ x. x)).laws in
    let v = c.self.inside in
    let forks = c.propagate_stop.result.forks in
    let before = subst (λ z. QuietlyReaches o z c.args.number c.requires.comes.0 c.args.last) (sym c.self.view_is) c.requires.comes.1 in
    subst (λ z. ReadiesAbove o forks c.args.number z (record { states = slice_set v.states.items c.args.number c.args.last; records = c.propagate_stop.new.records.items })) c.self.view_is
    (readies_elsewhere o law v.states.items v.records.items c.propagate_stop.new.records.items c.args.number c.requires.comes.0 c.args.last c.index.result.now before c.index.ensures c.propagate_stop.ensures.propagates forks c.propagate_stop.ensures.newly_ready)

pub returns-clause-queue : goal.returns-clause-queue
returns-clause-queue g c =
    let o = g.L.Local.ops in
    let law = (g.met.L.Local g.world.𝓛 g.world.𝓜 g.world.𝓡 ((λ s x. x), (λ x. x), (λ x. x), λ x. x)).laws in
    let v = c.self.inside in
    let before = subst (λ z. QuietlyReaches o z c.args.number c.requires.comes.0 c.args.last) (sym c.self.view_is) c.requires.comes.1 in
    let then = lives_elsewhere o law v.states.items v.records.items c.propagate_stop.new.records.items c.args.number c.requires.comes.0 c.args.last c.index.result.now before c.index.ensures c.propagate_stop.ensures.propagates in
    c.propagate_stop.ensures.queue (record { states = slice_set v.states.items c.args.number c.args.last; records = c.propagate_stop.new.records.items }) c.args.number then.0 then.1
