use Rattle.std.proofs.Common.{rules, ◌≡◌, length, sym, ◌∙◌}
use Rattle.shim_semantics.proofs.HowMany.{clash}
use Rattle.shim_net.proofs.Ends.{is_spent, is_neither}
use Rattle.shim_net.proofs.CheckingOut.{none_out}
use Rattle.shim_net.proofs.net.Net.standing.Goals as goal

pub quiescent-requires-after_bounds : goal.quiescent-requires-after_bounds
quiescent-requires-after_bounds g c κs within =
    let none : length c.self.inside.grants.items ≡ 0 = search rules in
    none_out g.L.Local.ops c.self.inside.tree c.self.inside.grants.items c.self.invariant.3 none

pub returns-then-steps-self-clause-standing_is : goal.returns-then-steps-self-clause-standing_is
returns-then-steps-self-clause-standing_is g c =
    let o = g.L.Local.ops in
    let none : length c.self.inside.grants.items ≡ 0 = search rules in
    is_spent o _ c.args.self.now c.self.view_is none (sym c.steps.ensures.steps ∙ c.if-steps-self.true) (λ q. clash c.quiescent.result (c.quiescent.ensures.1 q) c.if-quiescent.false)

pub returns-clause-standing_is : goal.returns-clause-standing_is
returns-clause-standing_is g c =
    let o = g.L.Local.ops in
    is_neither o _ c.args.self.now c.self.view_is (λ e. c.if-steps-self.false (c.steps.ensures.steps ∙ e)) (λ q. clash c.quiescent.result (c.quiescent.ensures.1 q) c.if-quiescent.false)
