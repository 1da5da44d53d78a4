use Rattle.std.proofs.Common.{false, IsTrue, sym, subst}
use Rattle.std.specs.Prelude.{◌↔◌}
use Rattle.shim_semantics.specs.Trees.{IsQuiescent}
use Rattle.shim_run_state.specs.RunStates.{RunStateView, tree_in}
use Rattle.shim_run_state.specs.CheckingOut.{NoneCheckedOut}
use Rattle.shim_run_state.proofs.Quiescent.{not_yet_quiescent, quiescent_by_queues}
use Rattle.shim_run_state.proofs.run_state.RunState.quiescent.Goals as goal

pub returns-then-not-none_quiet : goal.returns-then-not-none_quiet
returns-then-not-none_quiet g c =
    let o = g.L.Local.ops in
    let law = (g.met.L.Local g.world.𝓛 g.world.𝓜 g.world.𝓡 ((λ s x. x), (λ x. x), (λ x. x), λ x. x)).laws in
    subst (λ (z : RunStateView g.row.L.Denot). IsTrue false ↔ IsQuiescent o (tree_in o z)) c.self.view_is
    (not_yet_quiescent o law _ c.self.invariant.0 (subst (NoneCheckedOut o) (sym c.self.view_is) c.requires) c.ready_queue.result.now c.none_quiet.result c.if-not-none_quiet.true c.none_quiet.ensures)

pub returns : goal.returns
returns g c =
    let o = g.L.Local.ops in
    let law = (g.met.L.Local g.world.𝓛 g.world.𝓜 g.world.𝓡 ((λ s x. x), (λ x. x), (λ x. x), λ x. x)).laws in
    subst (λ (z : RunStateView g.row.L.Denot). IsTrue c.none_due.result ↔ IsQuiescent o (tree_in o z)) c.self.view_is
    (quiescent_by_queues o law _ c.self.invariant.0 (subst (NoneCheckedOut o) (sym c.self.view_is) c.requires) c.ready_queue.result.now c.none_quiet.result c.none_due.result c.event_queue.result.now c.ready_queue.ensures c.event_queue.ensures c.if-not-none_quiet.false c.none_quiet.ensures c.none_due.ensures)
