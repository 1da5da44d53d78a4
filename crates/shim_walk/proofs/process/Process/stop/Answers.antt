use Rattle.std.proofs.Common.{ap, ◌∙◌, sym}
use Rattle.shim_local.specs.Views.{stop_view}
use Rattle.shim_process.specs.LocalState.{LocalState}
use Rattle.shim_process.specs.Stops.{stmt_stop}
use Rattle.shim_walk.specs.States.{trapped_at_of}
use Rattle.shim_walk.specs.StatementContexts.{context_view}
use Rattle.shim_walk.proofs.Standing.{stops_at, stops_trapped}
use Rattle.shim_walk.proofs.process.Process.stop.Goals as goal

pub returns-in-Some : goal.returns-in-Some
returns-in-Some c =
    let e = sym (ap (λ (l : LocalState). l.trap) c.self.view_is) ∙ ap trapped_at_of c.in-Some.is in
    c.at_trap.ensures ∙ stops_trapped c.args.self.now _ e

pub returns-in-None : goal.returns-in-None
returns-in-None c =
    let e = sym (ap (λ (l : LocalState). l.trap) c.self.view_is) ∙ ap trapped_at_of c.in-None.is in
    let f = c.stop_at.ensures ∙ ap (λ o. stmt_stop o (context_view c.context.result)) c.stmt.ensures ∙ ap (stmt_stop _) c.context.ensures.value in
    stops_at c.args.self.now (stop_view c.stop_at.result) e f
