use Rattle.std.proofs.Common.{sym, subst}
use Rattle.shim_laws_table.specs.NodeStatus.{lives}
use Rattle.shim_run_log.specs.Logged.{logged}
use Rattle.shim_run_state.specs.Fields.{view_of}
use Rattle.shim_run_state.specs.RunStates.{CountedInvariant}
use Rattle.shim_run_state.specs.CheckingOut.{IsHomeAt, ChecksOut}
use Rattle.shim_run_state.proofs.CheckedOut.{out_kept, holds, with_process_lists}
use Rattle.shim_run_state.proofs.run_state.RunState.check_out.Goals as goal

pub set_out-requires-clause-used : goal.set_out-requires-clause-used
set_out-requires-clause-used g c κs within =
    let home = subst (λ z. IsHomeAt g.L.Local.ops z c.args.number c.requires.0) (sym c.self.view_is) c.requires.1 in
    (home.at_quiet.first, c.requires.0, lives, home.at_quiet.has)

pub set_out-requires-clause-serves : goal.set_out-requires-clause-serves
set_out-requires-clause-serves g c κs within = c.self.invariant.0.serves

pub invariant_of-self : goal.invariant_of-self
invariant_of-self g c =
    let o = g.L.Local.ops in
    let w = c.self.inside in
    let v = view_of w.begun.value w.table w.output.items w.histories (logged w.logs.items) w.process_lists w.past.items w.events in
    let home = subst (λ z. IsHomeAt o z c.args.number c.requires.0) (sym c.self.view_is) c.requires.1 in
    subst (λ z. CountedInvariant o (with_process_lists v z) w.taken) (sym c.set_out.ensures.is) (out_kept o v c.self.invariant.0 c.args.number c.requires.0 home c.set_out.ensures.within, c.self.invariant.1)

pub returns : goal.returns
returns g c l h =
    let o = g.L.Local.ops in
    let w = c.self.inside in
    let v = view_of w.begun.value w.table w.output.items w.histories (logged w.logs.items) w.process_lists w.past.items w.events in
    let home = subst (λ z. IsHomeAt o z c.args.number l) (sym c.self.view_is) h in
    subst (λ z. ChecksOut o z (with_process_lists v c.set_out.new.self) c.args.number l) c.self.view_is
    (subst (λ z. ChecksOut o v (with_process_lists v z) c.args.number l) (sym c.set_out.ensures.is) (holds o v c.self.invariant.0 c.args.number l home c.set_out.ensures.within))
