use Rattle.std.proofs.Common.{slice_set, sym, ap, subst, ◌∙◌}
use Rattle.shim_local.specs.Process.{Parted}
use Rattle.shim_local.specs.Views.{ForkGives}
use Rattle.shim_process_table.specs.Forking.{HasTrappedHere, ForkComesTo}
use Rattle.shim_process_table.proofs.ForkHere.{trapped_here, trapped_kept}
use Rattle.shim_process_table.proofs.process_table.ProcessTable.put_fork.Goals as goal

pub invariant_of-self : goal.invariant_of-self
invariant_of-self g c =
    let o = g.L.Local.ops in
    let law = (g.met.L.Local g.world.𝓛 g.world.𝓜 g.world.𝓡 ((λ s x. x), (λ x. x), (λ x. x), λ x. x)).laws in
    let w = c.self.inside in
    let to = subst (λ v. ForkComesTo o v c.args.fork.number c.args.fork.parent c.args.fork.came) (sym c.self.view_is) c.requires in
    trapped_kept o law (record { states = w.states.items; records = w.records.items }) c.args.fork.number to.0 to.1 c.args.fork.parent to.2 to.3 (subst (ForkGives o to.1 c.args.fork.parent) c.in-Trapped.is to.4) c.self.invariant

pub returns-in-Trapped-clause-ok : goal.returns-in-Trapped-clause-ok
returns-in-Trapped-clause-ok g c =
    let o = g.L.Local.ops in
    let law = (g.met.L.Local g.world.𝓛 g.world.𝓜 g.world.𝓡 ((λ s x. x), (λ x. x), (λ x. x), λ x. x)).laws in
    let w = c.self.inside in
    let to = subst (λ v. ForkComesTo o v c.args.fork.number c.args.fork.parent c.args.fork.came) (sym c.self.view_is) c.requires in
    subst (λ v. HasTrappedHere o c.args.fork.number v (record { states = slice_set w.states.items c.args.fork.number c.args.fork.parent; records = w.records.items })) c.self.view_is
    (trapped_here o law (record { states = w.states.items; records = w.records.items }) c.args.fork.number to.0 to.1 c.args.fork.parent to.2 to.3 (subst (ForkGives o to.1 c.args.fork.parent) c.in-Trapped.is to.4))

pub fork_into-requires-after_bounds : goal.fork_into-requires-after_bounds
fork_into-requires-after_bounds g c κs within =
    let o = g.L.Local.ops in
    let to = c.requires in
    (to.0, to.1, to.2, to.3, subst (ForkGives o to.1 c.args.fork.parent) c.in-Children.is to.4 ∙ ap (Parted c.args.fork.parent) (sym c.into_vec.ensures))
