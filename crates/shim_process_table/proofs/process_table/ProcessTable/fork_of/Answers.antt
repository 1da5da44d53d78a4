use Rattle.std.proofs.Common.{rules, ◌≡◌, get_or, sym, subst}
use Rattle.shim_local.specs.Process.{AtFork}
use Rattle.shim_local.specs.Views.{ForkGives}
use Rattle.shim_process_table.specs.Stepping.{LivesAt}
use Rattle.shim_process_table.specs.Forking.{ForkComesTo}
use Rattle.shim_process_table.proofs.ForkHere.{is_copied}
use Rattle.shim_process_table.proofs.process_table.ProcessTable.fork_of.Goals as goal

pub returns-clause-comes : goal.returns-clause-comes
returns-clause-comes g c =
    let o = g.L.Local.ops in
    let w = c.self.inside in
    let to : LivesAt o (record { states = w.states.items; records = w.records.items }) c.args.number AtFork = subst (λ v. LivesAt o v c.args.number AtFork) (sym c.self.view_is) c.requires in
    let copied : c.in_ok-parent.parent ≡ get_or w.states.items c.args.number c.in_ok-parent.parent = search rules in
    let same = is_copied o c.args.number to.0 w.states.items w.records.items to.1 c.in_ok-parent.parent to.2 copied in
    let gives : ForkGives o c.in_ok-parent.parent c.fork.new.self c.in_ok-came.came = search rules in
    subst (λ v. ForkComesTo o v c.args.number c.fork.new.self c.in_ok-came.came) c.self.view_is (to.0, to.1, to.2, to.3, subst (λ z. ForkGives o z c.fork.new.self c.in_ok-came.came) (sym same) gives)
