use Rattle.std.proofs.Common.{drop, sym, ap, ◌∙◌, subst}
use Rattle.shim_process.specs.Todo.{On, followed}
use Rattle.shim_machine.specs.Forking.{after_fork}
use Rattle.shim_machine.specs.Correspondence.{IsCodeOf}
use Rattle.shim_vm.specs.Places.{code_in}
use Rattle.shim_vm.proofs.AtMarks.{fork_behind}
use Rattle.shim_vm.proofs.machine.Machine.after_fork.Goals as goal

pub returns-in-Some : goal.returns-in-Some
returns-in-Some c =
    let m = c.args.self.now in
    let next = c.in-Some.marked.next in
    let is = c.after_fork.ensures ∙ ap (λ x. after_fork next (drop next x)) c.in-Some.ensures.0 ∙ ap (λ n. after_fork n (drop n (code_in m).code)) c.in-Some.ensures.1 in
    subst (λ n. IsCodeOf (code_in m) n (followed On m.process.frame.todo)) (sym is) (fork_behind m c.requires.code c.requires.at)
