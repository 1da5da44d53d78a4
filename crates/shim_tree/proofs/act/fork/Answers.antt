use Rattle.std.proofs.Common.{◌∙◌, ap, sym, subst}
use Rattle.shim_local.specs.Process.{Parted}
use Rattle.shim_local.specs.Views.{ForkGives}
use Rattle.shim_tree.proofs.Children.{fork_acts}
use Rattle.shim_tree.proofs.act.fork.Goals as goal

pub returns-in-Children-clause-ok : goal.returns-in-Children-clause-ok
returns-in-Children-clause-ok g c =
    let o = g.L.Local.ops in
    fork_acts o c.args.process.now c.fork.new.self c.args.status.now c.into_vec.result c.new-statuses.result c.requires.lives c.requires.forks
    (subst (λ z. ForkGives o c.args.process.now c.fork.new.self z) c.in-Children.is c.in_ok-children.ensures.ok ∙ ap (Parted c.fork.new.self) (sym c.into_vec.ensures))
    c.new-statuses.ensures.items
