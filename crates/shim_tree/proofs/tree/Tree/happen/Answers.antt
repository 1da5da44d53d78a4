use Rattle.std.proofs.Common.{◌∙◌, ap}
use Rattle.shim_semantics.specs.Trees.{Steps, after, count_own}
use Rattle.shim_run_log.specs.Events.{event_of}
use Rattle.shim_tree.proofs.Happens.{its_path}
use Rattle.shim_tree.proofs.tree.Tree.happen.Goals as goal

pub step-requires-clause-its : goal.step-requires-clause-its
step-requires-clause-its g c κs within =
    let o = g.L.Local.ops in
    let t = c.args.self.now in
    its_path o Steps c.in-Own.path t.root (λ e. c.requires.enabled (ap (λ z. after o (event_of z) t) c.in-Own.is ∙ ap (count_own c.in-Own.path t) e))
