use Rattle.std.proofs.Common.{◌≡◌, ap, ◌∙◌}
use Rattle.shim_run_log.specs.Events.{event_of}
use Rattle.shim_semantics.specs.Trees.{start}
use Rattle.shim_semantics.specs.Walks.{meaning}
use Rattle.shim_reference.proofs.FirstEvents.{run_ended}
use Rattle.shim_reference.proofs.run.run.Goals as goal

pub returns-clause-tree : goal.returns-clause-tree
returns-clause-tree g c = c.in_ok-do_first_events.ensures.tree ∙ ap (λ t. meaning g.L.Local.ops c.args.budget t) c.in_ok-tree.ensures.tree

pub returns-clause-ran : goal.returns-clause-ran
returns-clause-ran g c =
    let o = g.L.Local.ops in
    let b = c.args.budget in
    let there : c.do_first_events.new.tree ≡ meaning o b (start c.args.root) = c.in_ok-do_first_events.ensures.tree ∙ ap (λ t. meaning o b t) c.in_ok-tree.ensures.tree in
    run_ended o b _ _ event_of c.in_ok-_next._next there c.in_ok-_next.ensures.first c.in_ok-_next.ensures.none c.in_ok-do_first_events.ensures.end
