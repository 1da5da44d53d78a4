use Rattle.std.proofs.Common.{◌≡◌, ◌++◌, drop}
use Rattle.shim_process.specs.StatementViews.{passed_labels}
use Rattle.shim_walk.specs.StatementContexts.{context_view}
use Rattle.shim_walk.proofs.labels.labels_for.Given as goal

abbrev pub invariant-loop-exception : goal.invariant-loop-exception
invariant-loop-exception l = l.passed ++ passed_labels (context_view l.context) (drop l.exception-index l.throws) ≡ passed_labels (context_view l.context) l.throws
