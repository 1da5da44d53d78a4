use Rattle.std.proofs.Common.{◌≡◌, ◌+◌, drop}
use Rattle.shim_process.specs.StatementViews.{label_among, label_of}
use Rattle.shim_walk.specs.StatementContexts.{exceptions_of, context_view}
use Rattle.shim_walk.proofs.labels.label_for.Given as goal

abbrev pub invariant-loop-place : goal.invariant-loop-place
invariant-loop-place l = record {
  whole : label_among l.exception l.next (exceptions_of (drop l.place-index l.context.places.now)) l.label ≡ label_of (context_view l.context) l.exception;
  next : l.next ≡ l.context.first + l.place-index;
}
