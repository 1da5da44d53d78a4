use Rattle.std.proofs.Common.{◌≡◌, ◌++◌, drop}
use Rattle.shim_process.specs.Forks.{labels_from}
use Rattle.shim_walk.proofs.initial_frame.labels_from.Given as goal

abbrev pub invariant-loop-name : goal.invariant-loop-name
invariant-loop-name l = l.labels ++ labels_from l.next (drop l._name-index l.names) ≡ labels_from l.first l.names
