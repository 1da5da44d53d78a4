use Rattle.std.specs.Slice.Iter.{iter_rest}
use Rattle.std.specs.Iterator.Adapters.{zip_first, zip_second}
use Rattle.shim_answers.proofs.BatchNets.{ReportsOn}
use Rattle.shim_answers.proofs.batched.reports.Given as goal

abbrev pub invariant-loop-name : goal.invariant-loop-name
invariant-loop-name l = ReportsOn l.fn.source l.fn.names l.fn.ends l.lines (iter_rest (zip_first l.name-iterator)) (iter_rest (zip_second l.name-iterator))
