use Rattle.std.proofs.Common.{◌≡◌, drop, max}
use Rattle.shim_results.specs.AnswerView.{exit_code}
use Rattle.shim_results.specs.Batches.{greatest, statuses_of}
use Rattle.shim_answers.proofs.batched.greatest_status.Given as goal

-- the greatest so far, and of what is left, is the greatest of all
abbrev pub invariant-loop-end : goal.invariant-loop-end
invariant-loop-end l = max (exit_code l.status) (greatest (statuses_of (drop l.end-index l.ends))) ≡ greatest (statuses_of l.ends)
