use Rattle.std.proofs.Common.{◌≡◌}
use Rattle.shim_process.specs.Forks.{root}
use Rattle.shim_net.specs.Nets.{started}
use Rattle.shim_batch.proofs.Runs.{ZipsOn}
use Rattle.shim_answers.proofs.batched.nets_of.Given as goal

abbrev pub invariant-loop-input : goal.invariant-loop-input
invariant-loop-input l = ZipsOn (λ input net. net ≡ started (root l.fn.source input) l.fn.job.budget) l.fn.inputs l.nets l.input-iterator.rest.items
