use Rattle.std.proofs.Common.{length, take, ◌∙◌}
use Rattle.shim_base.specs.Paths.{same_path}
use Rattle.shim_waits.proofs.Judging.{starts}
use Rattle.shim_waits.proofs.explanation.goes_on.Goals as goal

pub returns : goal.returns
returns c = starts c.args.front.now c.args.path.now c.starts_with.result (c.starts_with.ensures.value ∙ λ t. same_path (c.pairs-2.ensures t) (take (length (c.pairs-2.ensures t)) (c.pairs.ensures t)))
