use Rattle.std.proofs.lemmas.Slice.Eq.{slice_eq-Decides}
use Rattle.shim_tests_small.proofs.Steps.{step_decides}
use Rattle.shim_tests_small.proofs.small.same_steps.Goals as goal

pub returns : goal.returns
returns c = slice_eq-Decides step_decides c.args.a.now c.args.b.now c.eq.result c.eq.ensures
