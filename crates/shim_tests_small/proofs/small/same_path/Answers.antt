use Rattle.std.proofs.lemmas.Slice.Eq.{slice_eq-Decides}
use Rattle.shim_local.specs.Sameness.{pair_decides}
use Rattle.shim_tests_small.proofs.small.same_path.Goals as goal

pub returns : goal.returns
returns c = slice_eq-Decides pair_decides c.args.a.now c.args.b.now c.eq.result c.eq.ensures
