use Rattle.std.proofs.Common.{arith}
use Rattle.std.proofs.lemmas.Grind.{common_steps}
use Rattle.shim_generator.proofs.Pieces.{pipe_pieces}
use Rattle.shim_generator.proofs.sources.pipe.Goals as goal

pub returns : goal.returns
returns c = let whole = pipe_pieces c.args.size in grind (arith, common_steps)
