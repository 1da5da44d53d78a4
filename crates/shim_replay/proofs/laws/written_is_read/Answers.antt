use Rattle.shim_replay.proofs.Answered.{written_is_read}
use Rattle.shim_replay.proofs.laws.written_is_read.Goals as goal

pub returns : goal.returns
returns c = written_is_read
