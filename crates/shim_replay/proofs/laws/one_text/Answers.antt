use Rattle.shim_replay.proofs.Answered.{one_text}
use Rattle.shim_replay.proofs.laws.one_text.Goals as goal

pub returns : goal.returns
returns c = one_text
