use Rattle.std.proofs.Common.{ap, ◌∙◌}
use Rattle.shim_process.specs.Stops.{stmt_receive, receive}
use Rattle.shim_walk.proofs.process.Process.receiver.Goals as goal

pub returns : goal.returns
unfolding receive
returns c = λ v. c.receiver_at.ensures v c.args.self.now ∙ ap (λ o. stmt_receive o v c.args.self.now) c.stmt.ensures
