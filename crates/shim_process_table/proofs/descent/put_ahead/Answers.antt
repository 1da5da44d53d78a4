use Rattle.std.proofs.Common.{ap, ◌∙◌}
use Rattle.shim_process_table.specs.Descent.{ahead_of}
use Rattle.shim_process_table.proofs.Finding.{put_last}
use Rattle.shim_process_table.proofs.descent.put_ahead.Goals as goal

pub returns-in_ok-push : goal.returns-in_ok-push
returns-in_ok-push c = ap ahead_of c.in_ok-push.ensures.items ∙ put_last c.args.ahead.now.items (record { first = c.args.first; count = c.args.count })
