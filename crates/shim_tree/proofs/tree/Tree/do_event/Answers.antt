use Rattle.std.proofs.lemmas.Result.{on_ok_weaker}
use Rattle.shim_run_log.specs.Events.{event_of}
use Rattle.shim_semantics.proofs.Counting.{event_counts}
use Rattle.shim_tree.proofs.tree.Tree.do_event.Goals as goal

pub returns-clause-counted : goal.returns-clause-counted
returns-clause-counted g c = on_ok_weaker c.happen.result (λ is. event_counts g.L.Local.ops (event_of c.args.event.now) c.args.self.now c.happen.new.self is) c.happen.ensures.ok
