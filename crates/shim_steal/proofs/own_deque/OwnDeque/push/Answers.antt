use Rattle.shim_steal.proofs.Allowed.{own_pushes}
use Rattle.shim_steal.proofs.own_deque.OwnDeque.push.Goals as goal

pub push_as-requires-clause-pushes : goal.push_as-requires-clause-pushes
push_as-requires-clause-pushes g c = own_pushes _ c.args.self.now.first _ _ _ c.args.self.now.counted
