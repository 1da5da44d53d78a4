use Rattle.shim_steal.proofs.Allowed.{own_pops, own_finds}
use Rattle.shim_steal.proofs.own_deque.OwnDeque.pop.Goals as goal

pub pop_as-requires-clause-fifo : goal.pop_as-requires-clause-fifo
pop_as-requires-clause-fifo g c = λ _. own_pops _ c.args.self.now.first _

pub pop_as-requires-clause-empty : goal.pop_as-requires-clause-empty
pop_as-requires-clause-empty g c = own_finds _ c.args.self.now.first _
