use Rattle.shim_steal.proofs.Allowed.{takes}
use Rattle.shim_steal.proofs.other_deque.OtherDeque.take_first.Goals as goal

pub steal_as-requires-clause-takes : goal.steal_as-requires-clause-takes
steal_as-requires-clause-takes g c = takes _ _
