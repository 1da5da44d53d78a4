use Rattle.shim_steal.proofs.Allowed.{begins}
use Rattle.shim_steal.proofs.own_deque.OwnDeque.new.Goals as goal

pub fifo_as-requires : goal.fifo_as-requires
fifo_as-requires g c = begins
