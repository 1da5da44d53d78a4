use Rattle.shim_steal.proofs.Allowed.{own_forks}
use Rattle.shim_steal.proofs.own_deque.OwnDeque.share.Goals as goal

pub another-pass-requires : goal.another-pass-requires
another-pass-requires g c = own_forks _ c.args.self.now.first _
