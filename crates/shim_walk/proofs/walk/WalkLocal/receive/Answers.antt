use Rattle.shim_walk.proofs.Sounding.{receive_sound}
use Rattle.shim_walk.proofs.walk.WalkLocal.receive.Goals as goal

pub invariant_of-self : goal.invariant_of-self
invariant_of-self c = receive_sound c.self.inside.process c.args.self.now c.receive.new.self c.requires.0 _ c.self.view_is c.self.invariant c.requires.1 c.receive.ensures
