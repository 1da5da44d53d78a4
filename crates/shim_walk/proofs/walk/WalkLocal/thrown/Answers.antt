use Rattle.shim_walk.proofs.Sounding.{thrown_sound}
use Rattle.shim_walk.proofs.walk.WalkLocal.thrown.Goals as goal

pub invariant_of-self : goal.invariant_of-self
invariant_of-self c = thrown_sound c.self.inside.process c.args.self.now c.thrown.new.self c.requires.0 c.self.view_is c.self.invariant c.requires.1 c.thrown.ensures.after
