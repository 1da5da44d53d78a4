use Rattle.shim_walk.proofs.Sounding.{put_sound}
use Rattle.shim_walk.proofs.walk.WalkLocal.put.Goals as goal

pub invariant_of-self : goal.invariant_of-self
invariant_of-self c = put_sound c.self.inside.process c.args.self.now c.put.new.self c.self.view_is c.self.invariant c.requires c.put.ensures.after
