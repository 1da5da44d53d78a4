use Rattle.shim_walk.proofs.Sounding.{join_sound}
use Rattle.shim_walk.proofs.walk.WalkLocal.join.Goals as goal

pub invariant_of-self : goal.invariant_of-self
invariant_of-self c = join_sound c.self.inside.process c.args.self.now c.join.new.self c.args.children.now c.args.goes_on c.self.view_is c.self.invariant c.requires c.join.ensures
