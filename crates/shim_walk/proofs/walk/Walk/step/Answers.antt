use Rattle.shim_walk.proofs.Sounding.{step_sound}
use Rattle.shim_walk.proofs.walk.Walk.step.Goals as goal

pub invariant_of-self : goal.invariant_of-self
invariant_of-self c = step_sound c.self.inside.process c.args.self.now c.step.new.self c.step.result c.self.view_is c.self.invariant c.requires c.step.ensures.ok c.step.ensures.err
