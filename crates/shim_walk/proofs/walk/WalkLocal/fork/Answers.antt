use Rattle.shim_walk.proofs.Sounding.{children_sound, lend_sound, trap_sound}
use Rattle.shim_walk.proofs.walk.WalkLocal.fork.Goals as goal

pub invariant_of-self : goal.invariant_of-self
invariant_of-self c = trap_sound c.self.inside.process c.args.self.now c.trap.new.self _ c.in-Trapped.trap c.self.view_is c.self.invariant c.requires c.in-Trapped.is c.in_ok-trap.ensures c.trap.ensures

pub walks-requires : goal.walks-requires
walks-requires c = children_sound c.self.inside.process c.args.self.now _ c.in-Children.children c.in-Children.remainder c.self.view_is c.self.invariant c.requires c.in-Children.is c.in_ok-trap.ensures

pub invariant_of-self-in-Children : goal.invariant_of-self-in-Children
invariant_of-self-in-Children c = lend_sound c.self.inside.process c.args.self.now c.lend.new.self _ c.in-Children.children c.in-Children.remainder c.lend.result c.self.view_is c.self.invariant c.requires c.in-Children.is c.in_ok-trap.ensures c.lend.ensures.ok c.lend.ensures.err
