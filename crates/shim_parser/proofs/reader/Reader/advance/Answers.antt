use Rattle.shim_parser.proofs.Steps.{advanced}
use Rattle.shim_parser.proofs.reader.Reader.advance.Goals as goal

pub invariant_of-self : goal.invariant_of-self
invariant_of-self c = let i = c.self.invariant in
    ((advanced c.self.inside.all.now c.self.inside.at _ c.args.self.now c.self.view_is i.0 c.requires).proper, i.1, i.2, i.3)

pub returns : goal.returns
returns c = (advanced c.self.inside.all.now c.self.inside.at _ c.args.self.now c.self.view_is c.self.invariant.0 c.requires).is
