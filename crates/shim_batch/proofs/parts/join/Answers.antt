use Rattle.std.proofs.Common.{sym, ◌∙◌}
use Rattle.shim_base.proofs.Facts.{no_items}
use Rattle.shim_batch.proofs.Joining.{joins_one, joins_none}
use Rattle.shim_batch.proofs.parts.join.Goals as goal

pub loop-part-preserved : goal.loop-part-preserved
loop-part-preserved g c =
    joins_one c.args.parts.items c.loop-part.values c.append.new.self c.in_ok-part.field-0 c.in-Some.part c.loop-part.part-iterator.rest.items c.next.new.self.rest.items c.in-Some.ensures.steps.0 c.in_ok-part.was c.in_ok-append.ensures.ok
    c.loop-part.invariant

pub returns : goal.returns
returns g c =
    let rest = c.loop-part.part-iterator.rest in
    joins_none c.args.parts.items c.loop-part.values rest.items (no_items rest.items (sym rest.ok.0 ∙ c.in-None.ensures.steps.0)) c.loop-part.invariant
