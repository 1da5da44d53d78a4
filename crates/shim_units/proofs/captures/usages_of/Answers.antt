use Rattle.std.proofs.Common.{sym, subst, take}
use Rattle.std.proofs.lemmas.List.{take_more}
use Rattle.shim_units.specs.Usages.{ShowUses}
use Rattle.shim_units.proofs.captures.usages_of.Goals as goal

pub loop-found-preserved : goal.loop-found-preserved
loop-found-preserved c =
    subst (λ us. ShowUses c.add_use.new.usages.items c.args.count us) (sym (take_more c.args.uses.now c.loop-found.found-index _ c.loop-found-test.true))
    (c.add_use.ensures c.args.count (take c.loop-found.found-index c.args.uses.now) c.loop-found.invariant)
