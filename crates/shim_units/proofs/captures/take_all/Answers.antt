use Rattle.std.proofs.Common.{◌∙◌, ◌+◌, ◌∷◌, ◌++◌, [], sym, ap, subst, arith}
use Rattle.std.specs.Prelude.{slice_get}
use Rattle.shim_units.specs.Usages.{TakesBelow, taken_with}
use Rattle.shim_units.proofs.Usages.{takes_more, takes_all}
use Rattle.shim_units.proofs.captures.take_all.Goals as goal

pub loop-at-preserved : goal.loop-at-preserved
loop-at-preserved c =
    let sorts = c.args.sorts.now in
    let us = c.args.uses.now in
    let at = c.loop-at.at in
    let taken = c.take_at.ensures ∙ ap (λ ms. taken_with (slice_get sorts at) (slice_get ms at)) c.as_slice.ensures in
    subst (λ ts. TakesBelow ts (at + 1) sorts us) (sym (c.in_ok-push.ensures.ok ∙ ap (λ v. c.loop-at.made ++ v ∷ []) taken))
    (takes_more c.loop-at.made at sorts us c.in_ok-usages.usages (omega arith) c.in_ok-usages.ensures c.loop-at.invariant)

pub returns : goal.returns
returns c = takes_all c.loop-at.made c.loop-at.at c.args.sorts.now c.args.uses.now (omega arith) (omega arith) c.loop-at.invariant
