use Rattle.std.proofs.Common.{drop}
use Rattle.shim_locations.proofs.Lent.{all_lent, one_lent}
use Rattle.shim_locations.proofs.remainder.lend_args.Goals as goal

pub returns-in_default : goal.returns-in_default
returns-in_default c = λ locations. all_lent _ (drop c.loop-param._param-index c.args.params.now) c.loop-param.rest.now _ _ c.in_default.ensures.cases (c.loop-param.invariant locations)

pub loop-param-preserved : goal.loop-param-preserved
loop-param-preserved c = λ locations.
    one_lent _ c.args.params.now c.loop-param._param-index c.in-Some.arg.now c.in-Some.after.now c.loop-param.rest.now _ _ _ c.loop-param-test.true c.in-Some.ensures.cases.0
    (c.in_ok-lend_location.ensures locations) (c.loop-param.invariant locations)
