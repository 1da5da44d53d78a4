use Rattle.shim_locations.proofs.Given.{all_given, traps_at, given_at, nil_of, trap_given}
use Rattle.shim_locations.proofs.arguments.arguments.Goals as goal

pub returns-in_default : goal.returns-in_default
returns-in_default c = all_given _ _ _ _ c.loop-param.given _ (nil_of _ c.in_default.ensures.cases) c.loop-param.invariant

pub returns-in_err-argument : goal.returns-in_err-argument
returns-in_err-argument c =
    let h = c.in_err-argument.ensures in
    let m = c.in-Some.ensures.cases in
    let t = traps_at _ _ c.args.params.now c.loop-param.param-index _ c.in-Some.arg.now c.in-Some.after.now c.loop-param.rest.now c.loop-param.given _ _ c.loop-param-test.true m.0 h c.loop-param.invariant in
    trap_given c.from_residual-in_err-argument.result _ _ c.from_residual-in_err-argument.ensures.0 c.from_residual-in_err-argument.ensures.1 t

pub loop-param-preserved : goal.loop-param-preserved
loop-param-preserved c =
    let h = c.in_ok-argument.ensures in
    let m = c.in-Some.ensures.cases in
    given_at _ _ c.args.params.now c.loop-param.param-index _ c.in-Some.arg.now c.in-Some.after.now c.loop-param.rest.now c.loop-param.given c.push.new.self _ _ c.loop-param-test.true m.0 h c.in_ok-push.ensures.ok c.loop-param.invariant
